-- Words. Assumes nothing.
use Rattle.std.specs.Prelude.{ℕ, Bool, true, false, cond, not, ◌||◌, List, take, drop, Some, None, codes, Option, ◌==◌}
use Rattle.std.specs.List.{prefix_len}
use Rattle.std.specs.Str.{bytes_eq}
use Rattle.market.specs.declared.order.Side.{Side}
use Rattle.market.specs.declared.order.Side.TheVariants.{Bid, Offer}
use Rattle.market.specs.declared.order.OrderType.{OrderType}
use Rattle.market.specs.declared.order.OrderType.TheVariants.{FaS, FaK, FaKI}
use Rattle.plain.specs.declared.fault.Name.{Name}
use Rattle.plain.specs.declared.fault.Name.TheVariants.{Trader, Order, Price, Displayed, Reserve, End, Time, Reference}
use Rattle.plain.specs.declared.word.Verb.{Verb}
use Rattle.plain.specs.declared.word.Verb.TheVariants.{Entry, Change, Cancel, Tick, Draw}

-- a space, a tab or a carriage return
abbrev pub blank : ℕ → Bool
blank b = b == 32 || (b == 9 || b == 13)

-- it is blank, or it is not
abbrev pub alike : Bool → ℕ → Bool
alike true b = blank b
alike false b = not (blank b)

-- the text from its first word on
abbrev pub trimmed : List ℕ → List ℕ
trimmed bs = drop (prefix_len (alike true) bs) bs

-- the first word, which is empty where there is none, and what follows it
abbrev pub first_word : List ℕ → List ℕ
first_word bs = take (prefix_len (alike false) (trimmed bs)) (trimmed bs)

abbrev pub after_word : List ℕ → List ℕ
after_word bs = drop (prefix_len (alike false) (trimmed bs)) (trimmed bs)

abbrev pub name_of : Name → List ℕ
name_of Trader = codes "trader"
name_of Order = codes "order"
name_of Price = codes "price"
name_of Displayed = codes "displayed"
name_of Reserve = codes "reserve"
name_of End = codes "end"
name_of Time = codes "time"
name_of Reference = codes "reference"

abbrev pub side_of : List ℕ → Option Side
side_of w = cond (bytes_eq w (codes "bid")) (Some Bid) (cond (bytes_eq w (codes "offer")) (Some Offer) None)

abbrev pub type_of : List ℕ → Option OrderType
type_of w =
    cond (bytes_eq w (codes "FaS")) (Some FaS)
    (cond (bytes_eq w (codes "FaK")) (Some FaK)
    (cond (bytes_eq w (codes "FaKI")) (Some FaKI) None))

abbrev pub verb_of : List ℕ → Option Verb
verb_of w =
    cond (bytes_eq w (codes "entry")) (Some Entry)
    (cond (bytes_eq w (codes "change")) (Some Change)
    (cond (bytes_eq w (codes "cancel")) (Some Cancel)
    (cond (bytes_eq w (codes "tick")) (Some Tick)
    (cond (bytes_eq w (codes "draw")) (Some Draw) None))))
