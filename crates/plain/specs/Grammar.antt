-- Which lines are calls, and which calls they are. Assumes nothing.
use Rattle.std.specs.Prelude.{ℕ, Bool, cond, ◌||◌, List, [], length, ℤ, Some, None, Ok, Err, codes, Option, Result, ◌==◌, nat_lt}
use Rattle.std.specs.Borrow.{Bor}
use Rattle.std.specs.Str.{bytes_eq}
use Rattle.std.specs.Option.{option_map}
use Rattle.market.specs.declared.call.OrderChange.{OrderChange}
use Rattle.market.specs.declared.call.OrderCancel.{OrderCancel}
use Rattle.market.specs.declared.order.Side.{Side}
use Rattle.market.specs.declared.order.OrderType.{OrderType}
use Rattle.layout.specs.Numbers.{byte}
use Rattle.wire_in.specs.Messages.{Message, entry, change, cancel, tick, draw, said}
use Rattle.wire_in.specs.declared.message.CallMessage.{CallMessage}
use Rattle.plain.specs.declared.word.Verb.{Verb}
use Rattle.plain.specs.declared.word.Verb.TheVariants.{Entry, Change, Cancel, Tick, Draw}
use Rattle.plain.specs.declared.fault.Name.{Name}
use Rattle.plain.specs.declared.fault.Name.TheVariants.{Trader, Order, Price, Displayed, Reserve, End, Time, Reference}
use Rattle.plain.specs.declared.fault.TextFault.{TextFault}
use Rattle.plain.specs.declared.fault.TextFault.TheVariants.{Call as NoCall, Missing, Value, Side as NoSide, OrderType as NoType, More}
use Rattle.plain.specs.Numerals.{numeral, signed_of}
use Rattle.plain.specs.Words.{first_word, after_word, name_of, side_of, type_of, verb_of}

-- a value and the text that follows it, or why there is none
abbrev pub Parsed : Type 0 → Type 0
Parsed X = Result (X × List ℕ) TextFault

-- the same of code's answers, wherever the text lies
abbrev pub followed : {X : Type 0} → Result (X × Bor (List ℕ)) TextFault → Parsed X
followed (Ok p) = Ok (p.0, p.1.now)
followed (Err f) = Err f

abbrev pub both : Result (Bor (List ℕ) × Bor (List ℕ)) TextFault → Parsed (List ℕ)
both (Ok p) = Ok (p.0.now, p.1.now)
both (Err f) = Err f

abbrev pub shown : Result (Bor (List ℕ)) TextFault → Result (List ℕ) TextFault
shown (Ok r) = Ok r.now
shown (Err f) = Err f

-- a value, and then what the rest of the text gives with it
abbrev pub then : {X Y : Type 0} → Parsed X → (X → List ℕ → Result Y TextFault) → Result Y TextFault
then (Ok p) f = f p.0 p.1
then (Err e) f = Err e

-- a word's value, and the text that follows the word
abbrev pub worth : {X : Type 0} → TextFault → Option X → List ℕ → Parsed X
worth fault (Some x) rest = Ok (x, rest)
worth fault None rest = Err fault

-- the word behind the name of a field
abbrev pub value_in : Name → List ℕ → Parsed (List ℕ)
value_in name bs =
    cond (bytes_eq (first_word bs) (name_of name)) (Ok (first_word (after_word bs), after_word (after_word bs))) (Err (Missing name))

-- the number behind the name of a field, as a word writes such numbers
abbrev pub written_in : {X : Type 0} → (List ℕ → Option X) → Name → List ℕ → Parsed X
written_in written name bs = then (value_in name bs) (λ word rest. worth (Value name) (written word) rest)

abbrev pub number_in : Name → ℕ → List ℕ → Parsed ℕ
number_in name most bs = written_in (numeral most) name bs

abbrev pub price_in : List ℕ → Parsed ℤ
price_in bs = written_in signed_of Price bs

-- a time above 0
abbrev pub timed : Option ℕ → List ℕ → Parsed (Option ℕ)
timed (Some n) rest = cond (n == 0) (Err (Value End)) (Ok (Some n, rest))
timed None rest = Err (Value End)

-- that, or `none`
abbrev pub end_in : List ℕ → Parsed (Option ℕ)
end_in bs =
    then (value_in End bs) (λ word rest.
    cond (bytes_eq word (codes "none")) (Ok (None, rest)) (timed (numeral 18446744073709551615 word) rest))

-- what the first word writes, or that it writes nothing of the kind
abbrev pub known_in : {X : Type 0} → (List ℕ → Option X) → TextFault → List ℕ → Parsed X
known_in written fault bs = worth fault (written (first_word bs)) (after_word bs)

abbrev pub side_in : List ℕ → Parsed Side
side_in bs = known_in side_of NoSide bs

abbrev pub type_in : List ℕ → Parsed OrderType
type_in bs = known_in type_of NoType bs

-- no word is left
abbrev pub none : List ℕ → Bool
none bs = length (first_word bs) == 0

abbrev pub ended_in : List ℕ → Result (Unit {0}) TextFault
ended_in bs = cond (none bs) (Ok tt) (Err More)

-- a reference of 1 to 16 bytes and nothing else, or nothing at all
abbrev pub reference_in : List ℕ → Result (List ℕ) TextFault
reference_in bs =
    cond (none bs) (Ok [])
    (then (value_in Reference bs) (λ word rest.
    cond (length word == 0 || nat_lt 16 (length word)) (Err (Value Reference))
    (cond (none rest) (Ok word) (Err More))))

-- what follows an outcome that leaves no text
abbrev pub made : {X Y : Type 0} → Result X TextFault → (X → Y) → Result Y TextFault
made (Ok x) f = Ok (f x)
made (Err e) f = Err e

abbrev pub entry_in : List ℕ → Result Message TextFault
entry_in bs =
    then (number_in Trader 255 bs) (λ trader bs.
    then (side_in bs) (λ side bs.
    then (type_in bs) (λ kind bs.
    then (price_in bs) (λ price bs.
    then (number_in Displayed 4294967295 bs) (λ displayed bs.
    then (number_in Reserve 4294967295 bs) (λ reserve bs.
    then (end_in bs) (λ end bs.
    made (reference_in bs) (λ reference.
    entry (record { trader = trader; side = side; kind = kind; price = price; displayed = displayed; reserve = reserve; end = end }) reference))))))))

abbrev pub change_in : List ℕ → Result OrderChange TextFault
change_in bs =
    then (number_in Trader 255 bs) (λ trader bs.
    then (number_in Order 4294967295 bs) (λ number bs.
    then (price_in bs) (λ price bs.
    then (number_in Displayed 4294967295 bs) (λ displayed bs.
    then (number_in Reserve 4294967295 bs) (λ reserve bs.
    made (ended_in bs) (λ _.
    record { trader = trader; number = number; price = price; displayed = displayed; reserve = reserve }))))))

abbrev pub cancel_in : List ℕ → Result OrderCancel TextFault
cancel_in bs =
    then (number_in Trader 255 bs) (λ trader bs.
    then (number_in Order 4294967295 bs) (λ number bs.
    made (ended_in bs) (λ _. record { trader = trader; number = number })))

abbrev pub tick_in : List ℕ → Result ℕ TextFault
tick_in bs = then (number_in Time 18446744073709551615 bs) (λ time bs. made (ended_in bs) (λ _. time))

abbrev pub call_in : Verb → List ℕ → Result Message TextFault
call_in Entry bs = entry_in bs
call_in Change bs = made (change_in bs) (λ c. change c)
call_in Cancel bs = made (cancel_in bs) (λ c. cancel c)
call_in Tick bs = made (tick_in bs) (λ time. tick time)
call_in Draw bs = made (ended_in bs) (λ _. draw)

-- a line without a word, or whose first word begins with #
abbrev pub remark : List ℕ → Bool
remark bs = none bs || byte 0 (first_word bs) == 35

abbrev pub line_in : List ℕ → Result (Option Message) TextFault
line_in bs =
    cond (remark bs) (Ok None)
    (then (known_in verb_of NoCall bs) (λ verb bs. made (call_in verb bs) (λ m. Some m)))

-- the same of code's answers
abbrev pub heard : Result CallMessage TextFault → Result Message TextFault
heard r = made r said

abbrev pub heard_line : Result (Option CallMessage) TextFault → Result (Option Message) TextFault
heard_line r = made r (option_map said)
