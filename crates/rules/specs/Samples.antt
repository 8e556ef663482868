-- What the examples are written with. Assumes nothing.
use Rattle.std.specs.Prelude.{ℕ, List, [], ◌∷◌, ℤ, pos, Some, None, Ok, Err, Option, refl}
use Rattle.market.specs.Answers.{Answer}
use Rattle.market.specs.declared.order.Side.{Side}
use Rattle.market.specs.declared.order.Side.TheVariants.{Bid, Offer}
use Rattle.market.specs.declared.order.OrderType.{OrderType}
use Rattle.market.specs.declared.order.OrderType.TheVariants.{FaS}
use Rattle.market.specs.declared.state.Priority.TheVariants.{First, Second}
use Rattle.market.specs.declared.state.Carrier.{Carrier}
use Rattle.market.specs.declared.state.Privilege.{Privilege}
use Rattle.market.specs.declared.record.Cause.{Cause}
use Rattle.market.specs.declared.record.Record.TheVariants.{Quiet, Fill, Session, Rolling, Fbs, Open, Removal}
use Rattle.market.specs.declared.call.Call.{Call}
use Rattle.market.specs.declared.call.Call.TheVariants.{Entry, Change, Cancel, Tick, Draw}
use Rattle.market.specs.declared.refusal.BookFault.{BookFault}
use Rattle.market.specs.declared.refusal.Refusal.TheVariants.{Book}
use Rattle.market.specs.declared.answer.Accepted.TheVariants.{Entered, Done, Drawn}
use Rattle.rules.specs.Base.{each}
use Rattle.rules.specs.Board.{Opening, State, lookup}
use Rattle.rules.specs.Calls.{run, opened}

-- ---- openings

-- ten years, with a lot of 50, the periods of the venue, and these rooms
abbrev pub rooms : ℕ → ℕ → ℕ → Opening
rooms bids offers ends =
    record {
      settings = record { tenor = 10; timed = 10000; rolling = 10000; fbs = 8000; made = refl };
      bids = bids;
      offers = offers;
      ends = ends;
    }

-- the rooms of the venue
abbrev pub ten_years : Opening
ten_years = rooms 128 128 128

-- ---- calls

-- trader, side, type, price, displayed, reserve, end time
abbrev pub enter_as : ℕ → Side → OrderType → ℤ → ℕ → ℕ → Option ℕ → Call
enter_as t s kind p d r end =
    Entry (record { trader = t; side = s; kind = kind; price = p; displayed = d; reserve = r; end = end })

-- a FaS order without an end time: trader, side, price, displayed, reserve
abbrev pub enter : ℕ → Side → ℕ → ℕ → ℕ → Call
enter t s p d r = enter_as t s FaS (pos p) d r None

-- trader, number, price, displayed; no reserve
abbrev pub change : ℕ → ℕ → ℕ → ℕ → Call
change t n p d = Change (record { trader = t; number = n; price = pos p; displayed = d; reserve = 0 })

-- the same with a reserve
abbrev pub rewrite : ℕ → ℕ → ℕ → ℕ → ℕ → Call
rewrite t n p d r = Change (record { trader = t; number = n; price = pos p; displayed = d; reserve = r })

-- trader, number
abbrev pub cancel : ℕ → ℕ → Call
cancel t n = Cancel (record { trader = t; number = n })

-- ---- answers

-- an entry accepted under this number
abbrev pub accepted : ℕ → Answer
accepted n = Ok (Entered n)

abbrev pub done : Answer
done = Ok Done

abbrev pub refused : BookFault → Answer
refused f = Err (Book f)

abbrev pub quiet : ℕ → Answer
quiet t = Ok (Drawn (Quiet t))

-- time, price, size, the bid and what it displays after, the offer and what it displays after
abbrev pub filled : ℕ → ℕ → ℕ → ℕ → ℕ → ℕ → ℕ → Answer
filled t p size bid left offer left' =
    Ok (Drawn (Fill t (record { price = pos p; size = size; bid = bid; bidleft = left; offer = offer; offerleft = left' })))

-- time, price, number of the passive order
abbrev pub session : ℕ → ℕ → ℕ → Answer
session t p n = Ok (Drawn (Session t (pos p) n))

abbrev pub rolling : ℕ → Answer
rolling t = Ok (Drawn (Rolling t))

abbrev pub fbs : ℕ → Answer
fbs t = Ok (Drawn (Fbs t))

abbrev pub reopened : ℕ → Answer
reopened t = Ok (Drawn (Open t))

-- time, number, displayed, cause
abbrev pub removed : ℕ → ℕ → ℕ → Cause → Answer
removed t n d why = Ok (Drawn (Removal t n d why))

-- ---- states

abbrev pub after : List Call → State
after cs = run ten_years opened cs

-- bid 1 with a reserve and offer 2 that meets it, drawn to quiet
abbrev pub begun : State
begun = after (enter 1 Bid 100 50 100 ∷ Draw ∷ enter 2 Offer 98 50 0 ∷ Draw ∷ Draw ∷ Draw ∷ [])

-- after that session, which had an Aggressive Owner, bid 3 and offer 4 begin another at 101, in which bid 1 has no part
abbrev pub second_session : State
second_session =
    run ten_years begun
    (Tick 30000 ∷ Draw ∷ Draw ∷ Draw ∷ Draw ∷ enter 3 Bid 101 100 0 ∷ Draw ∷ enter 4 Offer 101 50 0 ∷ Draw ∷ Draw ∷ Draw ∷ [])

-- a session at 100 with fills 1 and 2, the latter at 5,000; all its orders are filled whole, and Rolling has begun
abbrev pub in_rolling : State
in_rolling =
    after
    (enter 1 Bid 100 50 0 ∷ Draw ∷ enter 2 Offer 100 50 0 ∷ Draw ∷ Draw ∷ Draw ∷ Tick 5000 ∷ Draw ∷ enter 1 Bid 100 50 0 ∷ Draw ∷
    enter 2 Offer 100 50 0 ∷ Draw ∷ Draw ∷ Tick 10000 ∷ Draw ∷ Draw ∷ [])

-- the numbers and prices of the live orders
abbrev pub prices : State → List (ℕ × ℤ)
prices S = each (λ o. (o.number, o.price)) S.board.orders

-- the privilege of a trader on a side
abbrev pub privilege : State → ℕ → Side → Option Privilege
privilege S t s = lookup S.board.privileges t s

-- a Priority 1 or 2, earned by this fill
abbrev pub priority_one : ℕ → Carrier → Option Privilege
priority_one n c = Some (record { priority = First; earned = n; carrier = c })

abbrev pub priority_two : ℕ → Carrier → Option Privilege
priority_two n c = Some (record { priority = Second; earned = n; carrier = c })
