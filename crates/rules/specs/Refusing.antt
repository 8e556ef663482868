-- Which calls the book refuses: of the tests that a call meets, in their order, the first that it fails. Assumes nothing.
use Rattle.std.specs.Prelude.{ℕ, ◌%◌, Bool, true, false, cond, not, ◌&&◌, ◌||◌, List, [], ◌∷◌, length, ℤ, pos, neg_ℤ, Some, None, Option, ◌==◌, int_le, nat_le, nat_lt}
use Rattle.line.specs.declared.lines.LineFault.TheVariants.{Full}
use Rattle.market.specs.Tenors.{within}
use Rattle.market.specs.declared.order.Side.{Side}
use Rattle.market.specs.declared.order.Side.TheVariants.{Bid, Offer}
use Rattle.market.specs.declared.order.Order.{Order}
use Rattle.market.specs.declared.call.OrderEntry.{OrderEntry}
use Rattle.market.specs.declared.call.OrderChange.{OrderChange}
use Rattle.market.specs.declared.refusal.BookFault.TheVariants.{NotQuiet, Time, Trader, Order as Unknown, Price, Size, End, Better, Own, Writes, Orders}
use Rattle.market.specs.declared.refusal.Refusal.{Refusal}
use Rattle.market.specs.declared.refusal.Refusal.TheVariants.{Book, Line}
use Rattle.rules.specs.Base.{is_some, verdict, any, count, find}
use Rattle.rules.specs.Board.{Opening, Board, lot, other, on, better, in_session, numbered}

-- ---- limits

-- the last time that there is
abbrev pub last_time : ℕ
last_time = 1000000000000

abbrev pub most_writes : ℕ
most_writes = 1000000

abbrev pub most_orders : ℕ
most_orders = 128

abbrev pub is_trader : ℕ → Bool
is_trader t = within 1 128 t

abbrev pub is_price : ℤ → Bool
is_price p = int_le (neg_ℤ (pos 1000000)) p && int_le p (pos 1000000)

-- a multiple of the lot, up to 1,000,000
unfoldable pub is_size : Opening → ℕ → Bool
is_size k n = n % lot k == 0 && nat_le n 1000000

-- ---- tests

-- a time that is not after the book's, or past the last
abbrev pub untimely : ℕ → Option ℕ → Bool
untimely time None = false
untimely time (Some t) = nat_le t time || nat_lt last_time t

-- an order on the side at the price would meet the other side's price
abbrev pub would_meet : Side → ℤ → ℤ → Bool
would_meet Bid p q = int_le q p
would_meet Offer p q = int_le p q

-- an order of the trader's own on the other side would meet the price
unfoldable pub own_meets : List Order → ℕ → Side → ℤ → Bool
own_meets os t s p = any (λ o. (o.trader == t) && (on (other s) o && would_meet s p o.price)) os

abbrev pub room_for : Opening → Side → ℕ
room_for k Bid = k.bids
room_for k Offer = k.offers

abbrev pub ending : Order → Bool
ending o = is_some o.end

-- the side's line, or the end line if it is needed, is at its room
unfoldable pub line_full : Opening → List Order → Side → Option ℕ → Bool
line_full k os s end = nat_le (room_for k s) (count (on s) os) || (is_some end && nat_le k.ends (count ending os))

-- in a session an entry better than its price is re-priced to it
unfoldable pub entry_price : Board → Side → ℤ → ℤ
entry_price b s p = cond (in_session b.phase && better s p b.session.price) b.session.price p

-- the trader's live order with that number
unfoldable pub owned : Board → ℕ → ℕ → Option Order
owned b t n = find (λ o. numbered n o && o.trader == t) b.orders

-- ---- the calls; whether the reserve is a size is told, so that nothing else of it can be used

abbrev pub bad_sizes : Opening → ℕ → Bool → Bool
bad_sizes k displayed reserve_is_size = not (is_size k displayed && reserve_is_size) || displayed == 0

unfoldable pub entry_tests : Opening → Board → OrderEntry → Bool → List (Bool × Refusal)
entry_tests k b e reserve_is_size =
    (not b.clock.quiet, Book NotQuiet) ∷
    (not (is_trader e.trader), Book Trader) ∷
    (not (is_price e.price), Book Price) ∷
    (bad_sizes k e.displayed reserve_is_size, Book Size) ∷
    (untimely b.clock.time e.end, Book End) ∷
    (own_meets b.orders e.trader e.side (entry_price b e.side e.price), Book Own) ∷
    (nat_le most_writes b.counters.writes, Book Writes) ∷
    (nat_le most_orders (length b.orders), Book Orders) ∷
    (line_full k b.orders e.side e.end, Line Full) ∷ []

unfoldable pub entry_refusal : Opening → Board → OrderEntry → Bool → Option Refusal
entry_refusal k b e reserve_is_size = verdict (entry_tests k b e reserve_is_size)

-- what a change of this order meets
unfoldable pub change_tests : Opening → Board → OrderChange → Order → Bool → List (Bool × Refusal)
change_tests k b c o reserve_is_size =
    (not (is_price c.price), Book Price) ∷
    (bad_sizes k c.displayed reserve_is_size, Book Size) ∷
    (in_session b.phase && better o.side c.price b.session.price, Book Better) ∷
    (own_meets b.orders c.trader o.side c.price, Book Own) ∷
    (nat_le most_writes b.counters.writes, Book Writes) ∷ []

abbrev pub change_of : Option Order → Opening → Board → OrderChange → Bool → List (Bool × Refusal)
change_of None k b c reserve_is_size = (true, Book Unknown) ∷ []
change_of (Some o) k b c reserve_is_size = change_tests k b c o reserve_is_size

unfoldable pub change_refusal : Opening → Board → OrderChange → Bool → Option Refusal
change_refusal k b c reserve_is_size =
    verdict (
    (not b.clock.quiet, Book NotQuiet) ∷
    (not (is_trader c.trader), Book Trader) ∷
    change_of (owned b c.trader c.number) k b c reserve_is_size)

unfoldable pub cancel_refusal : Board → ℕ → ℕ → Option Refusal
cancel_refusal b t n =
    verdict (
    (not b.clock.quiet, Book NotQuiet) ∷
    (not (is_trader t), Book Trader) ∷
    (not (is_some (owned b t n)), Book Unknown) ∷ [])

unfoldable pub tick_refusal : Board → ℕ → Option Refusal
tick_refusal b t =
    verdict (
    (not b.clock.quiet, Book NotQuiet) ∷
    (nat_lt t b.clock.time || nat_lt last_time t, Book Time) ∷ [])
