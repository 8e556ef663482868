-- What holds of every state that calls lead to. Assumes nothing.
use Rattle.std.specs.Prelude.{◌≡◌, ℕ, ◌+◌, ◌*◌, ◌<◌, ◌≤◌, true, List, length, Some, None, Option}
use Rattle.market.specs.declared.order.Side.TheVariants.{Bid, Offer}
use Rattle.market.specs.declared.order.Order.{Order}
use Rattle.market.specs.declared.state.Phase.{Phase}
use Rattle.market.specs.declared.state.Clock.{Clock}
use Rattle.market.specs.declared.state.Counters.{Counters}
use Rattle.market.specs.declared.state.Session.{Session}
use Rattle.market.specs.declared.call.Call.{Call}
use Rattle.rules.specs.Base.{count}
use Rattle.rules.specs.Board.{Opening, State, on}
use Rattle.rules.specs.Draws.{phase_end}
use Rattle.rules.specs.Refusing.{last_time, most_writes, most_orders, is_trader, is_price, is_size, ending}
use Rattle.rules.specs.Calls.{run, opened}
use Rattle.rules.specs.Members.{In}
use Rattle.rules.specs.Rising.{Ascends}
use Rattle.rules.specs.Sizes.{sizes}

-- ---- the orders

-- trader, price and sizes of a live order with its reserve are lawful, and it displays something
pub record Lawful (k : Opening) (hidden : ℕ) (o : Order) : Type 0 where
  pub trader : is_trader o.trader ≡ true
  pub price : is_price o.price ≡ true
  pub displayed : is_size k o.displayed ≡ true
  pub visible : 0 < o.displayed
  pub shown : is_size k o.shown ≡ true
  pub restocked : o.displayed ≤ o.shown
  pub reserve : is_size k hidden ≡ true

-- orders stand by ascending number, from 1 on and below the next, and are no more than the book and its lines hold
pub record Row (k : Opening) (next : ℕ) (hidden : ℕ → ℕ) (os : List Order) : Type 0 where
  pub rising : Ascends 1 next os
  pub lawful : (o : Order) → In o os → Lawful k (hidden o.number) o
  pub few : length os ≤ most_orders
  pub bids : count (on Bid) os ≤ k.bids
  pub offers : count (on Offer) os ≤ k.offers
  pub ends : count ending os ≤ k.ends

-- ---- the counters

-- an entry or change brings at most a stamp, and 1,000,000 of each size; a restock or fill takes some of what stands
pub record Counted (standing : ℕ) (c : Counters) : Type 0 where
  pub numbers : c.number ≤ c.writes + 1
  pub writes : c.writes ≤ most_writes
  pub stamps : c.stamp + standing ≤ c.writes * 2000001 + 1
  pub fills : c.fills + standing ≤ c.writes * 2000000

-- ---- the clock

-- a moment, if there is one, is not past
abbrev pub NotPast : ℕ → Option ℕ → Type 0
NotPast time None = Unit {0}
NotPast time (Some t) = time ≤ t

-- time does not pass the wished time, nor a moment that is to come; what has been lies before it
pub record Timely (k : Opening) (p : Phase) (c : Clock) (s : Session) (os : List Order) : Type 0 where
  pub wished : c.wished ≤ last_time
  pub time : c.time ≤ c.wished
  pub since : s.since ≤ c.time
  pub last : s.last ≤ c.time
  pub phase : NotPast c.time (phase_end p k.settings s)
  pub ends : (o : Order) → In o os → NotPast c.time o.end

-- ---- all of it

pub record Sound (k : Opening) (S : State) : Type 0 where
  pub row : Row k S.board.counters.number S.hidden S.board.orders
  pub counted : Counted (sizes S.hidden S.board.orders) S.board.counters
  pub timely : Timely k S.board.phase S.board.clock S.board.session S.board.orders
  pub price : is_price S.board.session.price ≡ true
  pub completions : length S.board.completions ≡ 258
  pub privileges : length S.board.privileges ≡ 258

abbrev pub StaysSound : Type 0
StaysSound = (k : Opening) (calls : List Call) → Sound k (run k opened calls)
