-- What holds of prices, priors and fills in every state that calls lead to. Assumes nothing.
use Rattle.std.specs.Prelude.{◌≡◌, ℕ, ◌<◌, true, false, ◌⊎◌, List, ◌≤ℤ◌, Some, Ok}
use Rattle.market.specs.declared.order.Side.{Side}
use Rattle.market.specs.declared.order.Side.TheVariants.{Bid, Offer}
use Rattle.market.specs.declared.order.OrderType.TheVariants.{FaK, FaKI}
use Rattle.market.specs.declared.order.Order.{Order}
use Rattle.market.specs.declared.state.Phase.TheVariants.{Timed, Fbs}
use Rattle.market.specs.declared.state.Session.{Session}
use Rattle.market.specs.declared.record.Fill.{Fill}
use Rattle.market.specs.declared.record.Record.TheVariants.{Fill as FillRecord}
use Rattle.market.specs.declared.call.Call.{Call}
use Rattle.market.specs.declared.call.Call.TheVariants.{Draw}
use Rattle.market.specs.declared.answer.Accepted.TheVariants.{Drawn}
use Rattle.rules.specs.Base.{is_some}
use Rattle.rules.specs.Board.{Opening, Board, better, meet, in_session, is_open}
use Rattle.rules.specs.Entitlement.{entitled, first_entitled}
use Rattle.rules.specs.Draws.{phase_end}
use Rattle.rules.specs.Calls.{step, run, opened}
use Rattle.rules.specs.Members.{In}

-- a bid is at or above an offer
pub record Meets (bid offer : Order) : Type 0 where
  pub bids : bid.side ≡ Bid
  pub offers : offer.side ≡ Offer
  pub met : offer.price ≤ℤ bid.price

-- the last accepted entry or change named it
abbrev pub Incoming : Board → Order → Type 0
Incoming b o = b.counters.incoming ≡ Some o.number

-- ---- at all times

-- the session has had a fill
pub record Traded (s : Session) : Type 0 where
  pub buyer : is_some s.buyer ≡ true
  pub seller : is_some s.seller ≡ true

-- the session has just begun: it has a pair to fill, and has not been quiet yet
pub record JustBegun (b : Board) : Type 0 where
  pub timed : b.phase ≡ Timed
  pub unsettled : b.session.settled ≡ false
  pub unquiet : b.clock.quiet ≡ false
  pub bid : is_some (first_entitled b Bid) ≡ true
  pub offer : is_some (first_entitled b Offer) ≡ true

pub record Orderly (b : Board) : Type 0 where
  -- outside a session, one of a bid and an offer that meet is the incoming order
  pub incoming : in_session b.phase ≡ false → (x y : Order) → In x b.orders → In y b.orders → Meets x y → Incoming b x ⊎ Incoming b y
  -- in a session no order is better than its price
  pub worse : in_session b.phase ≡ true → (o : Order) → In o b.orders → better o.side o.price b.session.price ≡ false
  -- a trader's own orders do not meet
  pub apart : (x y : Order) → In x b.orders → In y b.orders → Meets x y → ¬ (x.trader ≡ y.trader)
  -- in a session prior orders are on the passive side, at its price
  pub prior : in_session b.phase ≡ true → (o : Order) → In o b.orders → o.prior ≡ true →
      (o.side ≡ b.session.passive) × (o.price ≡ b.session.price)
  -- a session has had a fill, or is about to have its first; the FBS Period follows one that had
  pub traded : is_open b.phase ≡ false → Traded b.session ⊎ JustBegun b

abbrev pub StaysOrderly : Type 0
StaysOrderly = (k : Opening) (calls : List Call) → Orderly (run k opened calls).board

-- ---- when the tape is quiet

-- no live order of the side may trade
abbrev pub NoneEntitled : Board → Side → Type 0
NoneEntitled b s = (o : Order) → In o b.orders → entitled b s o ≡ false

pub record Settled (k : Opening) (b : Board) : Type 0 where
  pub arrived : b.clock.time ≡ b.clock.wished
  -- in Open, Rolling and the FBS Period prices do not meet
  pub unmet : ¬ (b.phase ≡ Timed) → meet b.orders ≡ false
  pub unpaired : NoneEntitled b Bid ⊎ NoneEntitled b Offer
  pub immediate : (o : Order) → In o b.orders → ¬ (o.kind ≡ FaKI)
  pub killed : in_session b.phase ≡ false → (o : Order) → In o b.orders → o.kind ≡ FaK → o.filled ≡ false
  -- what is to come lies ahead
  pub ends : (o : Order) (t : ℕ) → In o b.orders → o.end ≡ Some t → b.clock.time < t
  pub phase : (t : ℕ) → phase_end b.phase k.settings b.session ≡ Some t → b.clock.time < t
  -- no session is quiet before it has had a fill
  pub traded : is_open b.phase ≡ false → Traded b.session

abbrev pub QuietSettled : Type 0
QuietSettled = (k : Opening) (calls : List Call) → (run k opened calls).board.clock.quiet ≡ true → Settled k (run k opened calls).board

-- ---- when a draw answers a fill

-- the fill is of a bid and an offer that meet, of two traders; in the FBS Period one of them is the incoming order
pub record OfTwo (b : Board) (f : Fill) : Type 0 where
  pub bid : Order
  pub offer : Order
  pub bids : In bid b.orders
  pub offers : In offer b.orders
  pub bid_number : bid.number ≡ f.bid
  pub offer_number : offer.number ≡ f.offer
  pub meets : Meets bid offer
  pub traders : ¬ (bid.trader ≡ offer.trader)
  pub incoming : b.phase ≡ Fbs → Incoming b bid ⊎ Incoming b offer

abbrev pub FillsOfTwo : Type 0
FillsOfTwo =
    (k : Opening) (calls : List Call) (time : ℕ) (f : Fill) → (step k (run k opened calls) Draw).0 ≡ Ok (Drawn (FillRecord time f)) →
    OfTwo (run k opened calls).board f
