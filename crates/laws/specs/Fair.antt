-- Fills are fair: each is of the two orders that are entitled and ahead of every other entitled one on their sides, and the tape
-- rests only while a side has no entitled order. All words here are relations of a book's board. Assumes nothing.
use Rattle.std.specs.Prelude.{◌≡◌, ℕ, ◌<◌, true, ◌⊎◌, List, ℤ, ◌≤ℤ◌, ◌<ℤ◌, Some, Ok, ◌≢◌}
use Rattle.market.specs.Ranks.{class_number, place}
use Rattle.market.specs.declared.order.Side.{Side}
use Rattle.market.specs.declared.order.Side.TheVariants.{Bid, Offer}
use Rattle.market.specs.declared.order.Order.{Order}
use Rattle.market.specs.declared.state.Phase.{Phase}
use Rattle.market.specs.declared.state.Phase.TheVariants.{Open, Timed, Rolling, Fbs}
use Rattle.market.specs.declared.state.Session.{Session}
use Rattle.market.specs.declared.state.Priority.{Priority}
use Rattle.market.specs.declared.state.Priority.TheVariants.{First as FirstPriority, Second as SecondPriority}
use Rattle.market.specs.declared.state.Carrier.TheVariants.{Order as By}
use Rattle.market.specs.declared.standing.Standing.{Standing}
use Rattle.market.specs.declared.standing.Standing.TheVariants.{Last, First, Second, Plain}
use Rattle.market.specs.declared.record.Record.{Record}
use Rattle.market.specs.declared.record.Record.TheVariants.{Quiet, Fill, Session as SessionRecord, Rolling as RollingRecord, Fbs as FbsRecord, Open as OpenRecord, Removal}
use Rattle.market.specs.declared.call.Call.{Call}
use Rattle.market.specs.declared.call.Call.TheVariants.{Draw}
use Rattle.market.specs.declared.answer.Accepted.TheVariants.{Drawn}
use Rattle.rules.specs.Board.{Opening, Board, other, lookup}
use Rattle.rules.specs.Calls.{step, run, opened}
use Rattle.rules.specs.Members.{In}

-- ---- prices

-- a bid is better if higher, an offer if lower
abbrev pub Better : Side → ℤ → ℤ → Type 0
Better Bid p q = q <ℤ p
Better Offer p q = p <ℤ q

pub record Live (b : Board) (s : Side) (o : Order) : Type 0 where
  pub listed : In o b.orders
  pub side : o.side ≡ s

-- a live bid is at or above a live offer
pub record Meet (b : Board) : Type 0 where
  pub bid : Order
  pub offer : Order
  pub bids : Live b Bid bid
  pub offers : Live b Offer offer
  pub met : offer.price ≤ℤ bid.price

-- no live order of the side has a better price
abbrev pub AtBest : Board → Side → Order → Type 0
AtBest b s o = (p : Order) → Live b s p → Better s p.price o.price → ⊥

-- at the session's price
abbrev pub AtPrice : Board → Order → Type 0
AtPrice b o = o.price ≡ b.session.price

-- ---- who is entitled

abbrev pub NoPriorLeft : Board → Type 0
NoPriorLeft b = (o : Order) → In o b.orders → o.prior ≢ true

-- the prior orders; if none is left, the Passive Owner's orders at the price
abbrev pub Passively : Board → Order → Type 0
Passively b o = (o.prior ≡ true) ⊎ (NoPriorLeft b × AtPrice b o × (o.trader ≡ b.session.owner))

-- the orders at the price; if there is an Aggressive Owner, only his
abbrev pub Aggressively : Board → Order → Type 0
Aggressively b o = AtPrice b o × ((t : ℕ) → b.session.aggressor ≡ Some t → o.trader ≡ t)

abbrev pub InPhase : Phase → Board → Side → Order → Type 0
InPhase Open b s o = ⊥
InPhase Timed b s o = ((s ≡ b.session.passive) × Passively b o) ⊎ ((s ≡ other b.session.passive) × Aggressively b o)
InPhase Rolling b s o = AtPrice b o
InPhase Fbs b s o = Meet b × AtBest b s o

pub record Entitled (b : Board) (s : Side) (o : Order) : Type 0 where
  pub live : Live b s o
  pub phase : InPhase b.phase b s o

-- ---- who is ahead

-- the buyer of the session's last fill among the bids, its seller among the offers
abbrev pub LastTrader : Side → Session → ℕ → Type 0
LastTrader Bid c t = c.buyer ≡ Some t
LastTrader Offer c t = c.seller ≡ Some t

abbrev pub Favoured : Board → Order → Type 0
Favoured b o = LastTrader o.side b.session o.trader

-- the order carries its trader's privilege on its side, earned by fill n
abbrev pub Carries : Board → Order → Priority → ℕ → Type 0
Carries b o p n = lookup b.privileges o.trader o.side ≡ Some (record { priority = p; earned = n; carrier = By o.number })

-- an order's class, and its place within the class
pub data Stands (b : Board) (o : Order) : Standing → Type 0 where
  favoured : b.phase ≡ Fbs → Favoured b o → Stands b o (Last o.stamp)
  first : (n : ℕ) → b.phase ≡ Fbs → ¬ (Favoured b o) → Carries b o FirstPriority n → Stands b o (First n)
  second : (n : ℕ) → b.phase ≡ Fbs → ¬ (Favoured b o) → Carries b o SecondPriority n → Stands b o (Second (record { 0 = n }))
  plain : (b.phase ≡ Fbs → ¬ (Favoured b o) × ((p : Priority) (n : ℕ) → ¬ (Carries b o p n))) → Stands b o (Plain o.stamp)

-- the lower stamp or earned number goes first, but of those with a Priority 2 the higher
abbrev pub Earlier : Standing → ℕ → Type 0
Earlier (Last m) n = m < n
Earlier (First m) n = m < n
Earlier (Second m) n = n < m.0
Earlier (Plain m) n = m < n

-- by better price, then lower class, then place within the class, then lower order number
abbrev pub Before : Side → Order → Standing → Order → Standing → Type 0
Before s o c p d =
    Better s o.price p.price ⊎ (
    (o.price ≡ p.price) ×
    ((class_number c < class_number d) ⊎
    ((class_number c ≡ class_number d) × (Earlier c (place d) ⊎ ((place c ≡ place d) × (o.number < p.number)))))
    )

-- of two orders of a side, the first goes before the second
pub record Ahead (b : Board) (s : Side) (o p : Order) : Type 0 where
  pub standing : Standing
  pub stands : Stands b o standing
  pub against : Standing
  pub other : Stands b p against
  pub before : Before s o standing p against

-- ---- the law

-- order n is entitled, and ahead of every other entitled order of its side
pub record Foremost (b : Board) (s : Side) (n : ℕ) : Type 0 where
  pub order : Order
  pub number : order.number ≡ n
  pub entitled : Entitled b s order
  pub ahead : (p : Order) → Entitled b s p → ¬ (p.number ≡ n) → Ahead b s order p

abbrev pub Nobody : Board → Side → Type 0
Nobody b s = (o : Order) → Entitled b s o → ⊥

-- what a record says of the board at which the draw came
abbrev pub FairAt : Board → Record → Type 0
FairAt b (Quiet t) = Nobody b Bid ⊎ Nobody b Offer
FairAt b (Fill t f) = Foremost b Bid f.bid × Foremost b Offer f.offer
FairAt b (SessionRecord t p n) = Unit {0}
FairAt b (RollingRecord t) = Unit {0}
FairAt b (FbsRecord t) = Unit {0}
FairAt b (OpenRecord t) = Unit {0}
FairAt b (Removal t n d why) = Unit {0}

-- after every opening and all calls
abbrev pub Fair : Type 0
Fair =
    (k : Opening) (cs : List Call) (r : Record) → (step k (run k opened cs) Draw).0 ≡ Ok (Drawn r) → FairAt (run k opened cs).board r
