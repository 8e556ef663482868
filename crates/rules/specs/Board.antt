-- What a book is opened with, and its state: the board, which everybody may know, and the reserves, which are hidden.
-- Assumes nothing.
use Rattle.std.specs.Prelude.{ℕ, zero, suc, ◌+◌, ◌*◌, Bool, true, false, cond, not, ◌&&◌, List, [], ◌∷◌, ℤ, Some, None, Option, ◌==◌, int_le, int_lt, slice_index_or, slice_set}
use Rattle.market.specs.Tenors.{lot_of}
use Rattle.market.specs.declared.settings.Settings.{Settings}
use Rattle.market.specs.declared.order.Side.{Side}
use Rattle.market.specs.declared.order.Side.TheVariants.{Bid, Offer}
use Rattle.market.specs.declared.order.Order.{Order}
use Rattle.market.specs.declared.state.Phase.{Phase}
use Rattle.market.specs.declared.state.Phase.TheVariants.{Open, Timed, Rolling, Fbs}
use Rattle.market.specs.declared.state.Clock.{Clock}
use Rattle.market.specs.declared.state.Counters.{Counters}
use Rattle.market.specs.declared.state.Session.{Session}
use Rattle.market.specs.declared.state.Completion.{Completion}
use Rattle.market.specs.declared.state.Privilege.{Privilege}
use Rattle.rules.specs.Base.{find}

-- made settings, and the rooms of the lines of bids, of offers and of end times
pub record Opening : Type 0 where
  pub settings : Settings
  pub bids : ℕ
  pub offers : ℕ
  pub ends : ℕ

-- sizes are multiples of the lot
abbrev pub lot : Opening → ℕ
lot o = lot_of o.settings.tenor

-- ---- tables by trader and side

-- two places for each trader, from 0 to 128
abbrev pub Table : Type 0 → Type 0
Table X = List (Option X)

abbrev pub seat : ℕ → Side → ℕ
seat t Bid = 2 * t
seat t Offer = 2 * t + 1

module _ {X : Type 0} where
  abbrev pub lookup : Table X → ℕ → Side → Option X
  lookup xs t s = slice_index_or xs (seat t s) None

  unfoldable pub place : ℕ → Side → X → Table X → Table X
  place t s x xs = slice_set xs (seat t s) (Some x)

  -- the places of k traders from t on
  unfoldable pub rows : ℕ → ℕ → (ℕ → Side → Option X) → Table X
  rows t zero f = []
  rows t (suc k) f = f t Bid ∷ f t Offer ∷ rows (t + 1) k f

  abbrev pub table : (ℕ → Side → Option X) → Table X
  table f = rows 0 129 f

  abbrev pub empty : Table X
  empty = table (λ t s. None)

-- ---- the state

-- live orders stand by ascending number
pub record Board : Type 0 where
  pub orders : List Order
  pub phase : Phase
  pub clock : Clock
  pub counters : Counters
  pub session : Session
  pub completions : Table Completion
  pub privileges : Table Privilege

-- the board, and each order's reserve by its number
pub record State : Type 0 where
  pub board : Board
  pub hidden : ℕ → ℕ

-- ---- sides and prices

abbrev pub other : Side → Side
other Bid = Offer
other Offer = Bid

abbrev pub is_bid : Side → Bool
is_bid Bid = true
is_bid Offer = false

abbrev pub same : Side → Side → Bool
same Bid s = is_bid s
same Offer s = not (is_bid s)

abbrev pub on : Side → Order → Bool
on s o = same s o.side

-- a bid is better if higher, an offer if lower
abbrev pub better_on : Side → ℤ → ℤ → Bool
better_on Bid p q = int_lt q p
better_on Offer p q = int_lt p q

unfoldable pub better : Side → ℤ → ℤ → Bool
better s p q = better_on s p q

abbrev pub best_of : Bool → Side → ℤ → Option ℤ → Option ℤ
best_of false s p r = r
best_of true s p None = Some p
best_of true s p (Some q) = Some (cond (better s q p) q p)

-- a side's best price
unfoldable pub best : Side → List Order → Option ℤ
best s [] = None
best s (o ∷ os) = best_of (on s o) s o.price (best s os)

abbrev pub cross : Option ℤ → Option ℤ → Bool
cross None a = false
cross (Some b) None = false
cross (Some b) (Some a) = int_le a b

-- prices meet when the best bid is at or above the best offer
unfoldable pub meet : List Order → Bool
meet os = cross (best Bid os) (best Offer os)

-- ---- orders and phases

abbrev pub numbered : ℕ → Order → Bool
numbered n o = o.number == n

-- the orders of a trader on a side
abbrev pub of_trader : ℕ → Side → Order → Bool
of_trader t s o = o.trader == t && on s o

abbrev pub in_session : Phase → Bool
in_session Open = false
in_session Timed = true
in_session Rolling = true
in_session Fbs = false

abbrev pub is_fbs : Phase → Bool
is_fbs Open = false
is_fbs Timed = false
is_fbs Rolling = false
is_fbs Fbs = true

abbrev pub is_open : Phase → Bool
is_open Open = true
is_open Timed = false
is_open Rolling = false
is_open Fbs = false

-- the live order with that number
unfoldable pub ordered : ℕ → List Order → Option Order
ordered n os = find (numbered n) os
