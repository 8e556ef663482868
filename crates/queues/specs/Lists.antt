-- A line that lists orders. Assumes nothing.
use Rattle.std.specs.Prelude.{◌≡◌, ℕ, Bool, List, Some, Option}
use Rattle.line.specs.Held.{Ordered}
use Rattle.line.specs.declared.lines.Line.{Ghosts}
use Rattle.market.specs.declared.order.Order.{Order}
use Rattle.rules.specs.Board.{Board}
use Rattle.rules.specs.Members.{In}
use Rattle.rules.specs.Rising.{Ascends}

-- entries in their order: those of the orders that have one, and nothing else
pub record Shows {X : Type 0} (ahead : X → X → Bool) (xs : List X) (os : List Order) (entry : Order → Option X) : Type 0 where
  pub ordered : Ordered ahead xs
  pub each : (o : Order) (x : X) → In o os → entry o ≡ Some x → In x xs
  pub only : (x : X) → In x xs → (o : Order) × In o os × (entry o ≡ Some x)

-- what the line holds are the orders' entries
abbrev pub Lists : {L X : Type 0} → (X → X → Bool) → Ghosts L X → L → List Order → (Order → Option X) → Type 0
Lists ahead g l os entry = Shows ahead (g.entries l) os entry

-- the line is in step with a board: the numbers of its orders ascend, below some number, and the line lists them
pub record InStep {L X : Type 0} (ahead : X → X → Bool) (entry : Board → Order → Option X) (g : Ghosts L X) (l : L) (b : Board) : Type 0 where
  pub below : ℕ
  pub rising : Ascends 1 below b.orders
  pub lists : Lists ahead g l b.orders (entry b)
