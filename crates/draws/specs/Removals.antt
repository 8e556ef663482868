-- Which order is removed next, but for end times. Assumes nothing.
use Rattle.std.specs.Prelude.{ℕ, List, Some, None, Option}
use Rattle.market.specs.declared.order.Order.{Order}
use Rattle.market.specs.declared.record.Cause.{Cause}
use Rattle.rules.specs.Base.{find}
use Rattle.rules.specs.Board.{Board}
use Rattle.rules.specs.Draws.{goes, cause_of}
use Rattle.board.specs.Memory.{Reserved}

abbrev pub with_cause : Option Order → Option (Order × Cause)
with_cause None = None
with_cause (Some o) = Some (o, cause_of o.kind)

-- the lowest-numbered order that must go, and why
abbrev pub removal_due : Board → Option (Order × Cause)
removal_due b = with_cause (find (goes b) b.orders)

-- whatever the reserves by number are, those beside the orders before are so those beside the orders after
abbrev pub Kept : List Order → List ℕ → List Order → List ℕ → Type 0
Kept os rs os' rs' = (h : ℕ → ℕ) → Reserved h os rs → Reserved h os' rs'
