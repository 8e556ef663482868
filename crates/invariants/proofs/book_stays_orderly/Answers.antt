use Rattle.invariants.proofs.Orderlies.{orderly}
use Rattle.invariants.proofs.book_stays_orderly.Goals as goal

pub returns : goal.returns
returns c = orderly
