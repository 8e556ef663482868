use Rattle.invariants.proofs.Quiets.{quiet-settled}
use Rattle.invariants.proofs.quiet_is_settled.Goals as goal

pub returns : goal.returns
returns c = quiet-settled
