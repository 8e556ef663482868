use Rattle.invariants.proofs.Tightness.{tight}
use Rattle.invariants.proofs.all_draws_can_be_needed.Goals as goal

pub returns : goal.returns
returns c = tight
