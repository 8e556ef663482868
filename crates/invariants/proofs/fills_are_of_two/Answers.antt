use Rattle.invariants.proofs.Quiets.{fills-of-two}
use Rattle.invariants.proofs.fills_are_of_two.Goals as goal

pub returns : goal.returns
returns c = fills-of-two
