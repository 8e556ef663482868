use Rattle.laws.proofs.Fairly.{fair}
use Rattle.laws.proofs.fills_are_fair.Goals as goal

pub returns : goal.returns
returns c = fair
