use Rattle.laws.proofs.Differs.{differing}
use Rattle.laws.proofs.reserves_can_differ.Goals as goal

pub returns : goal.returns
returns c = differing
