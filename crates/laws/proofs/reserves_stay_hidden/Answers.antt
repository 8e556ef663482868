use Rattle.laws.proofs.Hiding.{hidden}
use Rattle.laws.proofs.reserves_stay_hidden.Goals as goal

pub returns : goal.returns
returns c = hidden
