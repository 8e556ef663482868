use Rattle.laws.proofs.Hiding.{hidden-from-all}
use Rattle.laws.proofs.reserves_show_nowhere.Goals as goal

pub returns : goal.returns
returns c = hidden-from-all
