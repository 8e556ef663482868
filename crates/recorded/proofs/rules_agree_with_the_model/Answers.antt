use Rattle.recorded.proofs.Computed.{recorded}
use Rattle.recorded.proofs.rules_agree_with_the_model.Goals as goal

pub returns : goal.returns
returns c = recorded
