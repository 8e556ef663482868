use Rattle.lawful.proofs.Lawfully.{lawful}
use Rattle.lawful.proofs.every_run_is_lawful.Goals as goal

pub returns : goal.returns
returns c = lawful
