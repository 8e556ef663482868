use Rattle.std.proofs.Common.{rules}
use Rattle.rules.specs.Privileges.{earned}
use Rattle.board.proofs.earning.earned_by.Goals as goal

pub returns-in-Some : goal.returns-in-Some
unfolding earned
returns-in-Some c = search rules

pub returns-in-None : goal.returns-in-None
unfolding earned
returns-in-None c = search rules
