use Rattle.std.proofs.Common.{rules}
use Rattle.rules.specs.Privileges.{completed}
use Rattle.board.proofs.completions.complete.Goals as goal

pub returns-then-is_none : goal.returns-then-is_none
unfolding completed
returns-then-is_none c = search rules

pub returns-else-is_none : goal.returns-else-is_none
unfolding completed
returns-else-is_none c = search rules
