use Rattle.std.proofs.Common.{rules}
use Rattle.rules.specs.Standings.{standing}
use Rattle.board.proofs.standing.standing_of.Goals as goal

pub returns-in-Open : goal.returns-in-Open
unfolding standing
returns-in-Open c = search rules

pub returns-in-Fbs : goal.returns-in-Fbs
unfolding standing
returns-in-Fbs c = search rules

pub returns-in-Fbs-2 : goal.returns-in-Fbs-2
unfolding standing
returns-in-Fbs-2 c = search rules
