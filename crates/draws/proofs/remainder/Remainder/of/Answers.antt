use Rattle.std.proofs.Common.{arith}
use Rattle.std.proofs.lemmas.Bool.Decides.{nat_tests}
use Rattle.rules.specs.Fills.{remainder}
use Rattle.draws.proofs.remainder.Remainder.of.Goals as goal

pub returns-then-left-gt0 : goal.returns-then-left-gt0
unfolding remainder
returns-then-left-gt0 c = grind (arith, nat_tests)

pub returns-in-0 : goal.returns-in-0
unfolding remainder
returns-in-0 c = grind (arith, nat_tests)

pub returns-in_default : goal.returns-in_default
unfolding remainder
returns-in_default c = grind (arith, nat_tests)
