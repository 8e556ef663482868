use Rattle.std.proofs.Common.{arith}
use Rattle.std.proofs.lemmas.Int.{to_z-of_z}
use Rattle.rules.specs.Board.{better}
use Rattle.board.proofs.prices.is_better.Goals as goal

pub returns-in-Bid : goal.returns-in-Bid
unfolding better
returns-in-Bid c = grind (arith, to_z-of_z)

pub returns-in-Offer : goal.returns-in-Offer
unfolding better
returns-in-Offer c = grind (arith, to_z-of_z)
