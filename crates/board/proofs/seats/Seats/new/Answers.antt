use Rattle.std.proofs.Common.{refl}
use Rattle.rules.specs.Board.{rows}
use Rattle.board.proofs.seats.Seats.new.Goals as goal

pub returns : goal.returns
unfolding rows
returns g c = refl
