use Rattle.std.proofs.Common.{refl}
use Rattle.rules.specs.Draws.{rested_board}
use Rattle.draws.proofs.Boards.{same-board}
use Rattle.draws.proofs.phases.rest.Goals as goal

pub returns : goal.returns
unfolding rested_board
returns c = rw (← c.board.view_is) (same-board refl refl c.settle_session.ensures refl refl)
