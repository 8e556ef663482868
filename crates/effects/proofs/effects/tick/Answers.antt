use Rattle.std.proofs.Common.{refl}
use Rattle.rules.specs.Calls.{ticked_board}
use Rattle.board.proofs.Boards.{same-board}
use Rattle.effects.proofs.effects.tick.Goals as goal

pub returns : goal.returns
unfolding ticked_board
returns c = rw (← c.board.view_is) (same-board refl c.await_draws.ensures refl refl refl refl)
