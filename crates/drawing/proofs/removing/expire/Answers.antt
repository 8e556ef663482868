use Rattle.rules.specs.Draws.{record_of, board_after, hidden_after}
use Rattle.drawing.proofs.Removed.{expires-live}
use Rattle.drawing.proofs.removing.expire.Goals as goal

pub returns : goal.returns
unfolding record_of board_after hidden_after
returns g c k S sound w d =
    (c.let_go.ensures k S sound w (expires-live k S.board c.args.order.now c.args.time d), c.removal.ensures)
