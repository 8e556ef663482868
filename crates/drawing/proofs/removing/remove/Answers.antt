use Rattle.drawing.proofs.Boards.{read}
use Rattle.drawing.proofs.Removed.{removed-now}
use Rattle.drawing.proofs.removing.remove.Goals as goal

pub returns : goal.returns
returns g c k S sound w d =
    removed-now g.L.Bids.Line g.L.Offers.Line g.L.Ends.Line c.args.memory.now c.let_go.new.memory k S c.args.order.now c.args.cause _
    c.removal.result sound w d (read (λ m. m.board.clock.time) c.memory.view_is) c.let_go.ensures c.removal.ensures
