use Rattle.std.proofs.Common.{refl}
use Rattle.drawing.proofs.Removed.{removed}
use Rattle.drawing.proofs.removing.let_go.Goals as goal

pub returns : goal.returns
returns g c k S sound w here =
    removed g.L.Bids.Line g.L.Offers.Line g.L.Ends.Line c.args.memory.now _ _ k S c.args.order.now c.args.time _ _ sound w here
    (record { settings = refl; bids = refl; offers = refl; ends = refl }) c.remove.ensures.board c.remove.ensures.reserves
    c.of-old.ensures c.none.ensures c.relist.ensures
