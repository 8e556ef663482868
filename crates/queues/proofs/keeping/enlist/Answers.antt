use Rattle.line.specs.Order.{Order as TotalOrder}
use Rattle.queues.proofs.Kept.{enlists}
use Rattle.queues.proofs.keeping.enlist.Goals as goal

pub returns : goal.returns
returns g c =
    let t : TotalOrder g.T.Entry.ahead = record { irreflexive = g.met.T.Entry.irreflexive; total = g.met.T.Entry.total; transitive = g.met.T.Entry.transitive } in
    let p = c.put_entry.ensures in
    enlists t g.T.OfOrder.number g.T.Listed.mine g.T.Listed.listing g.met.T.Listed.has g.met.T.Listed.named g.L.Line g.met.L.Line.fits
    c.args.line.now c.put_entry.new.line p.room c.args.new p.entries
