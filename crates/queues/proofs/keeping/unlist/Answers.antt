use Rattle.line.specs.Order.{Order as TotalOrder}
use Rattle.queues.proofs.Kept.{unlists}
use Rattle.queues.proofs.keeping.unlist.Goals as goal

pub returns : goal.returns
returns g c =
    let t : TotalOrder g.T.Entry.ahead = record { irreflexive = g.met.T.Entry.irreflexive; total = g.met.T.Entry.total; transitive = g.met.T.Entry.transitive } in
    let p = c.take_entry.ensures in
    unlists t g.T.OfOrder.number g.T.Listed.mine g.T.Listed.listing g.met.T.Listed.has g.met.T.Listed.named g.L.Line g.met.L.Line.fits
    c.args.line.now c.take_entry.new.line p.room c.args.old p.entries
