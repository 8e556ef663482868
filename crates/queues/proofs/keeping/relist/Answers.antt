use Rattle.std.proofs.Common.{ℕ, List, ap, ◌∙◌}
use Rattle.line.specs.Order.{Order as TotalOrder}
use Rattle.queues.specs.Changes.{added}
use Rattle.queues.proofs.Kept.{relists}
use Rattle.queues.proofs.keeping.relist.Goals as goal

pub returns : goal.returns
returns g c =
    let t : TotalOrder g.T.Entry.ahead = record { irreflexive = g.met.T.Entry.irreflexive; total = g.met.T.Entry.total; transitive = g.met.T.Entry.transitive } in
    let l = c.args.line.now in
    let u = c.unlist.ensures in
    let p = c.enlist.ensures in
    let new = c.args.new in
    relists t g.T.OfOrder.number g.T.Listed.mine g.T.Listed.listing g.met.T.Listed.has g.met.T.Listed.named g.L.Line g.met.L.Line.fits
    l c.enlist.new.line (p.room ∙ u.room) c.args.old new
    (p.entries ∙ ap (λ (n : ℕ). added g.T.Entry.ahead n new (g.L.Line.entries c.unlist.new.line)) u.room ∙
    ap (λ (xs : List _). added g.T.Entry.ahead (g.L.Line.room l) new xs) u.entries)
