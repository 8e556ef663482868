use Rattle.std.proofs.Common.{List, [], ap, ◌∙◌}
use Rattle.line.specs.Order.{Order as TotalOrder}
use Rattle.market.specs.declared.order.Order.{Order}
use Rattle.rules.specs.Base.{each}
use Rattle.rules.specs.Board.{Board}
use Rattle.queues.specs.Changes.{filled}
use Rattle.queues.proofs.Kept.{filled_more, filled-all, refills}
use Rattle.queues.proofs.keeping.refill.Goals as goal

pub loop-order-preserved : goal.loop-order-preserved
loop-order-preserved g c =
    let e = g.T.Listed.listing c.args.board.now in
    let inv = c.loop-order.invariant in
    let p = c.put_entry.ensures in (
      p.room ∙ inv.0,
      filled_more g.T.Entry.ahead e (g.L.Line.room c.clear.new.self) (g.L.Line.room c.loop-order.line) c.deref-order-items.result.now c.loop-order.order-index _ c.of.result
          (g.L.Line.entries c.loop-order.line) (g.L.Line.entries c.put_entry.new.line) _ c.loop-order-test.true c.of.ensures inv.0 p.entries inv.1,
    )

pub returns : goal.returns
returns g c =
    let t : TotalOrder g.T.Entry.ahead = record { irreflexive = g.met.T.Entry.irreflexive; total = g.met.T.Entry.total; transitive = g.met.T.Entry.transitive } in
    let b = c.args.board.now in
    let e = g.T.Listed.listing b in
    let inv = c.loop-order.invariant in
    let os = c.deref-order-items.result.now in
    let r = c.clear.ensures.room in
    refills t g.T.OfOrder.number g.T.Listed.mine g.T.Listed.listing g.met.T.Listed.has g.met.T.Listed.named g.L.Line g.met.L.Line.fits c.args.line.now c.loop-order.line b
    (inv.0 ∙ r)
    (filled-all g.T.Entry.ahead e (g.L.Line.room c.clear.new.self) os c.loop-order.order-index (g.L.Line.entries c.loop-order.line) _ c.loop-order-test.false inv.1 ∙
    ap (λ n. filled g.T.Entry.ahead n (each e os) []) r ∙
    ap (λ (ps : List Order). filled g.T.Entry.ahead (g.L.Line.room c.args.line.now) (each e ps) []) (c.deref-order-items.ensures.0 ∙ ap (λ (x : Board). x.orders) c.board.view_is))
