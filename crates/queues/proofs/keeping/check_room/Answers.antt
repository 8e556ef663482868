use Rattle.std.proofs.Common.{ℕ, ap, ◌∙◌}
use Rattle.line.specs.Order.{Order as TotalOrder}
use Rattle.queues.specs.Changes.{room_answer}
use Rattle.queues.proofs.Kept.{lists_length}
use Rattle.queues.proofs.keeping.check_room.Goals as goal

pub returns : goal.returns
returns g c =
    let t : TotalOrder g.T.Entry.ahead = record { irreflexive = g.met.T.Entry.irreflexive; total = g.met.T.Entry.total; transitive = g.met.T.Entry.transitive } in
    let l = c.args.line.now in
    let r = c.room_left.ensures ∙ ap (λ (n : ℕ). room_answer n c.count.result) c.room.ensures in
    record {
      answer = r ∙ ap (room_answer (g.L.Line.room l)) c.count.ensures;
      listed = λ b os m a w.
          r ∙ ap (room_answer (g.L.Line.room l)) (c.count.ensures ∙
          lists_length t g.T.OfOrder.number g.T.Listed.mine g.T.Listed.listing g.met.T.Listed.has g.met.T.Listed.named g.L.Line g.met.L.Line.fits l b 1 m os a w);
    }
