use Rattle.std.proofs.Common.{sym, ap, ◌∙◌}
use Rattle.line.specs.Order.{Order as TotalOrder}
use Rattle.queues.specs.Walking.{left_after, with_behind}
use Rattle.queues.proofs.Along.{from-first, onwards}
use Rattle.queues.proofs.walking.Along.upcoming.Goals as goal

pub returns-in-None : goal.returns-in-None
returns-in-None g c =
    let t : TotalOrder g.T.Entry.ahead = record { irreflexive = g.met.T.Entry.irreflexive; total = g.met.T.Entry.total; transitive = g.met.T.Entry.transitive } in
    let l = c.args.self.now.line.now in
    let xs = g.L.Line.entries l in
    ap (λ o. with_behind g.T.Entry.ahead o xs) c.first.ensures ∙ from-first t xs (g.met.L.Line.ordered l) ∙
    ap (λ o. left_after g.T.Entry.ahead o xs) (sym c.in-None.is)

pub returns-in-Some : goal.returns-in-Some
returns-in-Some g c =
    let t : TotalOrder g.T.Entry.ahead = record { irreflexive = g.met.T.Entry.irreflexive; total = g.met.T.Entry.total; transitive = g.met.T.Entry.transitive } in
    let l = c.args.self.now.line.now in
    let xs = g.L.Line.entries l in
    ap (λ o. with_behind g.T.Entry.ahead o xs) c.next.ensures ∙ sym (onwards t c.in-Some.last xs (g.met.L.Line.ordered l)) ∙
    ap (λ o. left_after g.T.Entry.ahead o xs) (sym c.in-Some.is)
