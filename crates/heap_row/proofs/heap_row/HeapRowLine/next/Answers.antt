use Rattle.std.proofs.Common.{ap, ◌∙◌}
use Rattle.std.specs.List.{filter, reduce}
use Rattle.line.specs.Order.{Order}
use Rattle.line.specs.Rows.{held}
use Rattle.heap_row.specs.Heap.{earlier}
use Rattle.heap_row.proofs.Behind.{reduced}
use Rattle.heap_row.proofs.heap_row.HeapRowLine.next.Goals as goal

pub returns : goal.returns
returns g c =
    let ahead = g.T.Entry.ahead in
    let o : Order ahead = record { irreflexive = g.met.T.Entry.irreflexive; total = g.met.T.Entry.total; transitive = g.met.T.Entry.transitive } in
    c.first_behind.ensures ∙ ap (λ xs. reduce (earlier ahead) (filter (ahead c.args.after) xs)) c.held.ensures ∙ reduced o c.args.after (held c.args.self.now.row)
