use Rattle.std.proofs.Common.{length, sym, ap, ◌∙◌}
use Rattle.line.specs.Order.{Order}
use Rattle.line.specs.Rows.{held}
use Rattle.heap_row.proofs.Parts.{sorted-end}
use Rattle.heap_row.proofs.heap.push.Goals as goal

pub returns-clause-sorted : goal.returns-clause-sorted
returns-clause-sorted g c =
    let o : Order g.T.Entry.ahead = record { irreflexive = g.met.T.Entry.irreflexive; total = g.met.T.Entry.total; transitive = g.met.T.Entry.transitive } in
    c.sift_up.ensures.sorted ∙ sorted-end (held c.args.row.now) (length c.held-end.result.now) o (held c.insert.new.self) c.args.entry (sym (ap length c.held-end.ensures)) c.in_ok-insert.ensures.held
