use Rattle.std.proofs.Common.{◌≡◌, ◌∙◌, rules}
use Rattle.line.specs.Order.{Order}
use Rattle.line.specs.Held.{first_of}
use Rattle.line.specs.Rows.{held}
use Rattle.heap_row.proofs.Finds.{first-top}
use Rattle.heap_row.proofs.heap_row.HeapRowLine.first.Goals as goal

pub returns : goal.returns
returns g c =
    let o : Order g.T.Entry.ahead = record { irreflexive = g.met.T.Entry.irreflexive; total = g.met.T.Entry.total; transitive = g.met.T.Entry.transitive } in
    let s = c.args.self.now in
    let top : c.copied.result ≡ first_of (held s.row) = search rules in
    top ∙ first-top o (held s.row) s.heap
