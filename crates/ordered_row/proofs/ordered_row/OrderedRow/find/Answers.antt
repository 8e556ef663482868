use Rattle.std.proofs.Common.{rules}
use Rattle.line.specs.Order.{Order}
use Rattle.ordered_row.specs.Row.{entries_of}
use Rattle.ordered_row.proofs.Finds.{stands, belongs}
use Rattle.ordered_row.proofs.ordered_row.OrderedRow.find.Given as given
use Rattle.ordered_row.proofs.ordered_row.OrderedRow.find.Goals as goal

order : (g : given.Over) → Order g.T.Entry.ahead
order g = record { irreflexive = g.met.T.Entry.irreflexive; total = g.met.T.Entry.total; transitive = g.met.T.Entry.transitive }

pub returns-in-Some : goal.returns-in-Some
returns-in-Some g c =
    let s = c.args.self.now in
    let e = c.args.entry.now in
    stands (order g) e (entries_of s) c.seat-at.result s.ordered c.seat-at.ensures
    (search rules)
    (λ d. search rules)

pub returns-in_default : goal.returns-in_default
returns-in_default g c =
    let s = c.args.self.now in
    let e = c.args.entry.now in
    belongs (order g) e (entries_of s) c.seat-at.result s.ordered c.seat-at.ensures (λ l d. search rules)

pub returns-in_default-2 : goal.returns-in_default-2
returns-in_default-2 g c =
    let s = c.args.self.now in
    let e = c.args.entry.now in
    belongs (order g) e (entries_of s) c.seat-at.result s.ordered c.seat-at.ensures (λ l d. search rules)
