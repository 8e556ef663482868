use Rattle.std.proofs.Common.{sym, subst, arith, rules}
use Rattle.std.proofs.lemmas.List.Sorted.{IsPartitionPoint-from_clause}
use Rattle.line.specs.Order.{Order}
use Rattle.line.specs.Held.{Ordered, Seat}
use Rattle.line.proofs.Seats.{ahead-first}
use Rattle.ordered_row.proofs.ordered_row.OrderedRow.seat.Goals as goal

pub returns : goal.returns
returns g c =
    let ahead = g.T.Entry.ahead in
    let o : Order ahead = record { irreflexive = g.met.T.Entry.irreflexive; total = g.met.T.Entry.total; transitive = g.met.T.Entry.transitive } in
    let xs = c.held.result.now in
    let e = c.args.entry.now in
    let at = c.partition_point.result in
    let up = subst (Ordered ahead) (sym c.held.ensures) c.args.self.now.ordered in
    let part = IsPartitionPoint-from_clause (λ y. ahead y e) xs at c.partition_point.ensures.partitioned (ahead-first o e xs up) (λ a r f' k. search rules) in
    subst (λ xs. Seat ahead e xs at) c.held.ensures
    (record { within = c.partition_point.ensures.bound; before = λ k d l. part.0 k d (omega arith) l; after = part.1 })
