use Rattle.std.proofs.Common.{not, sym, ap, ◌∙◌, subst, rules}
use Rattle.std.proofs.lemmas.List.Sorted.{IsPartitionPoint-from_clause}
use Rattle.line.specs.Order.{Order}
use Rattle.line.specs.Held.{Ordered, behind}
use Rattle.line.proofs.Seats.{behind-last}
use Rattle.ordered_row.proofs.Finds.{next-at}
use Rattle.ordered_row.proofs.ordered_row.OrderedRowLine.next.Goals as goal

pub returns : goal.returns
returns g c =
    let ahead = g.T.Entry.ahead in
    let o : Order ahead = record { irreflexive = g.met.T.Entry.irreflexive; total = g.met.T.Entry.total; transitive = g.met.T.Entry.transitive } in
    let xs = c.held-held.result.now in
    let e = c.args.after in
    let at = c.partition_point-at.result in
    let up = subst (Ordered ahead) (sym c.held-held.ensures) c.args.self.now.ordered in
    let part = IsPartitionPoint-from_clause (λ y. not (ahead e y)) xs at c.partition_point-at.ensures.partitioned (behind-last o e xs up) (λ a r f' k. search rules) in
    c.copied.ensures ∙ next-at ahead e xs at c.get.result part c.get.ensures.lookup ∙ ap (behind ahead e) c.held-held.ensures
