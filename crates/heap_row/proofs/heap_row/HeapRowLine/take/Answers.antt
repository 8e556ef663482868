use Rattle.std.proofs.Common.{◌≡◌, get_or, sym, ap, ◌∙◌, subst}
use Rattle.line.specs.Order.{Order}
use Rattle.line.specs.Held.{Ordered, with_entry, without}
use Rattle.line.specs.Rows.{held}
use Rattle.heap_row.specs.Heap.{sorted}
use Rattle.heap_row.specs.Row.{entries_of}
use Rattle.heap_row.proofs.Sorts.{ordered_of, without-with}
use Rattle.heap_row.proofs.heap_row.HeapRowLine.take.Goals as goal

pub invariant_of-self : goal.invariant_of-self
invariant_of-self g c =
    let ahead = g.T.Entry.ahead in
    let o : Order ahead = record { irreflexive = g.met.T.Entry.irreflexive; total = g.met.T.Entry.total; transitive = g.met.T.Entry.transitive } in
    let s = c.args.self.now in
    let e = c.args.entry in
    let rest = sorted ahead (held c.remove.new.row) in
    let whole : with_entry ahead e rest ≡ entries_of s =
    ap (λ y. with_entry ahead y rest) (sym (c.in-Some.ensures.is e) ∙ ap (λ xs. get_or xs c.in-Some.at e) c.held.ensures) ∙ c.remove.ensures.less e in
    record { heap = c.remove.ensures.heap s.heap; ordered = ordered_of o e rest (subst (Ordered ahead) (sym whole) s.ordered) }

pub returns-clause-entries : goal.returns-clause-entries
returns-clause-entries g c =
    let ahead = g.T.Entry.ahead in
    let o : Order ahead = record { irreflexive = g.met.T.Entry.irreflexive; total = g.met.T.Entry.total; transitive = g.met.T.Entry.transitive } in
    let s = c.args.self.now in
    let e = c.args.entry in
    let rest = sorted ahead (held c.remove.new.row) in
    let whole : with_entry ahead e rest ≡ entries_of s =
    ap (λ y. with_entry ahead y rest) (sym (c.in-Some.ensures.is e) ∙ ap (λ xs. get_or xs c.in-Some.at e) c.held.ensures) ∙ c.remove.ensures.less e in
    sym (without-with o e rest (subst (Ordered ahead) (sym whole) s.ordered)) ∙ ap (without ahead e) whole
