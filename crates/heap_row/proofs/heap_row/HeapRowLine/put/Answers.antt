use Rattle.std.proofs.Common.{◌≡◌, false, is_ok, sym, ap, ◌∙◌, subst}
use Rattle.std.proofs.lemmas.Bool.{cond_both, cond-false}
use Rattle.line.specs.Order.{Order}
use Rattle.line.specs.Held.{Ordered, holds}
use Rattle.line.specs.Rows.{held, room, room_answer}
use Rattle.line.proofs.Chains.{ordered-with}
use Rattle.heap_row.specs.Heap.{sorted}
use Rattle.heap_row.specs.Fits.{length-sorted}
use Rattle.heap_row.specs.Row.{entries_of}
use Rattle.heap_row.proofs.Finds.{not_found}
use Rattle.heap_row.proofs.Same.{same-row}
use Rattle.heap_row.proofs.heap_row.HeapRowLine.put.Goals as goal

pub invariant_of-self : goal.invariant_of-self
invariant_of-self g c =
    let ahead = g.T.Entry.ahead in
    let o : Order ahead = record { irreflexive = g.met.T.Entry.irreflexive; total = g.met.T.Entry.total; transitive = g.met.T.Entry.transitive } in
    let s = c.args.self.now in
    let e = c.args.entry in
    let free : holds ahead e (entries_of s) ≡ false = subst (λ xs. holds ahead e (sorted ahead xs) ≡ false) c.held.ensures (not_found ahead e c.held.result.now c.find.result (sym c.if-is_some.ensures) c.find.ensures) in
    record {
      heap = c.push.ensures.heap s.heap;
      ordered = subst (Ordered ahead) (sym c.push.ensures.sorted) (cond_both (is_ok c.push.result) _ _ (Ordered ahead) (λ _. ordered-with o e (entries_of s) free s.ordered) (λ _. s.ordered));
    }

pub returns-clause-answer : goal.returns-clause-answer
returns-clause-answer g c =
    let ahead = g.T.Entry.ahead in
    let s = c.args.self.now in
    let e = c.args.entry in
    let free : holds ahead e (entries_of s) ≡ false = subst (λ xs. holds ahead e (sorted ahead xs) ≡ false) c.held.ensures (not_found ahead e c.held.result.now c.find.result (sym c.if-is_some.ensures) c.find.ensures) in
    c.push.ensures.answer ∙ ap (room_answer (room s.row)) (sym (length-sorted ahead (held s.row))) ∙ sym (cond-false _ _ _ free)

pub returns-clause-kept : goal.returns-clause-kept
returns-clause-kept g c = λ no. same-row c.args.self.now c.push.new.row _ _ (c.push.ensures.kept no)
