use Rattle.std.proofs.Common.{length, get_or, set, sym, ap, ◌∙◌, subst, arith}
use Rattle.std.proofs.lemmas.List.{length-set}
use Rattle.line.specs.Order.{Order}
use Rattle.line.specs.Rows.{held}
use Rattle.heap_row.specs.Heap.{Heap, Sinking, Lowest, sorted}
use Rattle.heap_row.proofs.Sinks.{sink, sink-sorted, sink-stop, bottom-stop}
use Rattle.heap_row.proofs.heap.sift_down.Given as given
use Rattle.heap_row.proofs.heap.sift_down.Goals as goal
use Rattle.heap_row.proofs.heap.sift_down.Goals.{else-loop-i-test, then-loop-i-test+then-not-is_ahead}

order : (g : given.Over) → Order g.T.Entry.ahead
order g = record { irreflexive = g.met.T.Entry.irreflexive; total = g.met.T.Entry.total; transitive = g.met.T.Entry.transitive }

pub loop-i-preserved : goal.loop-i-preserved
loop-i-preserved g c =
    let ahead = g.T.Entry.ahead in
    let xs = held c.loop-i.row in
    let i = c.loop-i.i in
    let low = c.lowest-low.result in
    let e = c.args.mover in
    let b = c.index-held-low.result in
    let inv = c.loop-i.invariant in
    let lowest = subst (λ ys. Lowest ahead ys i low) c.held-in-loop-i.ensures c.lowest-low.ensures in
    let read = c.index-held-low.is ∙ ap (λ ys. get_or ys low b) c.held-in-loop-i-2.ensures in
    let written = c.set.ensures.held in (
      omega (arith, ap length written, length-set xs i b, lowest.within),
      omega (arith, ap length written, length-set xs i b, inv.1),
      (λ s. subst (λ ys. Sinking ahead (set ys low e) low) (sym written) (sink (order g) xs i low e b inv.0 lowest read (inv.2 s) (sym c.if-not-is_ahead.ensures))),
      ap (λ ys. sorted ahead (set ys low e)) written ∙ sink-sorted (order g) xs i low e b inv.0 lowest read ∙ inv.3,
      c.set.ensures.room ∙ inv.4,
    )

pub returns-clause-heap : goal.returns-clause-heap
returns-clause-heap g c = λ s.
    let ahead = g.T.Entry.ahead in
    let xs = held c.loop-i.row in
    let i = c.loop-i.i in
    let e = c.args.mover in
    let inv = c.loop-i.invariant in
    subst (Heap ahead) (sym c.set-2.ensures.held)
    (elim c.loop-i-test.branch [
      | else-loop-i-test w ↦ bottom-stop ahead (set xs i e) i (omega (arith, length-set xs i e, ap length c.held.ensures, w.loop-i-test.false)) (inv.2 s)
      | then-loop-i-test+then-not-is_ahead w ↦ sink-stop (order g) xs i w.lowest-low.result e w.index-held-low.result inv.0 (subst (λ ys. Lowest ahead ys i w.lowest-low.result) w.held-in-loop-i.ensures w.lowest-low.ensures)
          (w.index-held-low.is ∙ ap (λ ys. get_or ys w.lowest-low.result w.index-held-low.result) w.held-in-loop-i-2.ensures) (inv.2 s) (sym w.if-not-is_ahead.ensures)
    ])
