use Rattle.std.proofs.Common.{◌-◌, ◌/◌, length, get_or, set, sym, ap, ◌∙◌, subst, arith}
use Rattle.std.proofs.lemmas.List.{length-set}
use Rattle.line.specs.Order.{Order}
use Rattle.line.specs.Rows.{held}
use Rattle.heap_row.specs.Heap.{Heap, Rising, sorted}
use Rattle.heap_row.proofs.Rises.{lift, lift-sorted, lift-stop, top-stop}
use Rattle.heap_row.proofs.heap.sift_up.Given as given
use Rattle.heap_row.proofs.heap.sift_up.Goals as goal
use Rattle.heap_row.proofs.heap.sift_up.Goals.{else-loop-i-test, then-loop-i-test+then-not-is_ahead}

order : (g : given.Over) → Order g.T.Entry.ahead
order g = record { irreflexive = g.met.T.Entry.irreflexive; total = g.met.T.Entry.total; transitive = g.met.T.Entry.transitive }

pub loop-i-preserved : goal.loop-i-preserved
loop-i-preserved g c =
    let ahead = g.T.Entry.ahead in
    let xs = held c.loop-i.row in
    let i = c.loop-i.i in
    let up = (i - 1) / 2 in
    let e = c.args.mover in
    let a = c.index-held-up.result in
    let inv = c.loop-i.invariant in
    let read = c.index-held-up.is ∙ ap (λ ys. get_or ys up a) c.held.ensures in
    let written = c.set.ensures.held in (
      omega (arith, ap length written, length-set xs i a),
      (λ r. subst (λ ys. Rising ahead (set ys up e) up) (sym written) (lift (order g) xs i e a c.loop-i-test.true inv.0 read (sym c.if-not-is_ahead.ensures) (inv.1 r))),
      ap (λ ys. sorted ahead (set ys up e)) written ∙ lift-sorted (order g) xs i e a c.loop-i-test.true inv.0 read ∙ inv.2,
      c.set.ensures.room ∙ inv.3,
    )

pub returns-clause-heap : goal.returns-clause-heap
returns-clause-heap g c = λ r.
    let xs = held c.loop-i.row in
    let i = c.loop-i.i in
    let e = c.args.mover in
    let inv = c.loop-i.invariant in
    subst (Heap g.T.Entry.ahead) (sym c.set-2.ensures.held)
    (elim c.loop-i-test.branch [
      | else-loop-i-test w ↦ top-stop (order g) _ i (omega (arith, w.loop-i-test.false)) (inv.1 r)
      | then-loop-i-test+then-not-is_ahead w ↦ lift-stop (order g) xs i e w.index-held-up.result w.loop-i-test.true inv.0 (w.index-held-up.is ∙ ap (λ ys. get_or ys ((i - 1) / 2) w.index-held-up.result) w.held.ensures) (sym w.if-not-is_ahead.ensures) (inv.1 r)
    ])
