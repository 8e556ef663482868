use Rattle.std.proofs.Common.{◌≡◌, ◌-◌, ◌/◌, ◌<◌, true, false, length, get_or, take, set, sym, ap, ◌∙◌, subst, arith}
use Rattle.std.proofs.lemmas.List.{get_or_read, length-take-le}
use Rattle.line.specs.Order.{Order}
use Rattle.line.specs.Held.{with_entry}
use Rattle.line.specs.Rows.{held}
use Rattle.heap_row.specs.Heap.{Heap, Rising, Sinking, sorted}
use Rattle.heap_row.proofs.Parts.{remove-end}
use Rattle.heap_row.proofs.Removes.{heap-front, less, less-last, climb, fall}
use Rattle.heap_row.proofs.heap.remove.Given as given
use Rattle.heap_row.proofs.heap.remove.Goals as goal
use Rattle.heap_row.proofs.heap.remove.Goals.{else-at-gt0-via-then-at-gt0+else-is_ahead, else-at-gt0-via-else-at-gt0}

order : (g : given.Over) → Order g.T.Entry.ahead
order g = record { irreflexive = g.met.T.Entry.irreflexive; total = g.met.T.Entry.total; transitive = g.met.T.Entry.transitive }

pub returns-then-at-end : goal.returns-then-at-end
returns-then-at-end g c =
    let ahead = g.T.Entry.ahead in
    let xs = held c.args.row.now in
    let n = length c.held.result.now - 1 in
    let long = ap length c.held.ensures in
    let whole = c.remove.ensures.held ∙ remove-end xs n (omega arith) in
    record {
      heap = λ h. subst (Heap ahead) (sym whole) (heap-front ahead xs n (omega arith) h);
      less = λ d. ap (λ j. with_entry ahead (get_or xs j d) (sorted ahead (held c.remove.new.self))) c.if-at-end.true ∙ ap (λ t. with_entry ahead (get_or xs n d) (sorted ahead t)) whole ∙ less-last (order g) xs n (omega arith) (omega arith) d;
      room = c.remove.ensures.room;
    }

pub returns-then-is_ahead : goal.returns-then-is_ahead
returns-then-is_ahead g c =
    let ahead = g.T.Entry.ahead in
    let xs = held c.args.row.now in
    let at = c.args.at in
    let n = length c.held.result.now - 1 in
    let long = ap length c.held.ensures in
    let last = c.index-held-end.result in
    let inside : at < n = omega arith in
    let front = length-take-le n xs (omega arith) in
    let whole = c.remove.ensures.held ∙ remove-end xs n (omega arith) in
    let above = c.index-held-at.result in
    let up : (d : g.row.T.Denot) → ahead last (get_or (take n xs) ((at - 1) / 2) d) ≡ true =
    λ d. subst (λ y. ahead last y ≡ true) (get_or_read (take n xs) ((at - 1) / 2) above (omega arith) (c.index-held-at.is ∙ ap (λ ys. get_or ys ((at - 1) / 2) above) (c.held-then-at-gt0.ensures ∙ whole)) d) (sym c.if-is_ahead.ensures) in
    record {
      heap = λ h. c.sift_up.ensures.heap (subst (λ ys. Rising ahead (set ys at last) at) (sym whole) (climb (order g) (take n xs) at last (omega arith) (heap-front ahead xs n (omega arith) h) up c.if-at-gt0.true));
      less = λ d. ap (with_entry ahead (get_or xs at d)) (c.sift_up.ensures.sorted ∙ ap (λ ys. sorted ahead (set ys at last)) whole) ∙
          less (order g) xs n (omega arith) (omega arith) at last d inside (λ d. sym (get_or_read xs n last (omega arith) (c.index-held-end.is ∙ ap (λ ys. get_or ys n last) c.held-2.ensures) d));
      room = c.sift_up.ensures.room ∙ c.remove.ensures.room;
    }

pub returns-else-at-gt0 : goal.returns-else-at-gt0
returns-else-at-gt0 g c =
    let ahead = g.T.Entry.ahead in
    let xs = held c.args.row.now in
    let at = c.args.at in
    let n = length c.held.result.now - 1 in
    let long = ap length c.held.ensures in
    let last = c.index-held-end.result in
    let inside : at < n = omega arith in
    let front = length-take-le n xs (omega arith) in
    let whole = c.remove.ensures.held ∙ remove-end xs n (omega arith) in
    let up : 0 < at → (d : g.row.T.Denot) → ahead last (get_or (take n xs) ((at - 1) / 2) d) ≡ false = λ z d. elim c.else-at-gt0.branch [
      | else-at-gt0-via-then-at-gt0+else-is_ahead w ↦ subst (λ y. ahead last y ≡ false) (get_or_read (take n xs) ((at - 1) / 2) w.index-held-at.result (omega arith) (w.index-held-at.is ∙ ap (λ ys. get_or ys ((at - 1) / 2) w.index-held-at.result) (w.held-then-at-gt0.ensures ∙ whole)) d) (sym w.if-is_ahead.ensures)
      | else-at-gt0-via-else-at-gt0 w ↦ absurd (omega (arith, w.if-at-gt0.false, z))
    ] in
    record {
      heap = λ h. c.sift_down.ensures.heap (subst (λ ys. Sinking ahead (set ys at last) at) (sym whole) (fall (order g) (take n xs) at last (omega arith) (heap-front ahead xs n (omega arith) h) up));
      less = λ d. ap (with_entry ahead (get_or xs at d)) (c.sift_down.ensures.sorted ∙ ap (λ ys. sorted ahead (set ys at last)) whole) ∙
          less (order g) xs n (omega arith) (omega arith) at last d inside (λ d. sym (get_or_read xs n last (omega arith) (c.index-held-end.is ∙ ap (λ ys. get_or ys n last) c.held-2.ensures) d));
      room = c.sift_down.ensures.room ∙ c.remove.ensures.room;
    }
