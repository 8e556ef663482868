use Rattle.std.proofs.Common.{◌+◌, ◌*◌, ◌<◌, length, sym, arith, rules}
use Rattle.std.proofs.lemmas.List.{get_or_read}
use Rattle.line.specs.Order.{Order}
use Rattle.heap_row.proofs.Sinks.{right-lowest, left-lowest}
use Rattle.heap_row.proofs.heap.lowest.Given as given
use Rattle.heap_row.proofs.heap.lowest.Goals as goal
use Rattle.heap_row.proofs.heap.lowest.Goals.{else-right-heap-via-then-right-heap+else-is_ahead, else-right-heap-via-else-right-heap}

order : (g : given.Over) → Order g.T.Entry.ahead
order g = record { irreflexive = g.met.T.Entry.irreflexive; total = g.met.T.Entry.total; transitive = g.met.T.Entry.transitive }

pub overflow_mul-left : goal.overflow_mul-left
overflow_mul-left g c = omega arith

pub overflow_add-left : goal.overflow_add-left
overflow_add-left g c = omega arith

pub overflow_add-right : goal.overflow_add-right
overflow_add-right g c = omega arith

pub bounds-heap-right : goal.bounds-heap-right
bounds-heap-right g c = omega arith

pub bounds-heap-left : goal.bounds-heap-left
bounds-heap-left g c = omega arith

pub offset_bounds-heap-right : goal.offset_bounds-heap-right
offset_bounds-heap-right g c =
    let inside : 2 * c.args.i + 1 + 1 < length c.args.heap.now = omega arith in
    search rules

pub offset_bounds-heap-left : goal.offset_bounds-heap-left
offset_bounds-heap-left g c =
    let inside : 2 * c.args.i + 1 < length c.args.heap.now = omega arith in
    search rules

pub returns-then-is_ahead : goal.returns-then-is_ahead
returns-then-is_ahead g c =
    let row = c.args.heap.now in
    let i = c.args.i in
    let inside : 2 * i + 1 < length row = omega (arith, c.if-right-heap.true) in
    right-lowest (order g) row i c.if-right-heap.true
    (λ d. rw (sym (get_or_read row (2 * i + 1) c.index-heap-left.result inside c.index-heap-left.is d), sym (get_or_read row (2 * i + 1 + 1) c.index-heap-right.result c.if-right-heap.true c.index-heap-right.is d)) (sym c.if-is_ahead.ensures))

pub returns-else-right-heap : goal.returns-else-right-heap
returns-else-right-heap g c =
    let row = c.args.heap.now in
    let i = c.args.i in
    let inside : 2 * i + 1 < length row = omega (arith, c.requires) in
    left-lowest (order g) row i inside
    (λ l d. elim c.else-right-heap.branch [
      | else-right-heap-via-then-right-heap+else-is_ahead w ↦ rw (sym (get_or_read row (2 * i + 1) w.index-heap-left.result inside w.index-heap-left.is d), sym (get_or_read row (2 * i + 1 + 1) w.index-heap-right.result l w.index-heap-right.is d)) (sym w.if-is_ahead.ensures)
      | else-right-heap-via-else-right-heap w ↦ absurd (omega (arith, w.if-right-heap.false, l))
    ])
