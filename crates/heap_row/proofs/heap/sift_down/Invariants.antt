use Rattle.std.proofs.Common.{◌≡◌, ◌-◌, ◌<◌, length, set}
use Rattle.line.specs.Rows.{held, room}
use Rattle.heap_row.specs.Heap.{Sinking, sorted}
use Rattle.heap_row.proofs.heap.sift_down.Given as goal

-- with `mover` written at `i`, the heap is as sunk and holds the same entries as with it at `at`
abbrev pub invariant-loop-i : goal.invariant-loop-i
invariant-loop-i g l =
    (l.i < length (held l.row)) × (length (held l.row) ≡ length (held l.initial.row)) × (Sinking g.T.Entry.ahead (set (held l.initial.row) l.at l.mover) l.at → Sinking g.T.Entry.ahead (set (held l.row) l.i l.mover) l.i) × (sorted g.T.Entry.ahead (set (held l.row) l.i l.mover) ≡ sorted g.T.Entry.ahead (set (held l.initial.row) l.at l.mover)) × (room l.row ≡ room l.initial.row)

abbrev pub decreases-loop-i : goal.decreases-loop-i
decreases-loop-i g l = length (held l.initial.row) - l.i
