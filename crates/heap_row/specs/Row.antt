-- What a heap in a row means as a line.
use Rattle.std.specs.Prelude.{ℕ, List}
use Rattle.line.specs.Rows.{held, room}
use Rattle.line.specs.declared.entry.Entry.{Ghosts}
use Rattle.heap_row.specs.Heap.{sorted}
use Rattle.heap_row.specs.declared.heap_row.HeapRow.{HeapRow}

module _ {X : Type 0} {g : Ghosts X} where
  -- the entries are what the row holds, in order
  abbrev pub entries_of : HeapRow X g → List X
  entries_of line = sorted g.ahead (held line.row)

  -- the room is the row's
  abbrev pub room_of : HeapRow X g → ℕ
  room_of line = room line.row
