-- What an ordered row means as a line.
use Rattle.std.specs.Prelude.{ℕ, List}
use Rattle.line.specs.Rows.{held, room}
use Rattle.line.specs.declared.entry.Entry.{Ghosts}
use Rattle.ordered_row.specs.declared.ordered_row.OrderedRow.{OrderedRow}

module _ {X : Type 0} {g : Ghosts X} where
  -- the entries are what the row holds
  abbrev pub entries_of : OrderedRow X g → List X
  entries_of line = held line.row

  -- the room is the row's
  abbrev pub room_of : OrderedRow X g → ℕ
  room_of line = room line.row
