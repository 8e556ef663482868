-- What a row holds, and how much it can hold.
use Rattle.std.specs.Prelude.{ℕ, ◌≤◌, cond, List, length, take, Ok, Err, Result, nat_eq}
use Rattle.std.proofs.Common.{arith}
use Rattle.std.proofs.lemmas.List.{length-take}
use Rattle.line.specs.declared.lines.LineFault.{LineFault}
use Rattle.line.specs.declared.lines.LineFault.TheVariants.{Full}
use Rattle.line.specs.declared.row.Row.{Row}

module _ {X : Type 0} where
  -- the entries are the first `len` of its places
  abbrev pub held : Row X → List X
  held row = take row.len row.places.now

  -- the room is all of them
  abbrev pub room : Row X → ℕ
  room row = length row.places.now

  -- it never holds more than its room
  pub held-fits : (row : Row X) → length (held row) ≤ room row
  held-fits row = omega (arith, length-take row.len row.places.now)

-- one more is refused if as many are held as there is room for
abbrev pub room_answer : ℕ → ℕ → Result (Unit {0}) LineFault
room_answer room n = cond (nat_eq n room) (Err Full) (Ok tt)
