-- No more entries than room.
use Rattle.std.specs.Prelude.{◌≡◌, ◌≤◌, Bool, List, [], ◌∷◌, length, refl}
use Rattle.std.proofs.Common.{arith}
use Rattle.line.specs.Rows.{held, room, held-fits}
use Rattle.line.specs.declared.row.Row.{Row}
use Rattle.line.proofs.Lists.{length-with}
use Rattle.heap_row.specs.Heap.{sorted}

module _ {X : Type 0} (ahead : X → X → Bool) where
  -- sorting neither adds nor drops any
  pub length-sorted : (xs : List X) → length (sorted ahead xs) ≡ length xs
  length-sorted [] = refl
  length-sorted (x ∷ xs) = omega (arith, length-with ahead x (sorted ahead xs), length-sorted xs)

  pub sorted-fits : (row : Row X) → length (sorted ahead (held row)) ≤ room row
  sorted-fits row = omega (arith, length-sorted (held row), held-fits row)
