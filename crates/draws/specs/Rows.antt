-- What is read from a row of the table of reserves. Assumes nothing.
use Rattle.std.specs.Prelude.{ℕ, List, Some, None, Option, slice_index}

-- the reserve in a row, and 0 in none
abbrev pub reserve_at : Option ℕ → List ℕ → ℕ
reserve_at None rs = 0
reserve_at (Some i) rs = slice_index rs i
