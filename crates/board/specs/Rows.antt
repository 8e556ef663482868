-- What is written into a row of a table. Assumes nothing.
use Rattle.std.specs.Prelude.{ℕ, List, Some, None, Option, slice_set}
use Rattle.std.specs.List.{remove}

module _ {A : Type 0} where
  -- a row is written anew, or goes
  abbrev pub put_at : Option ℕ → Option A → List A → List A
  put_at None r xs = xs
  put_at (Some i) None xs = remove xs i
  put_at (Some i) (Some x) xs = slice_set xs i x
