-- Where an entry stands in a list in order, or where it belongs.
use Rattle.std.specs.Prelude.{◌≡◌, ℕ, ◌<◌, ◌≤◌, Bool, true, false, List, length, Ok, Err, Result}
use Rattle.std.specs.List.{insert, remove}
use Rattle.line.specs.Held.{holds, with_entry, without}

module _ {X : Type 0} (ahead : X → X → Bool) (e : X) (xs : List X) where
  -- e is held, at i
  pub record Stands (i : ℕ) : Type 0 where
    pub within : i < length xs
    pub held : holds ahead e xs ≡ true
    pub less : without ahead e xs ≡ remove xs i

  -- e is not held, and its place is i
  pub record Belongs (i : ℕ) : Type 0 where
    pub within : i ≤ length xs
    pub free : holds ahead e xs ≡ false
    pub more : with_entry ahead e xs ≡ insert xs i e

  -- what a search answers: where e stands, or else where it belongs
  abbrev pub Found : Result ℕ ℕ → Type 0
  Found (Ok i) = Stands i
  Found (Err i) = Belongs i
