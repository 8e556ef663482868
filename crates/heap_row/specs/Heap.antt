-- Heaps, and the list that a heap means.
use Rattle.std.specs.Prelude.{◌≡◌, ℕ, ◌-◌, ◌/◌, ◌<◌, Bool, true, false, cond, List, [], ◌∷◌, length, Some, None, Option, ◌≢◌, slice_index_or}
use Rattle.line.specs.Held.{holds, with_entry}

-- the place above place k
abbrev pub parent : ℕ → ℕ
parent k = (k - 1) / 2

module _ {X : Type 0} (ahead : X → X → Bool) where
  -- the entries in order
  abbrev pub sorted : List X → List X
  sorted [] = []
  sorted (x ∷ xs) = with_entry ahead x (sorted xs)

  -- e is held, at place i
  pub record Stands (e : X) (xs : List X) (i : ℕ) : Type 0 where
    pub within : i < length xs
    pub held : holds ahead e (sorted xs) ≡ true
    pub is : (d : X) → slice_index_or xs i d ≡ e

  -- what a search for e answers: the place where it stands, or none if it is not held
  abbrev pub Found : X → List X → Option ℕ → Type 0
  Found e xs None = holds ahead e (sorted xs) ≡ false
  Found e xs (Some i) = Stands e xs i

  -- the one of two that is ahead
  abbrev pub earlier : X → X → X
  earlier x y = cond (ahead y x) y x

  -- no entry is ahead of its parent
  abbrev pub Heap : List X → Type 0
  Heap xs = (k : ℕ) (d : X) → 0 < k → k < length xs → ahead (slice_index_or xs k d) (slice_index_or xs (parent k) d) ≡ false

  -- a heap but for the entry at i, which may be ahead of its parent
  pub record Rising (xs : List X) (i : ℕ) : Type 0 where
    pub others : (k : ℕ) (d : X) → 0 < k → k < length xs → (k ≢ i) → ahead (slice_index_or xs k d) (slice_index_or xs (parent k) d) ≡ false
    pub below : (k : ℕ) (d : X) → 0 < k → k < length xs → parent k ≡ i → 0 < i → ahead (slice_index_or xs k d) (slice_index_or xs (parent i) d) ≡ false

  -- a heap but for the entry at i, whose children may be ahead of it
  pub record Sinking (xs : List X) (i : ℕ) : Type 0 where
    pub others : (k : ℕ) (d : X) → 0 < k → k < length xs → (parent k ≢ i) → ahead (slice_index_or xs k d) (slice_index_or xs (parent k) d) ≡ false
    pub above : (k : ℕ) (d : X) → 0 < k → k < length xs → parent k ≡ i → 0 < i → ahead (slice_index_or xs k d) (slice_index_or xs (parent i) d) ≡ false

  -- c is a child of i, and no other child of i is ahead of it
  pub record Lowest (xs : List X) (i c : ℕ) : Type 0 where
    pub pos : 0 < c
    pub within : c < length xs
    pub up : parent c ≡ i
    pub least : (k : ℕ) (d : X) → 0 < k → k < length xs → parent k ≡ i → ahead (slice_index_or xs k d) (slice_index_or xs c d) ≡ false
