-- Tests, options and lists that the rules are written with. Assumes nothing.
use Rattle.std.specs.Prelude.{◌≡◌, ℕ, ◌+◌, Bool, true, false, cond, ◌||◌, List, [], ◌∷◌, ℤ, pos, negsuc, Some, None, Option, ◌==◌}

abbrev pub eq_z : ℤ → ℤ → Bool
eq_z (pos a) (pos b) = a == b
eq_z (pos a) (negsuc b) = false
eq_z (negsuc a) (pos b) = false
eq_z (negsuc a) (negsuc b) = a == b

-- it is there, and it is n
abbrev pub names : Option ℕ → ℕ → Bool
names None n = false
names (Some m) n = m == n

module _ {A : Type 0} where
  abbrev pub is_some : Option A → Bool
  is_some None = false
  is_some (Some a) = true

  abbrev pub or_else : Option A → A → A
  or_else None d = d
  or_else (Some a) d = a

  -- the first that is there
  abbrev pub or_next : Option A → Option A → Option A
  or_next None r = r
  or_next (Some a) r = Some a

  abbrev pub only_if : Bool → Option A → Option A
  only_if true r = r
  only_if false r = None

  abbrev pub cons_if : Bool → A → List A → List A
  cons_if true x xs = x ∷ xs
  cons_if false x xs = xs

  abbrev pub some_if : Bool → A → Option A → Option A
  some_if true x r = Some x
  some_if false x r = r

  -- what goes with the first test that passes
  abbrev pub verdict : List (Bool × A) → Option A
  verdict [] = None
  verdict (c ∷ cs) = some_if c.0 c.1 (verdict cs)

  -- none of the tests passes
  abbrev pub Fails : List (Bool × A) → Type 0
  Fails [] = Unit {0}
  Fails (c ∷ cs) = (c.0 ≡ false) × Fails cs

  -- those that pass
  unfoldable pub keep : (A → Bool) → List A → List A
  keep p [] = []
  keep p (x ∷ xs) = cons_if (p x) x (keep p xs)

  -- whether one passes
  unfoldable pub any : (A → Bool) → List A → Bool
  any p [] = false
  any p (x ∷ xs) = p x || any p xs

  -- how many pass
  unfoldable pub count : (A → Bool) → List A → ℕ
  count p [] = 0
  count p (x ∷ xs) = cond (p x) 1 0 + count p xs

  -- the first in the list that passes
  unfoldable pub find : (A → Bool) → List A → Option A
  find p [] = None
  find p (x ∷ xs) = some_if (p x) x (find p xs)

  -- of x, if it is a candidate, and the one found further down
  abbrev pub contest : Bool → (A → A → Bool) → A → Option A → Option A
  contest false ahead x r = r
  contest true ahead x None = Some x
  contest true ahead x (Some y) = Some (cond (ahead y x) y x)

  -- of those that pass, the one that is ahead
  unfoldable pub first : (A → Bool) → (A → A → Bool) → List A → Option A
  first p ahead [] = None
  first p ahead (x ∷ xs) = contest (p x) ahead x (first p ahead xs)

  unfoldable pub each : {B : Type 0} → (A → B) → List A → List B
  each f [] = []
  each f (x ∷ xs) = f x ∷ each f xs

-- a function with its value at n written anew
unfoldable pub write : {A : Type 0} → ℕ → A → (ℕ → A) → ℕ → A
write n v h m = cond (m == n) v (h m)
