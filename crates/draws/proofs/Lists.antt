-- Lists of which each item is changed. Assumes nothing.
use Rattle.std.proofs.Common.{◌≡◌, ℕ, ◌≤◌, List, [], ◌∷◌, ◌++◌, map, length, take, drop, sym, refl, ap, ◌∙◌}
use Rattle.std.proofs.lemmas.List.{take_all, drop_all, append-nil}
use Rattle.rules.specs.Base.{each}

module _ {A B : Type 0} where
  each_map : (f : A → B) (xs : List A) → each f xs ≡ map f xs
  unfolding each
  each_map f [] = refl
  each_map f (x ∷ xs) = ap (λ ys. f x ∷ ys) (each_map f xs)

module _ {A : Type 0} where
  -- a loop that changed each item up to i is at the end
  pub mapped : (f : A → A) (xs : List A) (i : ℕ) → length xs ≤ i → map f (take i xs) ++ drop i xs ≡ each f xs
  mapped f xs i h = rw (take_all i xs h, drop_all i xs h) (append-nil (map f xs) ∙ sym (each_map f xs))
