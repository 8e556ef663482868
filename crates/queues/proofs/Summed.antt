-- The sum of what the first entries at a price show. Assumes nothing.
use Rattle.std.proofs.Common.{◌≡◌, ℕ, zero, suc, ◌+◌, ◌≤◌, Bool, true, false, cond, List, [], ◌∷◌, length, take, ℤ, refl, ap, ◌∙◌, arith}
use Rattle.std.specs.List.{sum_by, prefix_len}
use Rattle.std.proofs.lemmas.List.Sums.{sum_by-cons}
use Rattle.rules.specs.Base.{eq_z}
use Rattle.queues.specs.Walks.{shown_at}

module _ {X : Type 0} (price : X → ℤ) (shown : X → ℕ) (p : ℤ) where
  -- those of the first k entries that are at p
  abbrev pub first_at : ℕ → List X → List X
  first_at k xs = take (prefix_len (λ x. eq_z (price x) p) (take k xs)) (take k xs)

  pub summed : (k : ℕ) (xs : List X) → sum_by shown (first_at k xs) ≡ shown_at price shown k p xs
  summed zero xs = refl
  summed (suc k) [] = refl
  summed (suc k) (x ∷ xs) = go (summed k xs) (eq_z (price x) p)
    where
      go : sum_by shown (first_at k xs) ≡ shown_at price shown k p xs → (b : Bool) →
          sum_by shown (take (cond b (1 + prefix_len (λ y. eq_z (price y) p) (take k xs)) 0) (x ∷ take k xs)) ≡ cond b (shown x + shown_at price shown k p xs) 0
      go e true =
          let m = prefix_len (λ y. eq_z (price y) p) (take k xs) in
          let up : 1 + m ≡ suc m = omega arith in
          ap (λ (n : ℕ). sum_by shown (take n (x ∷ take k xs))) up ∙ sum_by-cons shown x (first_at k xs) ∙ ap (λ (n : ℕ). shown x + n) e
      go e false = refl

-- no more than k
pub few : {X : Type 0} (k n : ℕ) (xs : List X) → length (take n (take k xs)) ≤ k
few zero zero xs = omega arith
few zero (suc n) xs = omega arith
few (suc k) zero xs = omega arith
few (suc k) (suc n) [] = omega arith
few (suc k) (suc n) (x ∷ xs) = let r = few k n xs in omega (arith, r)
