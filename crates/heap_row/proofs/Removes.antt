-- The last entry of a heap in the place of one that goes.
use Rattle.std.proofs.Common.{◌≡◌, ℕ, ◌+◌, ◌<◌, ◌≤◌, Bool, true, false, ◌≢◌, ◌⊎◌, List, length, get_or, take, set, sym, ap, ◌∙◌, subst, inl, inr, arith}
use Rattle.std.proofs.lemmas.Bool.{cases_Bool, cases_eq}
use Rattle.std.proofs.lemmas.List.{get_or-set_other, get_or-set_same, get_or-take, length-set, length-take-le, take_all, take_more}
use Rattle.line.specs.Order.{Order}
use Rattle.line.specs.Held.{with_entry}
use Rattle.heap_row.specs.Heap.{Heap, Rising, Sinking, parent, sorted}
use Rattle.heap_row.proofs.Rises.{not-trans, not-past}
use Rattle.heap_row.proofs.Sorts.{sorted-push, sorted-set}

-- e in the place of another
module _ {X : Type 0} {ahead : X → X → Bool} (o : Order ahead) (row : List X) (at : ℕ) (e : X) (in' : at < length row) (heap : Heap ahead row) where
  w_at : (d : X) → get_or (set row at e) at d ≡ e
  w_at d = get_or-set_same row at e d in'

  w-k : (k : ℕ) (d : X) → k ≢ at → get_or (set row at e) k d ≡ get_or row k d
  w-k k d h = get_or-set_other row at k e d h

  inside : (k : ℕ) → k < length (set row at e) → k < length row
  inside k l = omega (arith, length-set row at e)

  past : (k : ℕ) (d : X) → 0 < k → k < length (set row at e) → parent k ≡ at → 0 < at → ahead (get_or (set row at e) k d) (get_or (set row at e) (parent at) d) ≡ false
  past k d z l q za =
      let ka : k ≢ at = omega arith in
      let pa : parent at ≢ at = omega arith in
      rw (w-k k d ka, w-k (parent at) d pa) (not-trans o (get_or row k d) (get_or row at d) (get_or row (parent at) d) (subst (λ j. ahead (get_or row k d) (get_or row j d) ≡ false) q (heap k d z (inside k l))) (heap at d za in'))

  fall-by : (0 < at → (d : X) → ahead e (get_or row (parent at) d) ≡ false) → (k : ℕ) (d : X) → 0 < k → k < length (set row at e) → (parent k ≡ at → ⊥) → (k ≡ at) ⊎ (k ≢ at) → ahead (get_or (set row at e) k d) (get_or (set row at e) (parent k) d) ≡ false
  fall-by h k d z l q (inl p) =
      let za : 0 < at = omega arith in
      let pa : parent at ≢ at = omega arith in
      rw p (rw (w_at d, w-k (parent at) d pa) (h za d))
  fall-by h k d z l q (inr p) = rw (w-k k d p, w-k (parent k) d q) (heap k d z (inside k l))

  -- where e is not ahead of what stands above
  pub fall : (0 < at → (d : X) → ahead e (get_or row (parent at) d) ≡ false) → Sinking ahead (set row at e) at
  fall h = record { others = λ k d z l q. fall-by h k d z l q (cases_eq k at); above = past }

  climb-by : ((d : X) → ahead e (get_or row (parent at) d) ≡ true) → 0 < at → (k : ℕ) (d : X) → 0 < k → k < length (set row at e) → k ≢ at → (parent k ≡ at) ⊎ (parent k ≢ at) → ahead (get_or (set row at e) k d) (get_or (set row at e) (parent k) d) ≡ false
  climb-by h za k d z l p (inl q) =
      rw q (rw (w-k k d p, w_at d) (not-past o (get_or row k d) e (get_or row (parent at) d) (not-trans o (get_or row k d) (get_or row at d) (get_or row (parent at) d) (subst (λ j. ahead (get_or row k d) (get_or row j d) ≡ false) q (heap k d z (inside k l))) (heap at d za in')) (h d) (cases_Bool _)))
  climb-by h za k d z l p (inr q) = rw (w-k k d p, w-k (parent k) d q) (heap k d z (inside k l))

  -- where it is
  pub climb : ((d : X) → ahead e (get_or row (parent at) d) ≡ true) → 0 < at → Rising ahead (set row at e) at
  climb h za = record { others = λ k d z l p. climb-by h za k d z l p (cases_eq (parent k) at); below = past }

-- the front of a heap is one
pub heap-front : {X : Type 0} (ahead : X → X → Bool) (xs : List X) (n : ℕ) → n ≤ length xs → Heap ahead xs → Heap ahead (take n xs)
heap-front ahead xs n le h k d z l =
    let m = length-take-le n xs le in
    let a : k < n = omega arith in
    let b : parent k < n = omega arith in
    rw (get_or-take n xs k d a, get_or-take n xs (parent k) d b) (h k d z (omega arith))

module _ {X : Type 0} {ahead : X → X → Bool} (o : Order ahead) where
  pub sorted_more : (xs : List X) (n : ℕ) (d : X) → n < length xs → sorted ahead (take (n + 1) xs) ≡ with_entry ahead (get_or xs n d) (sorted ahead (take n xs))
  sorted_more xs n d l = ap (sorted ahead) (take_more xs n d l) ∙ sorted-push o (take n xs) (get_or xs n d)

  module _ (xs : List X) (n : ℕ) (l : n < length xs) (last : length xs ≤ n + 1) where
    pub less-last : (d : X) → with_entry ahead (get_or xs n d) (sorted ahead (take n xs)) ≡ sorted ahead xs
    less-last d = sym (ap (sorted ahead) (sym (take_all (n + 1) xs last)) ∙ sorted_more xs n d l)

  -- v, the last, in the place of the entry at `at`, which is not the last
  pub less : (xs : List X) (n : ℕ) → n < length xs → length xs ≤ n + 1 → (at : ℕ) (v d : X) → at < n → ((d : X) → get_or xs n d ≡ v) → with_entry ahead (get_or xs at d) (sorted ahead (set (take n xs) at v)) ≡ sorted ahead xs
  less xs n l last at v d w is =
      let long = length-take-le n xs (omega arith) in
      ap (λ y. with_entry ahead y (sorted ahead (set (take n xs) at v))) (sym (get_or-take n xs at d w)) ∙ sorted-set o (take n xs) at v d (omega arith) ∙ ap (λ y. with_entry ahead y (sorted ahead (take n xs))) (sym (is d)) ∙ less-last xs n l last d
