-- An entry on its way down a heap.
use Rattle.std.proofs.Common.{◌≡◌, ℕ, ◌+◌, ◌*◌, ◌/◌, ◌<◌, ◌≤◌, Bool, true, false, ◌≢◌, ◌⊎◌, List, length, get_or, set, sym, ap, ◌∙◌, subst, inl, inr, arith}
use Rattle.std.proofs.lemmas.Bool.{cases_eq}
use Rattle.std.proofs.lemmas.List.{get_or-set_other, get_or-set_same, get_or_read, length-set, set-set}
use Rattle.line.specs.Order.{Order}
use Rattle.line.proofs.Lists.{not_back}
use Rattle.heap_row.specs.Heap.{Heap, Sinking, Lowest, parent, sorted}
use Rattle.heap_row.proofs.Rises.{not-trans}
use Rattle.heap_row.proofs.Sorts.{sorted-swap}

-- the row, where e is to be written at i and b is the lowest below it, at c
module _ {X : Type 0} {ahead : X → X → Bool} (o : Order ahead) (row : List X) (i c : ℕ) (e b : X) (in' : i < length row) (low : Lowest ahead row i c) (read : b ≡ get_or row c b) where
  ne : c ≢ i
  ne = omega (arith, low.pos, low.up)

  ne' : i ≢ c
  ne' = omega (arith, low.pos, low.up)

  length-l : length (set row i e) ≡ length row
  length-l = length-set row i e

  length-m : length (set (set row i b) c e) ≡ length row
  length-m = length-set (set row i b) c e ∙ length-set row i b

  l-i : (d : X) → get_or (set row i e) i d ≡ e
  l-i d = get_or-set_same row i e d in'

  l-k : (k : ℕ) (d : X) → k ≢ i → get_or (set row i e) k d ≡ get_or row k d
  l-k k d h = get_or-set_other row i k e d h

  row-c : (d : X) → get_or row c d ≡ b
  row-c d = sym (get_or_read row c b low.within read d)

  m-i : (d : X) → get_or (set (set row i b) c e) i d ≡ b
  m-i d = get_or-set_other (set row i b) c i e d ne' ∙ get_or-set_same row i b d in'

  m-c : (d : X) → get_or (set (set row i b) c e) c d ≡ e
  m-c d = get_or-set_same (set row i b) c e d (omega (arith, length-set row i b, low.within))

  m-k : (k : ℕ) (d : X) → k ≢ i → k ≢ c → get_or (set (set row i b) c e) k d ≡ get_or row k d
  m-k k d h q = get_or-set_other (set row i b) c k e d q ∙ get_or-set_other row i k b d h

  module _ (s : Sinking ahead (set row i e) i) where
    -- what the entries that are left say of the row
    kept : (k : ℕ) (d : X) → 0 < k → k < length row → k ≢ i → parent k ≢ i → ahead (get_or row k d) (get_or row (parent k) d) ≡ false
    kept k d z l h q =
        subst (λ y. ahead y (get_or row (parent k) d) ≡ false) (l-k k d h) (subst (λ y. ahead (get_or (set row i e) k d) y ≡ false) (l-k (parent k) d q) (s.others k d z (omega (arith, length-l)) q))

    module _ (down : ahead b e ≡ true) where
      child : (k : ℕ) (d : X) → 0 < k → k < length row → parent k ≡ i → (k ≡ c) ⊎ (k ≢ c) → ahead (get_or (set (set row i b) c e) k d) (get_or (set (set row i b) c e) i d) ≡ false
      child k d z l q (inl h) = rw h (rw (m-c d, m-i d) (not_back o b e down))
      child k d z l q (inr h) =
          let ki : k ≢ i = omega arith in
          rw (m-k k d ki h, m-i d) (subst (λ y. ahead (get_or row k d) y ≡ false) (row-c d) (low.least k d z l q))

      other : (k : ℕ) (d : X) → 0 < k → k < length row → (parent k ≡ i → ⊥) → parent k ≢ c → (k ≡ i) ⊎ (k ≢ i) → ahead (get_or (set (set row i b) c e) k d) (get_or (set (set row i b) c e) (parent k) d) ≡ false
      other k d z l q r (inl h) =
          let zi : 0 < i = omega arith in
          let pi : parent i ≢ i = omega arith in
          let pc : parent i ≢ c = omega (arith, low.up, low.pos) in
          rw h (rw (m-i d, m-k (parent i) d pi pc) (subst (λ y. ahead y (get_or row (parent i) d) ≡ false) (l-k c d ne ∙ row-c d) (subst (λ y. ahead (get_or (set row i e) c d) y ≡ false) (l-k (parent i) d pi) (s.above c d low.pos (omega (arith, low.within, length-l)) low.up zi))))
      other k d z l q r (inr h) =
          let kc : k ≢ c = λ w. q (ap parent w ∙ low.up) in
          rw (m-k k d h kc, m-k (parent k) d q r) (kept k d z l h q)

      others_by : (k : ℕ) (d : X) → 0 < k → k < length row → parent k ≢ c → (parent k ≡ i) ⊎ (parent k ≢ i) → ahead (get_or (set (set row i b) c e) k d) (get_or (set (set row i b) c e) (parent k) d) ≡ false
      others_by k d z l r (inl h) = rw h (child k d z l h (cases_eq k c))
      others_by k d z l r (inr h) = other k d z l h r (cases_eq k i)

      pub sink : Sinking ahead (set (set row i b) c e) c
      sink = record {
        others = λ k d z l r. others_by k d z (omega (arith, length-m)) r (cases_eq (parent k) i);
        above = λ k d z l q zc.
            let ki : k ≢ i = omega (arith, low.up) in
            let kc : k ≢ c = omega arith in
            let pi : parent k ≢ i = omega (arith, low.up, low.pos) in
            rw low.up (rw (m-k k d ki kc, m-i d) (subst (λ y. ahead (get_or row k d) y ≡ false) (row-c d) (subst (λ j. ahead (get_or row k d) (get_or row j d) ≡ false) q (kept k d z (omega (arith, length-m)) ki pi))));
      }

    module _ (stay : ahead b e ≡ false) where
      stop-by : (k : ℕ) (d : X) → 0 < k → k < length row → (parent k ≡ i) ⊎ (parent k ≢ i) → ahead (get_or (set row i e) k d) (get_or (set row i e) (parent k) d) ≡ false
      stop-by k d z l (inl h) =
          let ki : k ≢ i = omega arith in
          rw h (rw (l-k k d ki, l-i d) (not-trans o (get_or row k d) b e (subst (λ y. ahead (get_or row k d) y ≡ false) (row-c d) (low.least k d z l h)) stay))
      stop-by k d z l (inr h) = s.others k d z (omega (arith, length-l)) h

      pub sink-stop : Heap ahead (set row i e)
      sink-stop k d z l = stop-by k d z (omega (arith, length-l)) (cases_eq (parent k) i)

  pub sink-sorted : sorted ahead (set (set row i b) c e) ≡ sorted ahead (set row i e)
  sink-sorted =
      let t = set row i e in
      let wi : i < length t = omega (arith, length-l) in
      let wc : c < length t = omega (arith, length-l, low.within) in
      sym (ap (λ s. sorted ahead (set s c e)) (set-set row i e b)) ∙ sym (ap (λ y. sorted ahead (set (set t i y) c e)) (l-k c e ne ∙ row-c e)) ∙ sym (ap (λ y. sorted ahead (set (set t i (get_or t c e)) c y)) (l-i e)) ∙ sorted-swap o t i c e wi wc ne'

-- at the bottom there is nothing below
pub bottom-stop : {X : Type 0} (ahead : X → X → Bool) (l : List X) (i : ℕ) → length l / 2 ≤ i → Sinking ahead l i → Heap ahead l
bottom-stop ahead l i h s k d z w = let ne : parent k ≢ i = omega arith in s.others k d z w ne

-- the lowest of two, of which the right one is ahead or is not
module _ {X : Type 0} {ahead : X → X → Bool} (o : Order ahead) (row : List X) (i : ℕ) where
  which : (k : ℕ) → 0 < k → parent k ≡ i → (k ≡ 2 * i + 1) ⊎ (k ≢ 2 * i + 1) → (k ≡ 2 * i + 1) ⊎ (k ≡ 2 * i + 1 + 1)
  which k z q (inl p) = inl p
  which k z q (inr p) = inr (omega arith)

  module _ (in' : 2 * i + 1 + 1 < length row) (h : (d : X) → ahead (get_or row (2 * i + 1 + 1) d) (get_or row (2 * i + 1) d) ≡ true) where
    right_by : (k : ℕ) (d : X) → (k ≡ 2 * i + 1) ⊎ (k ≡ 2 * i + 1 + 1) → ahead (get_or row k d) (get_or row (2 * i + 1 + 1) d) ≡ false
    right_by k d (inl q) = rw q (not_back o (get_or row (2 * i + 1 + 1) d) (get_or row (2 * i + 1) d) (h d))
    right_by k d (inr q) = rw q (o.irreflexive (get_or row (2 * i + 1 + 1) d))

    pub right-lowest : Lowest ahead row i (2 * i + 1 + 1)
    right-lowest = record {
      pos = omega arith;
      within = in';
      up = omega arith;
      least = λ k d z l q. right_by k d (which k z q (cases_eq k (2 * i + 1)));
    }

  module _ (in' : 2 * i + 1 < length row) (h : 2 * i + 1 + 1 < length row → (d : X) → ahead (get_or row (2 * i + 1 + 1) d) (get_or row (2 * i + 1) d) ≡ false) where
    left_by : (k : ℕ) (d : X) → k < length row → (k ≡ 2 * i + 1) ⊎ (k ≡ 2 * i + 1 + 1) → ahead (get_or row k d) (get_or row (2 * i + 1) d) ≡ false
    left_by k d l (inl q) = rw q (o.irreflexive (get_or row (2 * i + 1) d))
    left_by k d l (inr q) = let w : 2 * i + 1 + 1 < length row = omega arith in rw q (h w d)

    pub left-lowest : Lowest ahead row i (2 * i + 1)
    left-lowest = record {
      pos = omega arith;
      within = in';
      up = omega arith;
      least = λ k d z l q. left_by k d l (which k z q (cases_eq k (2 * i + 1)));
    }
