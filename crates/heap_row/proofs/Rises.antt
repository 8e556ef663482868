-- An entry on its way up a heap.
use Rattle.std.proofs.Common.{◌≡◌, ℕ, ◌<◌, Bool, true, false, ◌≢◌, ◌⊎◌, List, length, get_or, set, sym, ap, ◌∙◌, subst, inl, inr, arith}
use Rattle.std.proofs.lemmas.Bool.{cases_Bool, cases_eq, both_ways}
use Rattle.std.proofs.lemmas.List.{get_or-set_other, get_or-set_same, get_or_read, length-set, set-set}
use Rattle.line.specs.Order.{Order}
use Rattle.line.proofs.Lists.{not_back}
use Rattle.heap_row.specs.Heap.{Heap, Rising, parent, sorted}
use Rattle.heap_row.proofs.Sorts.{sorted-swap}

module _ {X : Type 0} {ahead : X → X → Bool} (o : Order ahead) where
  not_on : (a b c : X) → ahead a b ≡ false → ahead b c ≡ false → (ahead a c ≡ true) ⊎ (ahead a c ≡ false) → (ahead b a ≡ true) ⊎ (ahead b a ≡ false) → ahead a c ≡ false
  not_on a b c p q (inr r) s = r
  not_on a b c p q (inl r) (inl s) = absurd (both_ways (ahead b c) q (o.transitive b a c s r))
  not_on a b c p q (inl r) (inr s) = absurd (both_ways (ahead b c) q (subst (λ y. ahead y c ≡ true) (o.total a b p s) r))

  -- what is not ahead of b, which is not ahead of c, is not ahead of c
  pub not-trans : (a b c : X) → ahead a b ≡ false → ahead b c ≡ false → ahead a c ≡ false
  not-trans a b c p q = not_on a b c p q (cases_Bool (ahead a c)) (cases_Bool (ahead b a))

  -- what is not ahead of c is not ahead of b, which is
  pub not-past : (a b c : X) → ahead a c ≡ false → ahead b c ≡ true → (ahead a b ≡ true) ⊎ (ahead a b ≡ false) → ahead a b ≡ false
  not-past a b c p q (inr r) = r
  not-past a b c p q (inl r) = absurd (both_ways (ahead a c) p (o.transitive a b c r q))

  -- in m the entries at i and at its parent have changed places
  module _ (l m : List X) (i : ℕ) (pos : 0 < i) (in' : i < length l) (same : length m ≡ length l) (rising : Rising ahead l i) (up : (d : X) → ahead (get_or l i d) (get_or l (parent i) d) ≡ true)
      (at_i : (d : X) → get_or m i d ≡ get_or l (parent i) d) (at_p : (d : X) → get_or m (parent i) d ≡ get_or l i d)
      (at_other : (k : ℕ) (d : X) → k ≢ i → k ≢ parent i → get_or m k d ≡ get_or l k d) where
    step_other : (k : ℕ) (d : X) → 0 < k → k < length l → k ≢ i → k ≢ parent i → (parent k ≡ i) ⊎ (parent k ≢ i) → (parent k ≡ parent i) ⊎ (parent k ≢ parent i) → ahead (get_or m k d) (get_or m (parent k) d) ≡ false
    step_other k d z l' ni np (inl e) f =
        rw at_other (rw e (rw at_i (rising.below k d z l' e pos)))
    step_other k d z l' ni np (inr e) (inl f) =
        rw at_other (rw f (rw at_p (not-past (get_or l k d) (get_or l i d) (get_or l (parent i) d) (subst (λ j. ahead (get_or l k d) (get_or l j d) ≡ false) f (rising.others k d z l' ni)) (up d) (cases_Bool _))))
    step_other k d z l' ni np (inr e) (inr f) =
        rw (at_other k d ni np, at_other (parent k) d e f) (rising.others k d z l' ni)

    step-at : (k : ℕ) (d : X) → 0 < k → k < length l → k ≢ parent i → (k ≡ i) ⊎ (k ≢ i) → ahead (get_or m k d) (get_or m (parent k) d) ≡ false
    step-at k d z l' np (inl e) = rw e (rw (at_i d, at_p d) (not_back o (get_or l i d) (get_or l (parent i) d) (up d)))
    step-at k d z l' np (inr ne) = step_other k d z l' ne np (cases_eq (parent k) i) (cases_eq (parent k) (parent i))

    below_at : (k : ℕ) (d : X) → 0 < k → k < length l → parent k ≡ parent i → 0 < parent i → (k ≡ i) ⊎ (k ≢ i) → ahead (get_or m k d) (get_or m (parent (parent i)) d) ≡ false
    below_at k d z l' e zp (inl q) =
        let a : parent (parent i) ≢ i = omega arith in
        let b : parent (parent i) ≢ parent i = omega arith in
        let c : parent i ≢ i = omega arith in
        let w : parent i < length l = omega arith in
        rw q (rw (at_i d, at_other (parent (parent i)) d a b) (rising.others (parent i) d zp w c))
    below_at k d z l' e zp (inr ne) =
        let a : parent (parent i) ≢ i = omega arith in
        let b : parent (parent i) ≢ parent i = omega arith in
        let c : parent i ≢ i = omega arith in
        let w : parent i < length l = omega arith in
        let np : k ≢ parent i = omega arith in
        rw (at_other k d ne np, at_other (parent (parent i)) d a b)
        (not-trans (get_or l k d) (get_or l (parent i) d) (get_or l (parent (parent i)) d)
        (subst (λ j. ahead (get_or l k d) (get_or l j d) ≡ false) e (rising.others k d z l' ne))
        (rising.others (parent i) d zp w c))

    rise : Rising ahead m (parent i)
    rise = record {
      others = λ k d z l' np. let w : k < length l = omega arith in step-at k d z w np (cases_eq k i);
      below = λ k d z l' e zp. let w : k < length l = omega arith in below_at k d z w e zp (cases_eq k i);
    }

  settle-at : (l : List X) (i : ℕ) → Rising ahead l i → (0 < i → (d : X) → ahead (get_or l i d) (get_or l (parent i) d) ≡ false) → (k : ℕ) (d : X) → 0 < k → k < length l → (k ≡ i) ⊎ (k ≢ i) → ahead (get_or l k d) (get_or l (parent k) d) ≡ false
  settle-at l i r h k d z l' (inl e) = let z' : 0 < i = omega arith in rw e (h z' d)
  settle-at l i r h k d z l' (inr ne) = r.others k d z l' ne

  -- the entry at i is in its place
  pub settle : (l : List X) (i : ℕ) → Rising ahead l i → (0 < i → (d : X) → ahead (get_or l i d) (get_or l (parent i) d) ≡ false) → Heap ahead l
  settle l i r h k d z l' = settle-at l i r h k d z l' (cases_eq k i)

  -- the row, where e is to be written at i and a stands above it
  module _ (row : List X) (i : ℕ) (e a : X) (pos : 0 < i) (in' : i < length row) (read : a ≡ get_or row (parent i) a) where
    apart-i : parent i ≢ i
    apart-i = omega arith

    apart-p : i ≢ parent i
    apart-p = omega arith

    low : parent i < length row
    low = omega arith

    l-i : (d : X) → get_or (set row i e) i d ≡ e
    l-i d = get_or-set_same row i e d in'

    l-p : (d : X) → get_or (set row i e) (parent i) d ≡ a
    l-p d = get_or-set_other row i (parent i) e d apart-i ∙ sym (get_or_read row (parent i) a low read d)

    m-i : (d : X) → get_or (set (set row i a) (parent i) e) i d ≡ a
    m-i d = get_or-set_other (set row i a) (parent i) i e d apart-p ∙ get_or-set_same row i a d in'

    m-p : (d : X) → get_or (set (set row i a) (parent i) e) (parent i) d ≡ e
    m-p d = let w : parent i < length (set row i a) = omega (arith, length-set row i a, low) in get_or-set_same (set row i a) (parent i) e d w

    m-other : (k : ℕ) (d : X) → k ≢ i → k ≢ parent i → get_or (set (set row i a) (parent i) e) k d ≡ get_or (set row i e) k d
    m-other k d ni np = get_or-set_other (set row i a) (parent i) k e d np ∙ get_or-set_other row i k a d ni ∙ sym (get_or-set_other row i k e d ni)

    pub lift : ahead e a ≡ true → Rising ahead (set row i e) i → Rising ahead (set (set row i a) (parent i) e) (parent i)
    lift h r =
        rise (set row i e) (set (set row i a) (parent i) e) i pos (omega (arith, length-set row i e)) (length-set (set row i a) (parent i) e ∙ length-set row i a ∙ sym (length-set row i e)) r (λ d. rw (l-i d, l-p d) h) (λ d. m-i d ∙ sym (l-p d)) (λ d. m-p d ∙ sym (l-i d)) m-other

    pub lift-sorted : sorted ahead (set (set row i a) (parent i) e) ≡ sorted ahead (set row i e)
    lift-sorted =
        let t = set row i e in
        let n = length-set row i e in
        let wi : i < length t = omega arith in
        let wp : parent i < length t = omega arith in
        sym (ap (λ s. sorted ahead (set s (parent i) e)) (set-set row i e a)) ∙ sym (ap (λ y. sorted ahead (set (set t i y) (parent i) e)) (l-p e)) ∙ sym (ap (λ y. sorted ahead (set (set t i (get_or t (parent i) e)) (parent i) y)) (l-i e)) ∙ sorted-swap o t i (parent i) e wi wp apart-p

    pub lift-stop : ahead e a ≡ false → Rising ahead (set row i e) i → Heap ahead (set row i e)
    lift-stop h r = settle (set row i e) i r (λ _ d. rw (l-i d, l-p d) h)

  -- at the top there is nothing above
  pub top-stop : (l : List X) (i : ℕ) → i ≡ 0 → Rising ahead l i → Heap ahead l
  top-stop l i z r = settle l i r (λ p d. absurd (omega arith))
