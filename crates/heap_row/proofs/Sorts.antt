-- What sorting keeps.
use Rattle.std.proofs.Common.{◌≡◌, ℕ, zero, suc, ◌<◌, Bool, true, false, cond, not, ◌||◌, ◌≢◌, ◌⊎◌, List, [], ◌∷◌, ◌++◌, length, get_or, set, Some, sym, refl, ap, ◌∙◌, subst, inl, inr, arith}
use Rattle.std.proofs.lemmas.Bool.{cases_Bool, both_ways, cond-true, cond-false, or_parts, not-false, not-true, or_right}
use Rattle.std.proofs.lemmas.List.{get_or-set_other, length-set}
use Rattle.std.specs.List.{AllByRecursion as All}
use Rattle.line.specs.Order.{Order}
use Rattle.line.specs.Held.{holds, with_entry, without, Ordered, first_of}
use Rattle.line.proofs.Lists.{not_back, length-with, holds-none}
use Rattle.line.proofs.Chains.{Chain, all-with, chain-from-ordered, ordered-from-chain}
use Rattle.heap_row.specs.Heap.{sorted}

module _ {X : Type 0} {ahead : X → X → Bool} (o : Order ahead) where
  -- ---- two entries may be put in either order

  with_two : (a b : X) (l : List X) → (ahead a b ≡ true) ⊎ (ahead a b ≡ false) → (ahead b a ≡ true) ⊎ (ahead b a ≡ false) → with_entry ahead a (b ∷ []) ≡ with_entry ahead b (a ∷ [])
  with_two a b l (inl p) (inl q) = absurd (both_ways (ahead b a) (not_back o a b p) q)
  with_two a b l (inl p) (inr q) = rw (p, q)
  with_two a b l (inr p) (inl q) = rw (p, q)
  with_two a b l (inr p) (inr q) = let e : a ≡ b = o.total a b p q in rw (p, q) (ap (λ y. y ∷ a ∷ []) (sym e) ∙ ap (λ y. a ∷ y ∷ []) e)

  pub with-comm : (a b : X) (l : List X) → with_entry ahead a (with_entry ahead b l) ≡ with_entry ahead b (with_entry ahead a l)
  with-comm a b [] = with_two a b [] (cases_Bool (ahead a b)) (cases_Bool (ahead b a))
  with-comm a b (x ∷ l) = by (with-comm a b l) (cases_Bool (ahead a x)) (cases_Bool (ahead b x)) (cases_Bool (ahead a b)) (cases_Bool (ahead b a))
    where
      by : with_entry ahead a (with_entry ahead b l) ≡ with_entry ahead b (with_entry ahead a l) → (ahead a x ≡ true) ⊎ (ahead a x ≡ false) → (ahead b x ≡ true) ⊎ (ahead b x ≡ false) → (ahead a b ≡ true) ⊎ (ahead a b ≡ false) → (ahead b a ≡ true) ⊎ (ahead b a ≡ false) → with_entry ahead a (with_entry ahead b (x ∷ l)) ≡ with_entry ahead b (with_entry ahead a (x ∷ l))
      by ih (inl p) (inl q) (inl r) (inl s) = absurd (both_ways (ahead b a) (not_back o a b r) s)
      by ih (inl p) (inl q) (inl r) (inr s) = simp (p, q, r, s)
      by ih (inl p) (inl q) (inr r) (inl s) = simp (p, q, r, s)
      by ih (inl p) (inl q) (inr r) (inr s) = let e : a ≡ b = o.total a b r s in subst (λ y. with_entry ahead a (with_entry ahead y (x ∷ l)) ≡ with_entry ahead y (with_entry ahead a (x ∷ l))) e refl
      by ih (inl p) (inr q) r (inl s) = absurd (both_ways (ahead b x) q (o.transitive b a x s p))
      by ih (inl p) (inr q) r (inr s) = simp (p, q, s)
      by ih (inr p) (inl q) (inl r) s = absurd (both_ways (ahead a x) p (o.transitive a b x r q))
      by ih (inr p) (inl q) (inr r) s = simp (p, q, r)
      by ih (inr p) (inr q) r s = simp (p, q) (ap (λ t. x ∷ t) ih)

  -- ---- what is put on both sides may be left out

  no_lead : (b x : X) (s t : List X) → ahead b x ≡ true → x ∷ s ≡ with_entry ahead b t → ⊥
  no_lead b x s [] h e = let f : x ≡ b = cc in both_ways (ahead b b) (o.irreflexive b) (subst (λ y. ahead b y ≡ true) f h)
  no_lead b x s (z ∷ t) h e = by (cases_Bool (ahead b z))
    where
      by : (ahead b z ≡ true) ⊎ (ahead b z ≡ false) → ⊥
      by (inl p) = let e' : x ∷ s ≡ b ∷ z ∷ t = e ∙ cond-true _ _ _ p in let f : x ≡ b = cc in both_ways (ahead b b) (o.irreflexive b) (subst (λ y. ahead b y ≡ true) f h)
      by (inr p) = let e' : x ∷ s ≡ z ∷ with_entry ahead b t = e ∙ cond-false _ _ _ p in let f : x ≡ z = cc in both_ways (ahead b z) p (subst (λ y. ahead b y ≡ true) f h)

  pub with-cancel : (b : X) (s t : List X) → with_entry ahead b s ≡ with_entry ahead b t → s ≡ t
  with-cancel b [] [] e = refl
  with-cancel b [] (y ∷ t) e = absurd (omega (arith, ap length e, length-with ahead b (y ∷ t)))
  with-cancel b (x ∷ s) [] e = absurd (omega (arith, ap length e, length-with ahead b (x ∷ s)))
  with-cancel b (x ∷ s) (y ∷ t) e = by (with-cancel b s t) (cases_Bool (ahead b x)) (cases_Bool (ahead b y))
    where
      by : (with_entry ahead b s ≡ with_entry ahead b t → s ≡ t) → (ahead b x ≡ true) ⊎ (ahead b x ≡ false) → (ahead b y ≡ true) ⊎ (ahead b y ≡ false) → x ∷ s ≡ y ∷ t
      by ih (inl p) (inl q) = let f : b ∷ x ∷ s ≡ b ∷ y ∷ t = sym (cond-true _ _ _ p) ∙ e ∙ cond-true _ _ _ q in cc
      by ih (inl p) (inr q) = let f : b ∷ x ∷ s ≡ y ∷ with_entry ahead b t = sym (cond-true _ _ _ p) ∙ e ∙ cond-false _ _ _ q in let g : x ∷ s ≡ with_entry ahead b t = cc in absurd (no_lead b x s t p g)
      by ih (inr p) (inl q) = let f : x ∷ with_entry ahead b s ≡ b ∷ y ∷ t = sym (cond-false _ _ _ p) ∙ e ∙ cond-true _ _ _ q in let g : y ∷ t ≡ with_entry ahead b s = cc in absurd (no_lead b y t s q g)
      by ih (inr p) (inr q) =
          let f : x ∷ with_entry ahead b s ≡ y ∷ with_entry ahead b t = sym (cond-false _ _ _ p) ∙ e ∙ cond-false _ _ _ q in
          let g : with_entry ahead b s ≡ with_entry ahead b t = cc in
          let h : s ≡ t = ih g in
          cc

  -- ---- an entry written over another, two exchanged, and one more at the end

  pub sorted-set : (l : List X) (i : ℕ) (x d : X) → i < length l → with_entry ahead (get_or l i d) (sorted ahead (set l i x)) ≡ with_entry ahead x (sorted ahead l)
  sorted-set [] i x d h = absurd (omega arith)
  sorted-set (y ∷ l) zero x d h = with-comm y x (sorted ahead l)
  sorted-set (y ∷ l) (suc i) x d h =
      with-comm (get_or l i d) y (sorted ahead (set l i x)) ∙ ap (with_entry ahead y) (sorted-set l i x d (omega arith)) ∙ with-comm y x (sorted ahead l)

  pub sorted-swap : (l : List X) (i j : ℕ) (d : X) → i < length l → j < length l → i ≢ j → sorted ahead (set (set l i (get_or l j d)) j (get_or l i d)) ≡ sorted ahead l
  sorted-swap l i j d hi hj ne =
      let m = set l i (get_or l j d) in
      let lj : j < length m = omega (arith, length-set l i (get_or l j d)) in
      let ne' : j ≢ i = λ q. ne (sym q) in
      let same : get_or m j d ≡ get_or l j d = get_or-set_other l i j (get_or l j d) d ne' in
      let one = sorted-set m j (get_or l i d) d lj in
      let two = sorted-set l i (get_or l j d) d hi in
      with-cancel (get_or l j d) _ _ (ap (λ y. with_entry ahead y (sorted ahead (set m j (get_or l i d)))) (sym same) ∙ one ∙ two)

  pub sorted-push : (l : List X) (x : X) → sorted ahead (l ++ x ∷ []) ≡ with_entry ahead x (sorted ahead l)
  sorted-push [] x = refl
  sorted-push (y ∷ l) x = ap (with_entry ahead y) (sorted-push l x) ∙ with-comm y x (sorted ahead l)

  -- ---- what is held

  swap_or : (a b c : Bool) → (a || (b || c)) ≡ (b || (a || c))
  swap_or true true c = refl
  swap_or true false c = refl
  swap_or false b c = refl

  pub holds-with : (e x : X) (s : List X) → holds ahead e (with_entry ahead x s) ≡ (not (ahead x e || ahead e x) || holds ahead e s)
  holds-with e x [] = refl
  holds-with e x (y ∷ s) = by (holds-with e x s) (cases_Bool (ahead x y))
    where
      by : holds ahead e (with_entry ahead x s) ≡ (not (ahead x e || ahead e x) || holds ahead e s) → (ahead x y ≡ true) ⊎ (ahead x y ≡ false) → holds ahead e (with_entry ahead x (y ∷ s)) ≡ (not (ahead x e || ahead e x) || holds ahead e (y ∷ s))
      by ih (inl p) = rw p
      by ih (inr p) = rw p (ap (λ t. not (ahead y e || ahead e y) || t) ih ∙ swap_or (not (ahead y e || ahead e y)) (not (ahead x e || ahead e x)) (holds ahead e s))

  -- ---- the first

  pub first-with : (x : X) (s : List X) → All (λ y. ahead y x ≡ false) s → Some x ≡ first_of (with_entry ahead x s)
  first-with x [] h = refl
  first-with x (y ∷ s) (h, hs) = by (cases_Bool (ahead x y))
    where
      by : (ahead x y ≡ true) ⊎ (ahead x y ≡ false) → Some x ≡ first_of (with_entry ahead x (y ∷ s))
      by (inl p) = rw p
      by (inr p) = rw p (ap Some (o.total x y p h))

  pub all-sorted : (P : X → Type 0) (xs : List X) → All P xs → All P (sorted ahead xs)
  all-sorted P [] h = tt
  all-sorted P (x ∷ xs) (h, hs) = all-with ahead P x (sorted ahead xs) h (all-sorted P xs hs)

  -- ---- one less

  own_in : (P : X → Type 0) (e : X) (s : List X) → All P (with_entry ahead e s) → P e × All P s
  own_in P e [] h = (h.0, tt)
  own_in P e (y ∷ s) h = by (own_in P e s) (cases_Bool (ahead e y))
    where
      by : (All P (with_entry ahead e s) → P e × All P s) → (ahead e y ≡ true) ⊎ (ahead e y ≡ false) → P e × All P (y ∷ s)
      by ih (inl p) = let k = subst (All P) (cond-true _ _ _ p) h in (k.0, k.1)
      by ih (inr p) = let k = subst (All P) (cond-false _ _ _ p) h in let m = ih k.1 in (m.0, (k.0, m.1))

  chain-of : (e : X) (s : List X) → Chain ahead (with_entry ahead e s) → (holds ahead e s ≡ false) × Chain ahead s
  chain-of e [] h = (refl, tt)
  chain-of e (y ∷ s) h = by (chain-of e s) (cases_Bool (ahead e y))
    where
      by : (Chain ahead (with_entry ahead e s) → (holds ahead e s ≡ false) × Chain ahead s) → (ahead e y ≡ true) ⊎ (ahead e y ≡ false) → (holds ahead e (y ∷ s) ≡ false) × Chain ahead (y ∷ s)
      by ih (inl p) = let k = subst (Chain ahead) (cond-true _ _ _ p) h in (holds-none o e (y ∷ s) k.0, k.1)
      by ih (inr p) =
          let k = subst (Chain ahead) (cond-false _ _ _ p) h in
          let m = own_in (λ z. ahead y z ≡ true) e s k.0 in
          let r = ih k.1 in
          (rw m.0 r.0, (m.1, r.1))

  pub free_of : (e : X) (s : List X) → Ordered ahead (with_entry ahead e s) → holds ahead e s ≡ false
  free_of e s h = (chain-of e s (chain-from-ordered ahead _ h)).0

  pub ordered_of : (e : X) (s : List X) → Ordered ahead (with_entry ahead e s) → Ordered ahead s
  ordered_of e s h = ordered-from-chain ahead s (chain-of e s (chain-from-ordered ahead _ h)).1

  without-free : (e : X) (s : List X) → holds ahead e s ≡ false → without ahead e s ≡ s
  without-free e [] h = refl
  without-free e (y ∷ s) h =
      let p = or_parts (not (ahead y e || ahead e y)) (holds ahead e s) h in
      cond-true (ahead y e || ahead e y) _ _ (not-false (ahead y e || ahead e y) p.0) ∙ ap (λ t. y ∷ t) (without-free e s p.1)

  without-own : (e : X) (s : List X) → without ahead e (with_entry ahead e s) ≡ without ahead e s
  without-own e [] = rw (o.irreflexive e)
  without-own e (y ∷ s) = by (without-own e s) (cases_Bool (ahead e y))
    where
      by : without ahead e (with_entry ahead e s) ≡ without ahead e s → (ahead e y ≡ true) ⊎ (ahead e y ≡ false) → without ahead e (with_entry ahead e (y ∷ s)) ≡ without ahead e (y ∷ s)
      by ih (inl p) = rw (cond-true (ahead e y) (e ∷ y ∷ s) (y ∷ with_entry ahead e s) p) (rw (o.irreflexive e))
      by ih (inr p) = rw (cond-false (ahead e y) (e ∷ y ∷ s) (y ∷ with_entry ahead e s) p) (ap (λ t. cond (ahead y e || ahead e y) (y ∷ t) t) ih)

  pub without-with : (e : X) (s : List X) → Ordered ahead (with_entry ahead e s) → without ahead e (with_entry ahead e s) ≡ s
  without-with e s h = without-own e s ∙ without-free e s (free_of e s h)

  -- ---- what is found

  pub holds-sorted : (e : X) (xs : List X) → holds ahead e (sorted ahead xs) ≡ holds ahead e xs
  holds-sorted e [] = refl
  holds-sorted e (x ∷ xs) = holds-with e x (sorted ahead xs) ∙ ap (λ t. not (ahead x e || ahead e x) || t) (holds-sorted e xs)

  pub holds_at : (e : X) (xs : List X) (i : ℕ) → i < length xs → ((d : X) → get_or xs i d ≡ e) → holds ahead e xs ≡ true
  holds_at e [] i l h = absurd (omega arith)
  holds_at e (x ∷ xs) zero l h = rw (h x) (rw (o.irreflexive e))
  holds_at e (x ∷ xs) (suc i) l h = or_right (not (ahead x e || ahead e x)) (holds ahead e xs) (holds_at e xs i (omega arith) h)

  pub same-is : (x e : X) → not (ahead x e || ahead e x) ≡ true → x ≡ e
  same-is x e h = let p = or_parts (ahead x e) (ahead e x) (not-true (ahead x e || ahead e x) h) in o.total x e p.0 p.1
