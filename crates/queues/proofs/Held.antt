-- What stands in a list of entries with one more or one fewer. Assumes nothing.
use Rattle.std.proofs.Common.{◌≡◌, ◌<◌, ◌≤◌, Bool, true, false, cond, not, ◌||◌, ◌⊎◌, List, [], ◌∷◌, length, sym, refl, ap, ◌∙◌, subst, inl, inr, ⊎_elim, arith}
use Rattle.std.proofs.lemmas.Bool.{both_ways, cases_Bool, cond_both, and_parts, or_right, or_left}
use Rattle.line.specs.Order.{Order as TotalOrder}
use Rattle.line.specs.Held.{leads, holds, with_entry, without}
use Rattle.rules.specs.Members.{In}

module _ {X : Type 0} (ahead : X → X → Bool) where
  pub in-with : (e : X) (xs : List X) (x : X) → In x (with_entry ahead e xs) → (x ≡ e) ⊎ In x xs
  in-with e [] x i = i
  in-with e (y ∷ ys) x i = go (in-with e ys x) (ahead e y) i
    where
      go : (In x (with_entry ahead e ys) → (x ≡ e) ⊎ In x ys) → (b : Bool) → In x (cond b (e ∷ y ∷ ys) (y ∷ with_entry ahead e ys)) → (x ≡ e) ⊎ In x (y ∷ ys)
      go ih true j = j
      go ih false (inl p) = inr (inl p)
      go ih false (inr j) = ⊎_elim (λ p. inl p) (λ k. inr (inr k)) (ih j)

  pub with_in : (e : X) (xs : List X) (x : X) → (x ≡ e) ⊎ In x xs → In x (with_entry ahead e xs)
  with_in e [] x i = i
  with_in e (y ∷ ys) x i = go (with_in e ys x) (ahead e y) i
    where
      go : ((x ≡ e) ⊎ In x ys → In x (with_entry ahead e ys)) → (b : Bool) → (x ≡ e) ⊎ In x (y ∷ ys) → In x (cond b (e ∷ y ∷ ys) (y ∷ with_entry ahead e ys))
      go ih true j = j
      go ih false (inl p) = inr (ih (inl p))
      go ih false (inr (inl p)) = inl p
      go ih false (inr (inr k)) = inr (ih (inr k))

  -- an entry that leads a list is ahead of what stands there
  pub led : (x : X) (xs : List X) → leads ahead x xs ≡ true → (y : X) → In y xs → ahead x y ≡ true
  led x [] h y i = absurd i
  led x (e ∷ es) h y (inl q) = subst (λ (z : X). ahead x z ≡ true) (sym q) (and_parts (ahead x e) (leads ahead x es) h).0
  led x (e ∷ es) h y (inr i) = led x es (and_parts (ahead x e) (leads ahead x es) h).1 y i

  pub without-shorter : (e : X) (xs : List X) → length (without ahead e xs) ≤ length xs
  without-shorter e [] = omega arith
  without-shorter e (y ∷ ys) =
      let ih = without-shorter e ys in
      cond_both (ahead y e || ahead e y) _ _ (λ zs. length zs ≤ length (y ∷ ys)) (λ _. omega arith) (λ _. omega arith)

module _ {X : Type 0} {ahead : X → X → Bool} (t : TotalOrder ahead) where
  -- what is not e is ahead of it or behind
  pub apart : (x e : X) → ¬ (x ≡ e) → ahead x e || ahead e x ≡ true
  apart x e n = go (cases_Bool (ahead x e)) (cases_Bool (ahead e x))
    where
      go : (ahead x e ≡ true) ⊎ (ahead x e ≡ false) → (ahead e x ≡ true) ⊎ (ahead e x ≡ false) → ahead x e || ahead e x ≡ true
      go (inl a) b = or_left (ahead x e) (ahead e x) a
      go (inr a) (inl b) = or_right (ahead x e) (ahead e x) b
      go (inr a) (inr b) = absurd (n (t.total x e a b))

  pub alike : (x e : X) → x ≡ e → ahead x e || ahead e x ≡ false
  alike x e p = rw (p, t.irreflexive e) refl

  pub in_without : (e : X) (xs : List X) (x : X) → In x (without ahead e xs) → In x xs × ¬ (x ≡ e)
  in_without e [] x i = absurd i
  in_without e (y ∷ ys) x i = go (in_without e ys x) (ahead y e || ahead e y) refl i
    where
      more : In x ys × ¬ (x ≡ e) → In x (y ∷ ys) × ¬ (x ≡ e)
      more r = (inr r.0, r.1)

      go : (In x (without ahead e ys) → In x ys × ¬ (x ≡ e)) → (b : Bool) → ahead y e || ahead e y ≡ b → In x (cond b (y ∷ without ahead e ys) (without ahead e ys)) → In x (y ∷ ys) × ¬ (x ≡ e)
      go ih true q (inl p) = (inl p, λ z. both_ways (ahead y e || ahead e y) (alike y e (sym p ∙ z)) q)
      go ih true q (inr j) = more (ih j)
      go ih false q j = more (ih j)

  pub without_in : (e : X) (xs : List X) (x : X) → In x xs → ¬ (x ≡ e) → In x (without ahead e xs)
  without_in e [] x i n = absurd i
  without_in e (y ∷ ys) x i n = go (λ j. without_in e ys x j n) (ahead y e || ahead e y) refl i
    where
      go : (In x ys → In x (without ahead e ys)) → (b : Bool) → ahead y e || ahead e y ≡ b → In x (y ∷ ys) → In x (cond b (y ∷ without ahead e ys) (without ahead e ys))
      go ih true q (inl p) = inl p
      go ih true q (inr j) = inr (ih j)
      go ih false q (inl p) = absurd (both_ways (ahead y e || ahead e y) q (apart y e (λ z. n (p ∙ z))))
      go ih false q (inr j) = ih j

  pub in-holds : (e : X) (xs : List X) → In e xs → holds ahead e xs ≡ true
  in-holds e [] i = absurd i
  in-holds e (y ∷ ys) (inl p) = rw (alike y e (sym p)) refl
  in-holds e (y ∷ ys) (inr i) = or_right (not (ahead y e || ahead e y)) (holds ahead e ys) (in-holds e ys i)

  pub not-held : (e : X) (xs : List X) → ¬ In e xs → holds ahead e xs ≡ false
  not-held e [] n = refl
  not-held e (y ∷ ys) n = rw (apart y e (λ p. n (inl (sym p)))) (not-held e ys (λ i. n (inr i)))

  -- what is not held is not missed
  pub without-absent : (e : X) (xs : List X) → ¬ In e xs → without ahead e xs ≡ xs
  without-absent e [] n = refl
  without-absent e (y ∷ ys) n = rw (apart y e (λ p. n (inl (sym p)))) (ap (λ zs. y ∷ zs) (without-absent e ys (λ i. n (inr i))))

  -- no two entries of an ordered list are the same
  pub head-once : (x : X) (xs : List X) → leads ahead x xs ≡ true → ¬ In x xs
  head-once x xs h i = both_ways (ahead x x) (t.irreflexive x) (led ahead x xs h x i)

  pub without_fewer : (e : X) (xs : List X) → In e xs → length (without ahead e xs) < length xs
  without_fewer e [] i = absurd i
  without_fewer e (y ∷ ys) (inl q) = let s = without-shorter ahead e ys in rw (alike y e (sym q)) (omega arith)
  without_fewer e (y ∷ ys) (inr i) =
      let ih = without_fewer e ys i in
      cond_both (ahead y e || ahead e y) _ _ (λ zs. length zs < length (y ∷ ys)) (λ _. omega arith) (λ _. omega arith)
