-- The first, in some order, of those in a list that pass a test. Assumes nothing.
use Rattle.std.proofs.Common.{◌≡◌, Bool, true, false, cond, ◌⊎◌, List, [], ◌∷◌, Some, None, Option, sym, refl, ◌∙◌, subst, inl, inr}
use Rattle.std.proofs.lemmas.Bool.{both_ways, cases_Bool}
use Rattle.line.specs.Order.{Order}
use Rattle.rules.specs.Base.{first, contest}
use Rattle.rules.specs.Members.{In}
use Rattle.rules.proofs.Tests.{some_inj, none≢some}

-- those that pass are ranked: of two the test puts at most one ahead, and what is ahead of another is ahead of, or behind, any third
pub record Ranked {A : Type 0} (passes : A → Bool) (ahead : A → A → Bool) : Type 0 where
  pub asymmetric : (x y : A) → passes x ≡ true → passes y ≡ true → ahead x y ≡ true → ahead y x ≡ false
  pub split : (x y z : A) → passes x ≡ true → passes y ≡ true → passes z ≡ true → ahead x z ≡ true → (ahead x y ≡ true) ⊎ (ahead y z ≡ true)

-- in a total order
module _ {X : Type 0} {ahead : X → X → Bool} (order : Order ahead) where
  pub order-asymmetric : (x y : X) → ahead x y ≡ true → ahead y x ≡ false
  order-asymmetric x y h = go (cases_Bool (ahead y x))
    where
      go : (ahead y x ≡ true) ⊎ (ahead y x ≡ false) → ahead y x ≡ false
      go (inl k) = absurd (both_ways (ahead x x) (order.irreflexive x) (order.transitive x y x h k))
      go (inr k) = k

  pub order-split : (x y z : X) → ahead x z ≡ true → (ahead x y ≡ true) ⊎ (ahead y z ≡ true)
  order-split x y z h = go (cases_Bool (ahead x y)) (cases_Bool (ahead y x))
    where
      go : (ahead x y ≡ true) ⊎ (ahead x y ≡ false) → (ahead y x ≡ true) ⊎ (ahead y x ≡ false) → (ahead x y ≡ true) ⊎ (ahead y z ≡ true)
      go (inl k) m = inl k
      go (inr k) (inl m) = inr (order.transitive y x z m h)
      go (inr k) (inr m) = inr (subst (λ (w : X). ahead w z ≡ true) (order.total x y k m) h)

module _ {A : Type 0} (p : A → Bool) (ahead : A → A → Bool) where
  pub first-none : (xs : List A) → first p ahead xs ≡ None → (y : A) → In y xs → p y ≡ true → ⊥
  unfolding first
  first-none [] e y i h = i
  first-none (x ∷ xs) e y i h = go (first-none xs) (p x) refl (first p ahead xs) refl e i
    where
      go : (first p ahead xs ≡ None → (z : A) → In z xs → p z ≡ true → ⊥) → (q : Bool) → p x ≡ q → (r : Option A) →
          first p ahead xs ≡ r → contest q ahead x r ≡ None → In y (x ∷ xs) → ⊥
      go ih false pe r re c (inl f) = both_ways (p x) pe (subst (λ (z : A). p z ≡ true) f h)
      go ih false pe r re c (inr i) = ih (re ∙ c) y i h
      go ih true pe None re c i = none≢some (sym c)
      go ih true pe (Some z) re c i = none≢some (sym c)

  pub first-in : (xs : List A) (x : A) → first p ahead xs ≡ Some x → In x xs × (p x ≡ true)
  unfolding first
  first-in [] x e = absurd (none≢some e)
  first-in (w ∷ xs) x e = go (first-in xs) (p w) refl (first p ahead xs) refl e
    where
      Found : A → Type 0
      Found z = In z (w ∷ xs) × (p z ≡ true)

      pick : (q : Bool) (z : A) → p w ≡ true → In z xs × (p z ≡ true) → Found (cond q z w)
      pick true z h l = (inr l.0, l.1)
      pick false z h l = (inl refl, h)

      go : ((z : A) → first p ahead xs ≡ Some z → In z xs × (p z ≡ true)) → (q : Bool) → p w ≡ q → (r : Option A) → first p ahead xs ≡ r →
          contest q ahead w r ≡ Some x → Found x
      go ih false qe r re c = let l = ih x (re ∙ c) in (inr l.0, l.1)
      go ih true qe None re c = subst Found (some_inj c) (inl refl, qe)
      go ih true qe (Some z) re c = subst Found (some_inj c) (pick (ahead z w) z qe (ih z re))

  -- none that passes is ahead of the first
  pub first-leads : Ranked p ahead → (xs : List A) (x : A) → first p ahead xs ≡ Some x → (y : A) → In y xs → p y ≡ true → ahead y x ≡ false
  unfolding first
  first-leads ranked [] x e = absurd (none≢some e)
  first-leads ranked (w ∷ xs) x e = go (first-leads ranked xs) (first-none xs) (first-in xs) (p w) refl (first p ahead xs) refl e
    where
      -- none in the list is ahead of z
      Leads : List A → A → Type 0
      Leads ys z = (y : A) → In y ys → p y ≡ true → ahead y z ≡ false

      itself : (z : A) → p z ≡ true → ahead z z ≡ false
      itself z h = alone (cases_Bool (ahead z z))
        where
          alone : (ahead z z ≡ true) ⊎ (ahead z z ≡ false) → ahead z z ≡ false
          alone (inl k) = ranked.asymmetric z z h h k
          alone (inr k) = k

      choose : (q : Bool) (z : A) → ahead z w ≡ q → p w ≡ true → p z ≡ true → Leads xs z → Leads (w ∷ xs) (cond q z w)
      choose true z qe pw pz l y (inl f) h = subst (λ (v : A). ahead v z ≡ false) (sym f) (ranked.asymmetric z w pz pw qe)
      choose true z qe pw pz l y (inr i) h = l y i h
      choose false z qe pw pz l y (inl f) h = subst (λ (v : A). ahead v w ≡ false) (sym f) (itself w pw)
      choose false z qe pw pz l y (inr i) h = beats (cases_Bool (ahead y w))
        where
          split : (ahead y z ≡ true) ⊎ (ahead z w ≡ true) → ⊥
          split (inl k) = both_ways (ahead y z) (l y i h) k
          split (inr k) = both_ways (ahead z w) qe k

          beats : (ahead y w ≡ true) ⊎ (ahead y w ≡ false) → ahead y w ≡ false
          beats (inl k) = absurd (split (ranked.split y z w h pz pw k))
          beats (inr k) = k

      go : ((z : A) → first p ahead xs ≡ Some z → Leads xs z) → (first p ahead xs ≡ None → (z : A) → In z xs → p z ≡ true → ⊥) →
          ((z : A) → first p ahead xs ≡ Some z → In z xs × (p z ≡ true)) → (q : Bool) → p w ≡ q → (r : Option A) →
          first p ahead xs ≡ r → contest q ahead w r ≡ Some x → Leads (w ∷ xs) x
      go ih none there false pe r re c y (inl f) h = absurd (both_ways (p w) pe (subst (λ (z : A). p z ≡ true) f h))
      go ih none there false pe r re c y (inr i) h = ih x (re ∙ c) y i h
      go ih none there true pe None re c y i h = subst (λ (z : A). ahead y z ≡ false) (some_inj c) (only i)
        where
          only : In y (w ∷ xs) → ahead y w ≡ false
          only (inl f) = subst (λ (v : A). ahead v w ≡ false) (sym f) (itself w pe)
          only (inr j) = absurd (none re y j h)
      go ih none there true pe (Some z) re c y i h =
          subst (Leads (w ∷ xs)) (some_inj c) (choose (ahead z w) z refl pe (there z re).1 (ih z re)) y i h
