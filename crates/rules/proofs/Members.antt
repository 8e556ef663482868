-- What stands in lists that the rules search, map and add to. Assumes nothing.
use Rattle.std.proofs.Common.{◌≡◌, suc, Bool, true, false, ◌⊎◌, List, [], ◌∷◌, ◌++◌, length, Some, None, Option, sym, refl, ap, subst, inl, inr}
use Rattle.std.proofs.lemmas.Bool.{false≢true, both_ways, or_cases, or_left, or_right}
use Rattle.rules.specs.Base.{any, find, some_if, each}
use Rattle.rules.specs.Members.{In}
use Rattle.rules.proofs.Tests.{some_inj, none≢some}

module _ {A : Type 0} where
  -- ---- whether one passes

  pub any-in : (p : A → Bool) (xs : List A) → any p xs ≡ true → (x : A) × In x xs × (p x ≡ true)
  unfolding any
  any-in p [] h = absurd (false≢true h)
  any-in p (x ∷ xs) h = go (any-in p xs) (or_cases (p x) (any p xs) h)
    where
      go : (any p xs ≡ true → (y : A) × In y xs × (p y ≡ true)) → (p x ≡ true) ⊎ (any p xs ≡ true) → (y : A) × In y (x ∷ xs) × (p y ≡ true)
      go ih (inl k) = (x, inl refl, k)
      go ih (inr k) = let r = ih k in (r.0, inr r.1, r.2)

  pub in-any : (p : A → Bool) (xs : List A) (x : A) → In x xs → p x ≡ true → any p xs ≡ true
  unfolding any
  in-any p [] x i h = absurd i
  in-any p (y ∷ ys) x (inl e) h = or_left (p y) (any p ys) (subst (λ (z : A). p z ≡ true) e h)
  in-any p (y ∷ ys) x (inr i) h = or_right (p y) (any p ys) (in-any p ys x i h)

  pub not-any : (p : A → Bool) (xs : List A) → any p xs ≡ false → (x : A) → In x xs → p x ≡ true → ⊥
  not-any p xs e x i h = both_ways (any p xs) e (in-any p xs x i h)

  -- ---- the first in the list that passes

  pub find-in : (p : A → Bool) (xs : List A) (x : A) → find p xs ≡ Some x → In x xs × (p x ≡ true)
  unfolding find
  find-in p [] x e = absurd (none≢some e)
  find-in p (y ∷ ys) x e = go (find-in p ys x) (p y) refl e
    where
      go : (find p ys ≡ Some x → In x ys × (p x ≡ true)) → (q : Bool) → p y ≡ q → some_if q y (find p ys) ≡ Some x → In x (y ∷ ys) × (p x ≡ true)
      go ih true q f = let g = some_inj f in (inl (sym g), subst (λ (z : A). p z ≡ true) g q)
      go ih false q f = let r = ih f in (inr r.0, r.1)

  pub find_none : (p : A → Bool) (xs : List A) → find p xs ≡ None → (x : A) → In x xs → p x ≡ true → ⊥
  unfolding find
  find_none p [] e x i h = i
  find_none p (y ∷ ys) e x i h = go (find_none p ys) (p y) refl e i
    where
      go : (find p ys ≡ None → (z : A) → In z ys → p z ≡ true → ⊥) → (q : Bool) → p y ≡ q → some_if q y (find p ys) ≡ None → In x (y ∷ ys) → ⊥
      go ih true q f i = none≢some (sym f)
      go ih false q f (inl g) = both_ways (p y) q (subst (λ (z : A). p z ≡ true) g h)
      go ih false q f (inr i) = ih f x i h

  pub in-found : (p : A → Bool) (xs : List A) (x : A) → In x xs → p x ≡ true → (y : A) × (find p xs ≡ Some y)
  in-found p xs x i h = go (find p xs) refl
    where
      go : (r : Option A) → find p xs ≡ r → (y : A) × (find p xs ≡ Some y)
      go None e = absurd (find_none p xs e x i h)
      go (Some y) e = (y, e)

  -- ---- each changed, and one more

  pub in-each : {B : Type 0} (f : A → B) (xs : List A) (y : B) → In y (each f xs) → (x : A) × In x xs × (y ≡ f x)
  unfolding each
  in-each f [] y i = absurd i
  in-each f (x ∷ xs) y (inl e) = (x, inl refl, e)
  in-each f (x ∷ xs) y (inr i) = let r = in-each f xs y i in (r.0, inr r.1, r.2)

  pub each_in : {B : Type 0} (f : A → B) (xs : List A) (x : A) → In x xs → In (f x) (each f xs)
  unfolding each
  each_in f [] x i = absurd i
  each_in f (y ∷ ys) x (inl e) = inl (ap f e)
  each_in f (y ∷ ys) x (inr i) = inr (each_in f ys x i)

  pub length-each : {B : Type 0} (f : A → B) (xs : List A) → length (each f xs) ≡ length xs
  unfolding each
  length-each f [] = refl
  length-each f (x ∷ xs) = ap suc (length-each f xs)

  pub in-push : (xs : List A) (y x : A) → In x (xs ++ (y ∷ [])) → In x xs ⊎ (x ≡ y)
  in-push [] y x (inl e) = inr e
  in-push [] y x (inr i) = absurd i
  in-push (z ∷ xs) y x (inl e) = inl (inl e)
  in-push (z ∷ xs) y x (inr i) = go (in-push xs y x i)
    where
      go : In x xs ⊎ (x ≡ y) → In x (z ∷ xs) ⊎ (x ≡ y)
      go (inl j) = inl (inr j)
      go (inr e) = inr e

  pub push-in : (xs : List A) (y x : A) → In x xs ⊎ (x ≡ y) → In x (xs ++ (y ∷ []))
  push-in [] y x (inl i) = absurd i
  push-in [] y x (inr e) = inl e
  push-in (z ∷ xs) y x (inl (inl e)) = inl e
  push-in (z ∷ xs) y x (inl (inr i)) = inr (push-in xs y x (inl i))
  push-in (z ∷ xs) y x (inr e) = inr (push-in xs y x (inr e))
