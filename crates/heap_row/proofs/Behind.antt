-- The first of those behind an entry, in whatever order they lie.
use Rattle.std.proofs.Common.{◌≡◌, Bool, true, false, cond, ◌⊎◌, List, [], ◌∷◌, Some, None, Option, sym, refl, ap, ◌∙◌, inl, inr}
use Rattle.std.proofs.lemmas.Bool.{cases_Bool, both_ways}
use Rattle.std.specs.List.{reduce, filter, fold}
use Rattle.line.specs.Order.{Order}
use Rattle.line.specs.Held.{with_entry, behind}
use Rattle.heap_row.proofs.Sorts.{with-comm}
use Rattle.heap_row.specs.Heap.{sorted, earlier}

module _ {X : Type 0} (ahead : X → X → Bool) where
  -- x or what was found before, whichever is ahead
  abbrev closer : X → Option X → Option X
  closer x None = Some x
  closer x (Some y) = Some (earlier ahead y x)

  -- the first behind e of x and of what was found before
  abbrev nearer : X → X → Option X → Option X
  nearer e x found = cond (ahead e x) (closer x found) found

  module _ (e : X) where
    from_found : (y : X) (xs : List X) → Some (fold (earlier ahead) y (filter (ahead e) xs)) ≡ fold (λ found x. nearer e x found) (Some y) xs
    from_found y [] = refl
    from_found y (x ∷ xs) = by (from_found (earlier ahead y x) xs) (from_found y xs) (cases_Bool (ahead e x))
      where
        by : Some (fold (earlier ahead) (earlier ahead y x) (filter (ahead e) xs)) ≡ fold (λ found x. nearer e x found) (Some (earlier ahead y x)) xs →
            Some (fold (earlier ahead) y (filter (ahead e) xs)) ≡ fold (λ found x. nearer e x found) (Some y) xs → (ahead e x ≡ true) ⊎ (ahead e x ≡ false) →
            Some (fold (earlier ahead) y (filter (ahead e) (x ∷ xs))) ≡ fold (λ found x. nearer e x found) (Some y) (x ∷ xs)
        by ih jh (inl p) = rw p ih
        by ih jh (inr p) = rw p jh

    from-none : (xs : List X) → reduce (earlier ahead) (filter (ahead e) xs) ≡ fold (λ found x. nearer e x found) None xs
    from-none [] = refl
    from-none (x ∷ xs) = by (from-none xs) (cases_Bool (ahead e x))
      where
        by : reduce (earlier ahead) (filter (ahead e) xs) ≡ fold (λ found x. nearer e x found) None xs → (ahead e x ≡ true) ⊎ (ahead e x ≡ false) →
            reduce (earlier ahead) (filter (ahead e) (x ∷ xs)) ≡ fold (λ found x. nearer e x found) None (x ∷ xs)
        by ih (inl p) = rw p (from_found x xs)
        by ih (inr p) = rw p ih

  -- the entries put into a list in order, the first of them last
  abbrev with_all : List X → List X → List X
  with_all [] s = s
  with_all (x ∷ xs) s = with_entry ahead x (with_all xs s)

  all-sorted : (xs : List X) → with_all xs [] ≡ sorted ahead xs
  all-sorted [] = refl
  all-sorted (x ∷ xs) = ap (with_entry ahead x) (all-sorted xs)

module _ {X : Type 0} {ahead : X → X → Bool} (o : Order ahead) where
  with-first : (x : X) (xs s : List X) → with_all ahead xs (with_entry ahead x s) ≡ with_entry ahead x (with_all ahead xs s)
  with-first x [] s = refl
  with-first x (y ∷ xs) s = ap (with_entry ahead y) (with-first x xs s) ∙ with-comm o y x (with_all ahead xs s)

  behind-with : (e x : X) (s : List X) → behind ahead e (with_entry ahead x s) ≡ nearer ahead e x (behind ahead e s)
  behind-with e x [] = refl
  behind-with e x (y ∷ s) = by (behind-with e x s) (cases_Bool (ahead x y)) (cases_Bool (ahead e x)) (cases_Bool (ahead e y))
    where
      by : behind ahead e (with_entry ahead x s) ≡ nearer ahead e x (behind ahead e s) → (ahead x y ≡ true) ⊎ (ahead x y ≡ false) → (ahead e x ≡ true) ⊎ (ahead e x ≡ false) → (ahead e y ≡ true) ⊎ (ahead e y ≡ false) → behind ahead e (with_entry ahead x (y ∷ s)) ≡ nearer ahead e x (behind ahead e (y ∷ s))
      by ih (inl p) (inl q) (inl r) = simp (p, q, r)
      by ih (inl p) (inl q) (inr r) = absurd (both_ways (ahead e y) r (o.transitive e x y q p))
      by ih (inl p) (inr q) r = simp (p, q)
      by ih (inr p) (inl q) (inl r) = simp (p, q, r)
      by ih (inr p) (inr q) (inl r) = simp (p, q, r)
      by ih (inr p) q (inr r) = simp (p, r) ih

  along : (e : X) (xs s : List X) → fold (λ found x. nearer ahead e x found) (behind ahead e s) xs ≡ behind ahead e (with_all ahead xs s)
  along e [] s = refl
  along e (x ∷ xs) s =
      ap (λ found. fold (λ found x. nearer ahead e x found) found xs) (sym (behind-with e x s)) ∙ along e xs (with_entry ahead x s) ∙ ap (behind ahead e) (with-first x xs s)

  pub reduced : (e : X) (xs : List X) → reduce (earlier ahead) (filter (ahead e) xs) ≡ behind ahead e (sorted ahead xs)
  reduced e xs = from-none ahead e xs ∙ along e xs [] ∙ ap (behind ahead e) (all-sorted ahead xs)
