-- What stands in a heap, and what is first in it.
use Rattle.std.proofs.Common.{◌≡◌, ℕ, zero, suc, ◌+◌, ◌<◌, ◌≤◌, Bool, true, false, cond, not, ◌||◌, ◌⊎◌, inl, inr, ⊎_elim, nat_lt, List, [], ◌∷◌, length, get_or, is_some, Some, None, Option, sym, refl, ap, ◌∙◌, arith}
use Rattle.std.specs.List.{position, position_or_len}
use Rattle.std.proofs.lemmas.List.Quantifiers.{position-Some}
use Rattle.std.proofs.ByRecursion.{all_from_every}
use Rattle.std.proofs.lemmas.Bool.{both_ways, cases_Bool, cases_lt, lt-ltb}
use Rattle.line.specs.Order.{Order}
use Rattle.line.specs.Held.{holds, first_of}
use Rattle.heap_row.specs.Heap.{Heap, Found, parent, sorted}
use Rattle.heap_row.proofs.Rises.{not-trans}
use Rattle.heap_row.proofs.Sorts.{same-is, first-with, all-sorted, holds-sorted, holds_at}

-- a search that answers none has not found it
pub not_found : {X : Type 0} (ahead : X → X → Bool) (e : X) (xs : List X) (r : Option ℕ) → is_some r ≡ false → Found ahead e xs r → holds ahead e (sorted ahead xs) ≡ false
not_found ahead e xs None n found = found
not_found ahead e xs (Some i) n found = absurd (both_ways true n refl)

module _ {X : Type 0} {ahead : X → X → Bool} (o : Order ahead) where
  -- no entry is ahead of the one at the top
  top-by : (xs : List X) → Heap ahead xs → (f k : ℕ) (d : X) → k ≤ f → k < length xs → ahead (get_or xs k d) (get_or xs 0 d) ≡ false
  top-by xs h f zero d le l = o.irreflexive (get_or xs 0 d)
  top-by xs h zero (suc k) d le l = absurd (omega arith)
  top-by xs h (suc f) (suc k) d le l =
      not-trans o (get_or xs (suc k) d) (get_or xs (parent (suc k)) d) (get_or xs 0 d) (h (suc k) d (omega arith) l) (top-by xs h f (parent (suc k)) d (omega arith) (omega arith))

  pub first-top : (xs : List X) → Heap ahead xs → first_of xs ≡ first_of (sorted ahead xs)
  first-top [] h = refl
  first-top (x ∷ xs) h =
      first-with o x (sorted ahead xs) (all-sorted o (λ y. ahead y x ≡ false) xs (all_from_every (λ y. ahead y x ≡ false) xs (λ k d _ l. top-by (x ∷ xs) h (suc k) (suc k) d (omega arith) (omega arith))))

  pub holds-found : (e : X) (xs : List X) (i : ℕ) → i < length xs → ((d : X) → get_or xs i d ≡ e) → holds ahead e (sorted ahead xs) ≡ true
  holds-found e xs i l h = holds-sorted o e xs ∙ holds_at o e xs i l h

  -- e is the same as x
  abbrev is_e : X → X → Bool
  is_e e x = not (ahead x e || ahead e x)

  none_held : (e : X) (xs : List X) → length xs ≤ position_or_len (is_e e) xs → holds ahead e xs ≡ false
  none_held e [] le = refl
  none_held e (x ∷ xs) le = by (none_held e xs) (cases_Bool (is_e e x))
    where
      by : (length xs ≤ position_or_len (is_e e) xs → holds ahead e xs ≡ false) → (is_e e x ≡ true) ⊎ (is_e e x ≡ false) → holds ahead e (x ∷ xs) ≡ false
      by ih (inl p) = absurd (omega (arith, le, ap (λ b. cond (not b) (1 + position_or_len (is_e e) xs) 0) p))
      by ih (inr p) = rw p (ih (omega (arith, le, ap (λ b. cond (not b) (1 + position_or_len (is_e e) xs) 0) p)))

  none≢some : {A : Type 0} {a : A} → None ≡ Some a → ⊥
  none≢some h = cc

  past-all : (n m : ℕ) → None ≡ cond (nat_lt n m) (Some n) None → m ≤ n
  past-all n m h = ⊎_elim (λ lt. absurd (none≢some (h ∙ ap (λ b. cond b (Some n) None) (lt-ltb n m lt)))) (λ ge. ge) (cases_lt n m)

  -- what a search by the test finds
  pub found-by : (e : X) (xs : List X) (r : Option ℕ) → r ≡ position (is_e e) xs → Found ahead e xs r
  found-by e xs None h = holds-sorted o e xs ∙ none_held e xs (past-all _ _ h)
  found-by e xs (Some i) h =
      let at = λ (d : X). position-Some (is_e e) xs i d (sym h) in
      let is = λ (d : X). same-is o (get_or xs i d) e (at d).1 in
      record { within = (at e).0; held = holds-found e xs i (at e).0 is; is = is }
