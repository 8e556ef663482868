-- The first answer that a walk finds, from what a run of its iterator gave. Assumes nothing.
use Rattle.std.proofs.Common.{◌≡◌, ℕ, zero, suc, ◌+◌, ◌<◌, List, [], ◌∷◌, length, slice_index_or, Some, None, Option, sym, refl, ap, ◌∙◌, subst, arith}
use Rattle.std.specs.Prelude.{IsTrue, IsSomeAnd, IfSome, MatchOption, ⊤}
use Rattle.std.specs.Iterator.{YieldsFirst}
use Rattle.std.specs.Iterator.Runs.{Run, AllItemsGive, IsFirstToGive, CallKeepsClosure, ItemsAre}
use Rattle.std.specs.Option.{option_map}
use Rattle.std.proofs.iter.Rest.{run_of_first}
use denote.Param.Members.{Mut, Called}
use Rattle.market.specs.declared.order.Order.{Order}
use Rattle.rules.specs.Base.{or_next}
use Rattle.rules.proofs.Tests.{some_inj, none≢some}
use Rattle.queues.specs.Walks.{walk}

module _ {A : Type 0} (h : A → Option Order) where
  none-found : (xs : List A) → ((k : ℕ) (d : A) → k < length xs → h (slice_index_or xs k d) ≡ None) → walk h xs ≡ None
  none-found [] n = refl
  none-found (x ∷ xs) n =
      ap (λ (r : Option Order). or_next r (walk h xs)) (n 0 x (omega arith)) ∙ none-found xs (λ k d l. n (suc k) d (omega (arith, l)))

  one-found : (xs : List A) (i : ℕ) (y : Order) → i < length xs → ((d : A) → h (slice_index_or xs i d) ≡ Some y) → ((k : ℕ) (d : A) → k < i → h (slice_index_or xs k d) ≡ None) → walk h xs ≡ Some y
  one-found [] i y l v n = absurd (omega (arith, l))
  one-found (x ∷ xs) zero y l v n = ap (λ (r : Option Order). or_next r (walk h xs)) (v x)
  one-found (x ∷ xs) (suc i) y l v n =
      ap (λ (r : Option Order). or_next r (walk h xs)) (n 0 x (omega arith)) ∙
      one-found xs i y (omega (arith, l)) v (λ k d m. n (suc k) d (omega (arith, m)))

-- what holds of the item at a place
some-at : {A : Type 0} (P : A → Type 0) (o : Option A) (v : A) → option_map (λ y. y) o ≡ Some v → IsSomeAnd o P → P v
some-at P None v e p = absurd p
some-at P (Some x) v e p = subst P (some_inj e) p

if-at : {A : Type 0} (P : A → Type 0) (o : Option A) (v : A) → option_map (λ y. y) o ≡ Some v → IfSome o P → P v
if-at P None v e p = absurd (none≢some e)
if-at P (Some x) v e p = subst P (some_inj e) p

module _ {S A F : Type 0} (rest : S → List A) (g : Mut F (A × ⊤) (Option Order)) (f : F) (h : A → Option Order) (keeps : CallKeepsClosure g f)
    (says : (x : A) (r : Option Order) → Called g f (x, tt) r f → r ≡ h x) (p : Run (YieldsFirst rest)) where
  are : ItemsAre p (rest p.from)
  are = (run_of_first rest p).1

  pub first_found : (r : Option Order) → MatchOption r (IsTrue p.whole × AllItemsGive p g f None) (λ y. (i : ℕ) × (i < p.len) × (p.len ≡ i + 1) × IsFirstToGive p g f (Some y) None i) → r ≡ walk h (rest p.from)
  first_found None (w, all) =
      let xs = rest p.from in
      let same = are.1 w in
      sym (none-found h xs (λ k d l. let x = slice_index_or xs k d in sym (says x None (if-at (λ z. Called g f (z, tt) None f) (p.at k) x (are.2 k d (omega (arith, l, same))) (all keeps k)))))
  first_found (Some y) (i, l, n, hit) =
      let xs = rest p.from in
      let m = are.0 in
      let both = hit keeps in
      sym (one-found h xs i y (omega (arith, l, m))
      (λ d. let x = slice_index_or xs i d in sym (says x (Some y) (some-at (λ z. Called g f (z, tt) (Some y) f) (p.at i) x (are.2 i d l) both.0)))
      (λ k d q. let x = slice_index_or xs k d in sym (says x None (some-at (λ z. Called g f (z, tt) None f) (p.at k) x (are.2 k d (omega (arith, q, l))) (both.1 k q)))))
