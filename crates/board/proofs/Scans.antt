-- What the methods of iterators answer, in the words of the rules. Assumes nothing.
use Rattle.std.proofs.Common.{◌≡◌, ℕ, zero, suc, ◌<◌, Bool, true, false, cond, ◌||◌, List, [], ◌∷◌, length, get_or, Some, None, Option, Bor, Iter, fold, filter, reverse, sym, refl, ap, ◌∙◌, arith}
use Rattle.std.proofs.lemmas.Grind.{reverse_onto}
use Rattle.std.proofs.lemmas.Iterator.{YieldsList-from_slice, first_from_find, cases_from_any}
use Rattle.std.proofs.lemmas.List.Elements.{filter-append}
use Rattle.std.proofs.lemmas.List.Sums.{fold-append}
use Rattle.std.proofs.iter.Yields.{fronts}
use Rattle.std.specs.Fn.{Called, CalledAt}
use Rattle.std.specs.Iterator.{FindsItem, ChecksAny}
use Rattle.std.specs.List.{AllWithin, HoldsAt}
use Rattle.std.specs.Bool.{MatchBool}
use Rattle.std.specs.Option.{option_map, MatchOption}
use Rattle.std.specs.Slice.Iter.{iter_rest}
use denote.Param.Members.{Mut}
use Rattle.rules.specs.Base.{some_if, contest, any, find, first}

or_true : (b : Bool) → (b || true) ≡ true
or_true true = refl
or_true false = refl

module _ {A : Type 0} (p : A → Bool) where
  misses : (xs : List A) → ((k : ℕ) (d : A) → k < length xs → p (get_or xs k d) ≡ false) → find p xs ≡ None
  unfolding find
  misses [] n = refl
  misses (x ∷ xs) n =
      ap (λ b. some_if b x (find p xs)) (n 0 x (omega arith)) ∙ misses xs (λ k d l. n (suc k) d (omega (arith, l)))

  hits : (xs : List A) (i : ℕ) (y : A) → i < length xs → ((d : A) → get_or xs i d ≡ y) → p y ≡ true →
      ((k : ℕ) (d : A) → k < i → p (get_or xs k d) ≡ false) → find p xs ≡ Some y
  unfolding find
  hits [] i y l e t n = absurd (omega (arith, l))
  hits (x ∷ xs) zero y l e t n = ap (λ b. some_if b x (find p xs)) (ap p (e x) ∙ t) ∙ ap (λ z. Some z) (e x)
  hits (x ∷ xs) (suc i) y l e t n =
      ap (λ b. some_if b x (find p xs)) (n 0 x (omega arith)) ∙
      hits xs i y (omega (arith, l)) e t (λ k d m. n (suc k) d (omega (arith, m)))

  decided : (xs : List A) (r : Option (Bor A)) →
      MatchOption r (AllWithin (λ y. p y ≡ false) xs 0 (length xs))
      (λ x. (p x.now ≡ true) × (i : ℕ) × (i < length xs) × HoldsAt (λ y. y ≡ x.now) xs i × AllWithin (λ y. p y ≡ false) xs 0 i) →
      option_map (λ x. x.now) r ≡ find p xs
  decided xs None n = sym (misses xs (λ k d l. n k d (omega arith) l))
  decided xs (Some x) h = sym (hits xs h.1 x.now h.2 h.3 h.0 (λ k d l. h.4 k d (omega arith) l))

  -- what `iter().find(..)` answers is the first that passes
  pub finds : {F : Type 0} {g : Mut F (Bor (Bor A) × Unit {0}) Bool} {s : Iter A} {f : F} (r : Option (Bor A)) (u : Iter A) (xs : List A) →
      iter_rest s ≡ xs → FindsItem fronts g s f r u →
      ((x : Bor A) (q : F) → CalledAt g f x true q → p x.now ≡ true) →
      ((x : Bor A) (q : F) → CalledAt g f x false q → (q ≡ f) × (p x.now ≡ false)) →
      option_map (λ x. x.now) r ≡ find p xs
  finds r u xs e ran hit miss =
      decided xs r (first_from_find u _ r (λ y. p y ≡ true) (λ y. p y ≡ false) ran (YieldsList-from_slice xs e) hit miss)

  none_passes : (xs : List A) → ((k : ℕ) (d : A) → k < length xs → p (get_or xs k d) ≡ false) → any p xs ≡ false
  unfolding any
  none_passes [] n = refl
  none_passes (x ∷ xs) n =
      ap (λ b. b || any p xs) (n 0 x (omega arith)) ∙ none_passes xs (λ k d l. n (suc k) d (omega (arith, l)))

  one_passes : (xs : List A) (i : ℕ) → i < length xs → ((d : A) → p (get_or xs i d) ≡ true) → any p xs ≡ true
  unfolding any
  one_passes [] i l t = absurd (omega (arith, l))
  one_passes (x ∷ xs) zero l t = ap (λ b. b || any p xs) (t x)
  one_passes (x ∷ xs) (suc i) l t =
      ap (λ b. p x || b) (one_passes xs i (omega (arith, l)) t) ∙ or_true (p x)

  told : (xs : List A) (r : Bool) →
      MatchBool r ((k : ℕ) × (k < length xs) × HoldsAt (λ y. p y ≡ true) xs k) (AllWithin (λ y. p y ≡ false) xs 0 (length xs)) →
      r ≡ any p xs
  told xs true h = sym (one_passes xs h.0 h.1 h.2)
  told xs false n = sym (none_passes xs (λ k d l. n k d (omega arith) l))

  -- what `iter().any(..)` answers is whether one passes
  pub passes : {F : Type 0} {g : Mut F (Bor A × Unit {0}) Bool} {s : Iter A} {f : F} (r : Bool) (u : Iter A) (xs : List A) →
      iter_rest s ≡ xs → ChecksAny fronts g s f r u →
      ((x : Bor A) (q : F) → Called g f (x, tt) true q → p x.now ≡ true) →
      ((x : Bor A) (q : F) → Called g f (x, tt) false q → (q ≡ f) × (p x.now ≡ false)) →
      r ≡ any p xs
  passes r u xs e ran hit miss =
      told xs r (cases_from_any u _ r (λ y. p y ≡ true) (λ y. p y ≡ false) ran (YieldsList-from_slice xs e) hit miss)

  module _ (ahead : A → A → Bool) where
    abbrev met : Option A → A → Option A
    met r x = contest true ahead x r

    one_more : (b : Bool) (x : A) (r : Option A) → fold met r (cond b (x ∷ []) []) ≡ contest b ahead x r
    one_more true x r = refl
    one_more false x r = refl

    -- of those that pass, the one that is ahead: from the back
    pub firsts : (xs : List A) → fold met None (filter p (reverse xs)) ≡ first p ahead xs
    unfolding first
    firsts [] = refl
    firsts (x ∷ xs) =
        ap (λ ys. fold met None (filter p ys)) (reverse_onto xs x []) ∙
        ap (fold met None) (filter-append p (reverse xs) (x ∷ [])) ∙
        fold-append met None (filter p (reverse xs)) (filter p (x ∷ [])) ∙
        ap (λ r. fold met r (filter p (x ∷ []))) (firsts xs) ∙
        one_more (p x) x (first p ahead xs)
