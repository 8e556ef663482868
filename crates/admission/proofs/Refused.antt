-- A call meets its tests in their order, and the first that it fails is answered. Assumes nothing.
use Rattle.std.proofs.Common.{◌≡◌, ℕ, zero, suc, Bool, true, false, List, [], ◌∷◌, ℤ, IsErrAnd, Some, None, Ok, Err, Option, Result, sym, refl, ap, ◌∙◌, w32, SFits, to_z, of_z}
use Rattle.std.specs.Option.{ok_or}
use Rattle.std.proofs.lemmas.Int.{to_z-of_z}
use Rattle.market.specs.declared.order.Order.{Order}
use Rattle.market.specs.declared.refusal.Refusal.{Refusal}
use Rattle.rules.specs.Base.{some_if, verdict, Fails}
use Rattle.admission.specs.Checks.{refused_if, Answers, Finds}

module _ {F : Type 0} where
  -- what a test that was passed says, and one that was not
  pub passed : (t : Bool) (f : F) {u : Unit {0}} → Ok u ≡ refused_if t f → t ≡ false
  passed true f e = cc
  passed false f e = refl

  pub failed : (t : Bool) (f : F) {g : F} → Err g ≡ refused_if t f → (t ≡ true) × (g ≡ f)
  failed true f e = (refl, cc)
  failed false f e = (cc, cc)

  -- of a price, which is passed by its bits
  pub passed-at : (t : ℤ → Bool) (z : ℤ) (f : F) {u : Unit {0}} → SFits w32 z → Ok u ≡ refused_if (t (to_z w32 (of_z w32 z))) f → t z ≡ false
  passed-at t z f h e = ap t (sym (to_z-of_z w32 z h)) ∙ passed (t (to_z w32 (of_z w32 z))) f e

  pub failed-at : (t : ℤ → Bool) (z : ℤ) (f : F) {g : F} → SFits w32 z → Err g ≡ refused_if (t (to_z w32 (of_z w32 z))) f → (t z ≡ true) × (g ≡ f)
  failed-at t z f h e =
      let r = failed (t (to_z w32 (of_z w32 z))) f e in (ap t (sym (to_z-of_z w32 z h)) ∙ r.0, r.1)

module _ {A : Type 0} where
  -- the first n tests fail, and the next passes with this refusal
  abbrev pub Upto : ℕ → List (Bool × A) → A → Type 0
  Upto n [] r = ⊥
  Upto zero (c ∷ cs) r = (c.0 ≡ true) × (r ≡ c.1)
  Upto (suc n) (c ∷ cs) r = (c.0 ≡ false) × Upto n cs r

  pub upto : (n : ℕ) (cs : List (Bool × A)) (r : A) → Upto n cs r → verdict cs ≡ Some r
  upto n [] r h = absurd h
  upto zero (c ∷ cs) r h = ap (λ b. some_if b c.1 (verdict cs)) h.0 ∙ ap (λ (x : A). Some x) (sym h.1)
  upto (suc n) (c ∷ cs) r h = ap (λ b. some_if b c.1 (verdict cs)) h.0 ∙ upto n cs r h.1

  pub none_left : (cs : List (Bool × A)) → Fails cs → verdict cs ≡ None
  none_left [] h = refl
  none_left (c ∷ cs) h = ap (λ b. some_if b c.1 (verdict cs)) h.0 ∙ none_left cs h.1

-- what was looked for was found, or not
module _ {A F : Type 0} where
  pub found : (o : Option A) (f : F) {x : A} → Ok x ≡ ok_or o f → o ≡ Some x
  found None f e = cc
  found (Some y) f e = cc

  pub missing : (o : Option A) (f : F) {g : F} → Err g ≡ ok_or o f → (o ≡ None) × (g ≡ f)
  missing None f e = (refl, cc)
  missing (Some y) f e = (cc, cc)

-- the answer of a `?` that returns
pub answers : {refusal : Option Refusal} {e : Refusal} (r : Result (Unit {0}) Refusal) → IsErrAnd r (λ y. y ≡ e) → refusal ≡ Some e → Answers refusal r
answers (Ok u) h q = absurd h
answers (Err y) h q = q ∙ ap (λ (x : Refusal). Some x) (sym h)

pub finds : {refusal : Option Refusal} (order : Option Order) {e : Refusal} (r : Result Order Refusal) → IsErrAnd r (λ y. y ≡ e) →
    refusal ≡ Some e → Finds refusal order r
finds order (Ok o) h q = absurd h
finds order (Err y) h q = q ∙ ap (λ (x : Refusal). Some x) (sym h)
