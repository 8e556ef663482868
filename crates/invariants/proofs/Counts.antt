-- How many orders pass a test, when orders are put in others' places, changed or added. Assumes nothing.
use Rattle.std.proofs.Common.{◌≡◌, ℕ, ◌+◌, ◌≤◌, Bool, true, false, cond, List, [], ◌∷◌, ◌++◌, Some, None, Option, refl, inl, inr, arith}
use Rattle.std.proofs.lemmas.Bool.{eqb-true}
use Rattle.market.specs.declared.order.Order.{Order}
use Rattle.rules.specs.Base.{count, each}
use Rattle.rules.specs.Board.{numbered}
use Rattle.rules.specs.Fills.{replacing, replace}
use Rattle.rules.specs.Members.{In}

as_one : (a b : Bool) → a ≡ b → ◌≡◌ {A = ℕ} (cond a 1 0) (cond b 1 0)
as_one a b e = rw e

-- what takes the place of order n passes if that one does
pub count-replace : (p : Order → Bool) (n : ℕ) (r : Option Order) (os : List Order) →
    ((o z : Order) → In o os → o.number ≡ n → r ≡ Some z → p z ≡ p o) → count p (replace n r os) ≤ count p os
unfolding count replace
count-replace p n r [] f = omega arith
count-replace p n r (o ∷ os) f =
    go (numbered n o) refl r (λ z. f o z (inl refl)) (count-replace p n r os (λ x z i. f x z (inr i)))
  where
    go : (q : Bool) → numbered n o ≡ q → (r' : Option Order) → ((z : Order) → o.number ≡ n → r' ≡ Some z → p z ≡ p o) →
        count p (replace n r os) ≤ count p os → count p (replacing q r' o (replace n r os)) ≤ count p (o ∷ os)
    go false qe r' g ih = omega arith
    go true qe None g ih = omega arith
    go true qe (Some z) g ih =
        let e = as_one (p z) (p o) (g z (eqb-true o.number n qe) refl) in omega arith

pub count-each : (p : Order → Bool) (f : Order → Order) → ((o : Order) → p (f o) ≡ p o) → (os : List Order) → count p (each f os) ≡ count p os
unfolding count each
count-each p f e [] = refl
count-each p f e (o ∷ os) = let i = count-each p f e os in let c = as_one (p (f o)) (p o) (e o) in omega arith

pub count-push : (p : Order → Bool) (os : List Order) (o : Order) → count p (os ++ (o ∷ [])) ≡ count p os + cond (p o) 1 0
unfolding count
count-push p [] o = omega arith
count-push p (x ∷ os) o = let i = count-push p os o in omega arith
