-- The row of live orders: ascending numbers, and what stays when an order is put in another's place. Assumes nothing.
use Rattle.std.proofs.Common.{◌≡◌, ℕ, suc, ◌+◌, ◌<◌, ◌≤◌, Bool, true, false, eqb, ◌⊎◌, List, [], ◌∷◌, ◌++◌, length, Some, None, Option, sym, refl, ap, ◌∙◌, subst, inl, inr, arith}
use Rattle.std.proofs.lemmas.Bool.{both_ways, eqb-true, eq-eqb, ne_eqb, cond-true, cond-false}
use Rattle.market.specs.declared.order.Order.{Order}
use Rattle.rules.specs.Base.{each, write}
use Rattle.rules.specs.Board.{numbered, ordered}
use Rattle.rules.specs.Fills.{replacing, replace}
use Rattle.rules.specs.Members.{In}
use Rattle.rules.specs.Rising.{Ascends, Keeps}
use Rattle.rules.proofs.Members.{find-in, in-found}

-- ---- ascending numbers

pub ascends-from : (j k m : ℕ) (os : List Order) → j ≤ k → Ascends k m os → Ascends j m os
ascends-from j k m [] h a = omega arith
ascends-from j k m (o ∷ os) h a = (omega arith, a.1)

same_number : {o p : Order} → o ≡ p → o.number ≡ p.number
same_number e = ap (λ (x : Order). x.number) e

pub ascends-in : (k m : ℕ) (os : List Order) (p : Order) → Ascends k m os → In p os → (k ≤ p.number) × (p.number < m)
ascends-in k m [] p a i = absurd i
ascends-in k m (o ∷ os) p a (inl e) = let f = same_number e in (omega (arith, a.0), below os a.1)
  where
    below : (os : List Order) → Ascends (suc o.number) m os → p.number < m
    below [] a = let f = same_number e in omega arith
    below (q ∷ qs) a = below qs (ascends-from (suc o.number) (suc q.number) m qs (omega (arith, a.0)) a.1)
ascends-in k m (o ∷ os) p a (inr i) = let r = ascends-in (suc o.number) m os p a.1 i in (omega (arith, a.0, r.0), r.1)

-- a number names one order
pub ascends-unique : (k m : ℕ) (os : List Order) (p q : Order) → Ascends k m os → In p os → In q os → p.number ≡ q.number → p ≡ q
ascends-unique k m [] p q a i j e = absurd i
ascends-unique k m (o ∷ os) p q a (inl f) (inl g) e = f ∙ sym g
ascends-unique k m (o ∷ os) p q a (inl f) (inr j) e =
    let r = ascends-in (suc o.number) m os q a.1 j in let x = same_number f in absurd (omega (arith, r.0))
ascends-unique k m (o ∷ os) p q a (inr i) (inl g) e =
    let r = ascends-in (suc o.number) m os p a.1 i in let x = same_number g in absurd (omega (arith, r.0))
ascends-unique k m (o ∷ os) p q a (inr i) (inr j) e = ascends-unique (suc o.number) m os p q a.1 i j e

pub ordered-in : (n : ℕ) (os : List Order) (o : Order) → ordered n os ≡ Some o → In o os × (o.number ≡ n)
unfolding ordered
ordered-in n os o e = let r = find-in (numbered n) os o e in (r.0, eqb-true o.number n r.1)

-- the live order with a number is found by it
pub in-ordered : (k m : ℕ) (os : List Order) (o : Order) → Ascends k m os → In o os → ordered o.number os ≡ Some o
unfolding ordered
in-ordered k m os o a i =
    let r = in-found (numbered o.number) os o i (eq-eqb o.number o.number refl) in
    let q = ordered-in o.number os r.0 r.1 in
    r.1 ∙ ap (λ (x : Order). Some x) (ascends-unique k m os r.0 o a q.0 i q.1)

pub ascends-each : (f : Order → Order) → ((o : Order) → (f o).number ≡ o.number) → (k m : ℕ) (os : List Order) → Ascends k m os → Ascends k m (each f os)
unfolding each
ascends-each f e k m [] a = a
ascends-each f e k m (o ∷ os) a =
    let q = e o in
    (omega (arith, a.0), subst (λ (x : ℕ). Ascends (suc x) m (each f os)) (sym q) (ascends-each f e (suc o.number) m os a.1))

pub ascends-push : (k m : ℕ) (os : List Order) (o : Order) → o.number ≡ m → Ascends k m os → Ascends k (m + 1) (os ++ (o ∷ []))
ascends-push k m [] o e a = (omega arith, omega arith)
ascends-push k m (q ∷ os) o e a = (a.0, ascends-push (suc q.number) m os o e a.1)

-- ---- writing a function anew at a place

module _ {A : Type 0} where
  pub write-here : (n : ℕ) (v : A) (h : ℕ → A) (m : ℕ) → m ≡ n → write n v h m ≡ v
  unfolding write
  write-here n v h m e = cond-true (eqb m n) v (h m) (eq-eqb m n e)

  pub write-there : (n : ℕ) (v : A) (h : ℕ → A) (m : ℕ) → ¬ (m ≡ n) → write n v h m ≡ h m
  unfolding write
  write-there n v h m f = cond-false (eqb m n) v (h m) (ne_eqb m n f)

-- ---- an order in another's place

unlike : {n : ℕ} {o p : Order} → numbered n o ≡ false → p ≡ o → p.number ≡ n → ⊥
unlike {n} {o} {p} q e f = both_ways (numbered n o) q (eq-eqb o.number n (sym (same_number e) ∙ f))

pub in-replace : (n : ℕ) (r : Option Order) (os : List Order) (p : Order) → In p (replace n r os) → (r ≡ Some p) ⊎ (In p os × ¬ (p.number ≡ n))
unfolding replace
in-replace n r [] p i = absurd i
in-replace n r (o ∷ os) p i = go (numbered n o) refl r (in-replace n r os p) i
  where
    further : (r : Option Order) → (r ≡ Some p) ⊎ (In p os × ¬ (p.number ≡ n)) → (r ≡ Some p) ⊎ (In p (o ∷ os) × ¬ (p.number ≡ n))
    further r (inl e) = inl e
    further r (inr i) = inr (inr i.0, i.1)

    go : (q : Bool) → numbered n o ≡ q → (r' : Option Order) → (In p (replace n r os) → (r' ≡ Some p) ⊎ (In p os × ¬ (p.number ≡ n))) →
        In p (replacing q r' o (replace n r os)) → (r' ≡ Some p) ⊎ (In p (o ∷ os) × ¬ (p.number ≡ n))
    go false qe r' ih (inl e) = inr (inl e, unlike qe e)
    go false qe r' ih (inr j) = further r' (ih j)
    go true qe None ih j = further None (ih j)
    go true qe (Some z) ih (inl e) = inl (ap (λ (x : Order). Some x) (sym e))
    go true qe (Some z) ih (inr j) = further (Some z) (ih j)

pub replace-in : (n : ℕ) (r : Option Order) (os : List Order) (p : Order) → In p os → ¬ (p.number ≡ n) → In p (replace n r os)
unfolding replace
replace-in n r [] p i f = i
replace-in n r (o ∷ os) p i f = go (numbered n o) refl r (replace-in n r os p) i
  where
    go : (q : Bool) → numbered n o ≡ q → (r' : Option Order) → (In p os → ¬ (p.number ≡ n) → In p (replace n r os)) → In p (o ∷ os) →
        In p (replacing q r' o (replace n r os))
    go false qe r' ih (inl e) = inl e
    go false qe r' ih (inr j) = inr (ih j f)
    go true qe r' ih (inl e) = absurd (f (same_number e ∙ eqb-true o.number n qe))
    go true qe None ih (inr j) = ih j f
    go true qe (Some z) ih (inr j) = inr (ih j f)

-- what is put in the place of a live order stands there
pub replaced-in : (n : ℕ) (z : Order) (os : List Order) (p : Order) → In p os → p.number ≡ n → In z (replace n (Some z) os)
unfolding replace
replaced-in n z [] p i f = i
replaced-in n z (o ∷ os) p i f = go (numbered n o) refl (replaced-in n z os p) i
  where
    go : (q : Bool) → numbered n o ≡ q → (In p os → p.number ≡ n → In z (replace n (Some z) os)) → In p (o ∷ os) →
        In z (replacing q (Some z) o (replace n (Some z) os))
    go false qe ih (inl e) = absurd (unlike qe e f)
    go false qe ih (inr j) = inr (ih j f)
    go true qe ih j = inl refl

pub ascends-replace : (k m n : ℕ) (r : Option Order) (os : List Order) → Keeps n r → Ascends k m os → Ascends k m (replace n r os)
unfolding replace
ascends-replace k m n r [] w a = a
ascends-replace k m n r (o ∷ os) w a = go (numbered n o) refl r w (ascends-replace (suc o.number) m n r os w a.1)
  where
    go : (q : Bool) → numbered n o ≡ q → (r' : Option Order) → Keeps n r' → Ascends (suc o.number) m (replace n r os) →
        Ascends k m (replacing q r' o (replace n r os))
    go false qe r' w b = (a.0, b)
    go true qe None w b = ascends-from k (suc o.number) m (replace n r os) (omega (arith, a.0)) b
    go true qe (Some z) w b =
        let e : z.number ≡ o.number = w ∙ sym (eqb-true o.number n qe) in
        (omega (arith, a.0), subst (λ (x : ℕ). Ascends (suc x) m (replace n r os)) (sym e) b)

pub replace-shorter : (n : ℕ) (r : Option Order) (os : List Order) → length (replace n r os) ≤ length os
unfolding replace
replace-shorter n r [] = omega arith
replace-shorter n r (o ∷ os) = go (numbered n o) r (replace-shorter n r os)
  where
    go : (q : Bool) (r' : Option Order) → length (replace n r os) ≤ length os → length (replacing q r' o (replace n r os)) ≤ length (o ∷ os)
    go false r' ih = omega arith
    go true None ih = omega arith
    go true (Some z) ih = omega arith

-- a live order that goes leaves fewer
pub replace-fewer : (os : List Order) (p : Order) → In p os → length (replace p.number None os) < length os
unfolding replace
replace-fewer [] p i = absurd i
replace-fewer (o ∷ os) p i = go (numbered p.number o) refl (replace-fewer os p) (replace-shorter p.number None os) i
  where
    go : (q : Bool) → numbered p.number o ≡ q → (In p os → length (replace p.number None os) < length os) →
        length (replace p.number None os) ≤ length os → In p (o ∷ os) →
        length (replacing q None o (replace p.number None os)) < length (o ∷ os)
    go false qe ih sh (inl e) = absurd (unlike qe e refl)
    go false qe ih sh (inr j) = let k = ih j in omega arith
    go true qe ih sh j = omega arith
