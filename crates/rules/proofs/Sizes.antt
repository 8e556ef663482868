-- How much stands in the row of live orders, when an order is put in another's place. Assumes nothing.
use Rattle.std.proofs.Common.{◌≡◌, ℕ, suc, ◌+◌, ◌<◌, ◌≤◌, Bool, true, false, List, [], ◌∷◌, ◌++◌, Some, None, Option, sym, refl, ap, inl, inr, arith}
use Rattle.std.proofs.lemmas.Bool.{both_ways, eqb-true, eq-eqb}
use Rattle.market.specs.declared.order.Order.{Order}
use Rattle.rules.specs.Base.{each, write}
use Rattle.rules.specs.Board.{numbered}
use Rattle.rules.specs.Fills.{replacing, replace}
use Rattle.rules.specs.Members.{In}
use Rattle.rules.specs.Rising.{Ascends, Keeps}
use Rattle.rules.specs.Sizes.{sizes}
use Rattle.rules.proofs.Rows.{ascends-in, write-here, write-there}

pub sizes-fewer : (h : ℕ → ℕ) (n : ℕ) (os : List Order) → sizes h (replace n None os) ≤ sizes h os
unfolding replace
sizes-fewer h n [] = omega arith
sizes-fewer h n (o ∷ os) = go (numbered n o) (sizes-fewer h n os)
  where
    go : (q : Bool) → sizes h (replace n None os) ≤ sizes h os → sizes h (replacing q None o (replace n None os)) ≤ sizes h (o ∷ os)
    go false ih = omega arith
    go true ih = omega arith

-- past the number n, neither the order n nor its reserve matters
sizes-past : (h : ℕ → ℕ) (n v : ℕ) (r : Option Order) (k m : ℕ) (os : List Order) → n < k → Ascends k m os →
    sizes (write n v h) (replace n r os) ≡ sizes h os
unfolding replace
sizes-past h n v r k m [] l a = refl
sizes-past h n v r k m (o ∷ os) l a =
    go (numbered n o) refl (sizes-past h n v r (suc o.number) m os (omega (arith, a.0)) a.1)
  where
    apart : ¬ (o.number ≡ n)
    apart e = omega (arith, a.0)

    go : (q : Bool) → numbered n o ≡ q → sizes (write n v h) (replace n r os) ≡ sizes h os →
        sizes (write n v h) (replacing q r o (replace n r os)) ≡ sizes h (o ∷ os)
    go false qe ih = let w = write-there n v h o.number apart in omega arith
    go true qe ih = absurd (apart (eqb-true o.number n qe))

-- what the order in its place shows, with the reserve v
abbrev pub worth : Option Order → ℕ → ℕ
worth None v = 0
worth (Some o) v = o.displayed + v

pub sizes-replace : (h : ℕ → ℕ) (v : ℕ) (r : Option Order) (k m : ℕ) (os : List Order) (p : Order) → Keeps p.number r → Ascends k m os →
    In p os → sizes (write p.number v h) (replace p.number r os) + (p.displayed + h p.number) ≡ sizes h os + worth r v
unfolding replace
sizes-replace h v r k m [] p w a i = absurd i
sizes-replace h v r k m (o ∷ os) p w a i = go (numbered p.number o) refl (sizes-replace h v r (suc o.number) m os p w a.1) i
  where
    rest : List Order
    rest = replace p.number r os

    h' : ℕ → ℕ
    h' = write p.number v h

    here : (r' : Option Order) → Keeps p.number r' → p ≡ o → sizes h' rest ≡ sizes h os →
        sizes h' (replacing true r' o rest) + (p.displayed + h p.number) ≡ sizes h (o ∷ os) + worth r' v
    here None w e t =
        let d = ap (λ (x : Order). x.displayed) e in let y = ap (λ (x : Order). h x.number) e in omega arith
    here (Some z) w e t =
        let d = ap (λ (x : Order). x.displayed) e in
        let y = ap (λ (x : Order). h x.number) e in
        let c = write-here p.number v h z.number w in omega arith

    go : (q : Bool) → numbered p.number o ≡ q → (In p os → sizes h' rest + (p.displayed + h p.number) ≡ sizes h os + worth r v) →
        In p (o ∷ os) → sizes h' (replacing q r o rest) + (p.displayed + h p.number) ≡ sizes h (o ∷ os) + worth r v
    go false qe ih (inl e) =
        absurd (both_ways (numbered p.number o) qe (eq-eqb o.number p.number (ap (λ (x : Order). x.number) (sym e))))
    go false qe ih (inr j) =
        let f = ih j in
        let b = ascends-in (suc o.number) m os p a.1 j in
        let c = write-there p.number v h o.number (λ e. omega (arith, b.0)) in omega arith
    go true qe ih (inl e) =
        here r w e (sizes-past h p.number v r (suc o.number) m os
        (let f = ap (λ (x : Order). x.number) e in omega arith) a.1)
    go true qe ih (inr j) =
        let b = ascends-in (suc o.number) m os p a.1 j in
        let f = eqb-true o.number p.number qe in absurd (omega (arith, b.0))

pub sizes-each : (h : ℕ → ℕ) (f : Order → Order) → ((o : Order) → (f o).number ≡ o.number) → ((o : Order) → (f o).displayed ≡ o.displayed) →
    (os : List Order) → sizes h (each f os) ≡ sizes h os
unfolding each
sizes-each h f e d [] = refl
sizes-each h f e d (o ∷ os) = let i = sizes-each h f e d os in let a = d o in let b = ap h (e o) in omega arith

pub sizes-push : (h : ℕ → ℕ) (os : List Order) (o : Order) → sizes h (os ++ (o ∷ [])) ≡ sizes h os + (o.displayed + h o.number)
sizes-push h [] o = omega arith
sizes-push h (p ∷ os) o = let i = sizes-push h os o in omega arith
