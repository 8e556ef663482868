-- As many entries are shown as there are orders that have one. Assumes nothing.
use Rattle.std.proofs.Common.{◌≡◌, ℕ, suc, ◌+◌, Bool, true, cond, ◌||◌, List, [], ◌∷◌, length, Some, None, Option, sym, refl, ap, ◌∙◌, subst, inl, inr, arith}
use Rattle.std.proofs.lemmas.Bool.{and_parts, or_left}
use Rattle.line.specs.Order.{Order as TotalOrder}
use Rattle.line.specs.Held.{Ordered, leads, in_order, without}
use Rattle.line.proofs.Chains.{ordered-without}
use Rattle.market.specs.declared.order.Order.{Order}
use Rattle.rules.specs.Base.{is_some, count}
use Rattle.rules.specs.Members.{In}
use Rattle.rules.specs.Rising.{Ascends}
use Rattle.rules.proofs.Rows.{ascends-in}
use Rattle.rules.proofs.Tests.{some_inj, none≢some}
use Rattle.queues.specs.Lists.{Shows}
use Rattle.queues.proofs.Held.{led, alike, in_without, without_in, without-absent, head-once}
use Rattle.queues.proofs.Shown.{Named, having}

pub count-alike : (p q : Order → Bool) → ((o : Order) → p o ≡ q o) → (os : List Order) → count p os ≡ count q os
unfolding count
count-alike p q h [] = refl
count-alike p q h (o ∷ os) = let one : Bool → ℕ = λ b. cond b 1 0 in omega (arith, ap one (h o), count-alike p q h os)

module _ {X : Type 0} {ahead : X → X → Bool} (t : TotalOrder ahead) where
  one_less : (e : X) (xs : List X) → Ordered ahead xs → In e xs → length xs ≡ suc (length (without ahead e xs))
  one_less e [] u i = absurd i
  one_less e (y ∷ ys) u (inl q) =
      let parts = and_parts (leads ahead y ys) (in_order ahead ys) u in
      let rest : without ahead e ys ≡ ys = without-absent t e ys (λ i. head-once t y ys parts.0 (subst (λ (z : X). In z ys) q i)) in
      rw (alike t y e (sym q)) (ap (λ zs. suc (length zs)) (sym rest))
  one_less e (y ∷ ys) u (inr i) =
      let parts = and_parts (leads ahead y ys) (in_order ahead ys) u in
      let k : ahead y e || ahead e y ≡ true = or_left (ahead y e) (ahead e y) (led ahead y ys parts.0 e i) in
      rw k (ap suc (one_less e ys parts.1 i))

  module _ (number : X → ℕ) (e : Order → Option X) (named : Named number e) where
    pub sized : (k m : ℕ) (os : List Order) (xs : List X) → Ascends k m os → Shows ahead xs os e → length xs ≡ count (having e) os
    unfolding count
    sized k m [] [] a w = refl
    sized k m [] (x ∷ xs) a w = absurd (w.only x (inl refl)).1
    sized k m (o ∷ os) xs a w = go (e o) refl (sized (suc o.number) m os)
      where
        past : (x : X) → ¬ (e o ≡ Some x) → ((p : Order) × In p (o ∷ os) × (e p ≡ Some x)) → (p : Order) × In p os × (e p ≡ Some x)
        past x n (p, inl q, r) = absurd (n (ap e (sym q) ∙ r))
        past x n (p, inr i, r) = (p, i, r)

        go : (r : Option X) → e o ≡ r → ((ys : List X) → Ascends (suc o.number) m os → Shows ahead ys os e → length ys ≡ count (having e) os) → length xs ≡ cond (is_some r) 1 0 + count (having e) os
        go None is ih =
            omega (
              arith,
              ih xs a.1 (record {
                ordered = w.ordered;
                each = λ p y i q. w.each p y (inr i) q;
                only = λ y i. past y (λ q. none≢some (sym is ∙ q)) (w.only y i);
              }),
            )
        go (Some x) is ih =
            omega (
              arith,
              one_less x xs w.ordered (w.each o x (inl refl) is),
              ih (without ahead x xs) a.1 (record {
                ordered = ordered-without ahead x xs w.ordered;
                each = λ p y i q. without_in t x xs y (w.each p y (inr i) q) (λ z. apart p i (sym (named p y q) ∙ ap number z ∙ named o x is));
                only = λ y i. let r = in_without t x xs y i in past y (λ q. r.1 (some_inj (sym q ∙ is))) (w.only y r.0);
              }),
            )
          where
            apart : (p : Order) → In p os → p.number ≡ o.number → ⊥
            apart p i q = omega (arith, (ascends-in (suc o.number) m os p a.1 i).0)
