-- The head of what a line shows: the side's best price, and its first order. Assumes nothing.
use Rattle.std.proofs.Common.{◌≡◌, Bool, true, false, ◌⊎◌, List, [], ◌∷◌, ℤ, Some, None, Option, sym, refl, ap, ◌∙◌, inl, inr, ⊎_elim}
use Rattle.std.proofs.lemmas.Bool.{and_parts}
use Rattle.line.specs.Held.{Ordered, leads, in_order, first_of}
use Rattle.market.specs.declared.order.Side.{Side}
use Rattle.market.specs.declared.order.Order.{Order}
use Rattle.rules.specs.Base.{is_some}
use Rattle.rules.specs.Board.{on, better, best}
use Rattle.rules.specs.Members.{In}
use Rattle.rules.proofs.Prices.{best_none, best-some, better-self, better-even}
use Rattle.rules.proofs.Tests.{same_true, eq-same, is-some}
use Rattle.queues.specs.Lists.{Shows}
use Rattle.queues.specs.Walks.{price_of}
use Rattle.queues.proofs.Held.{led}

-- the head is ahead of every other
pub head-leads : {X : Type 0} (ahead : X → X → Bool) (x : X) (xs : List X) → Ordered ahead (x ∷ xs) → (y : X) → In y (x ∷ xs) → (y ≡ x) ⊎ (ahead x y ≡ true)
head-leads ahead x xs u y (inl e) = inl e
head-leads ahead x xs u y (inr i) = inr (led ahead x xs (and_parts (leads ahead x xs) (in_order ahead xs) u).0 y i)

-- the orders of a side are those that have an entry
module _ {X : Type 0} (s : Side) (e : Order → Option X) (has : (o : Order) → is_some (e o) ≡ on s o) where
  pub entry_of : (o : Order) → o.side ≡ s → (x : X) × (e o ≡ Some x)
  entry_of o h = is-some (e o) (has o ∙ eq-same s o.side h)

  pub side-of : (o : Order) (x : X) → e o ≡ Some x → o.side ≡ s
  side-of o x q = same_true s o.side (sym (has o) ∙ ap is_some q)

  module _ {ahead : X → X → Bool} (price : X → ℤ) (priced : (o : Order) (x : X) → e o ≡ Some x → price x ≡ o.price)
      (cheaper : (x y : X) → ahead x y ≡ true → better s (price y) (price x) ≡ false) (os : List Order) where
    -- no order of the side is better than the head
    pub head-best : (x : X) (xs : List X) → Shows ahead (x ∷ xs) os e → (o : Order) → In o os → o.side ≡ s → better s o.price (price x) ≡ false
    head-best x xs w o i h =
        let y = entry_of o h in
        let lead : (y.0 ≡ x) ⊎ (ahead x y.0 ≡ true) → better s (price y.0) (price x) ≡ false =
        ⊎_elim (λ q. ap (λ (z : X). better s (price z) (price x)) q ∙ better-self s (price x)) (λ a. cheaper x y.0 a) in
        ap (λ (p : ℤ). better s p (price x)) (sym (priced o y.0 y.1)) ∙ lead (head-leads ahead x xs w.ordered y.0 (w.each o y.0 i y.1))

    pub best-head : (xs : List X) → Shows ahead xs os e → price_of price (first_of xs) ≡ best s os
    best-head [] w = go (best s os) refl
      where
        go : (r : Option ℤ) → best s os ≡ r → None ≡ r
        go None q = refl
        go (Some p) q = let z = best-some s os p q in let y = entry_of z.order z.side in absurd (w.each z.order y.0 z.listed y.1)
    best-head (x ∷ xs) w = go (best s os) refl (w.only x (inl refl))
      where
        go : (r : Option ℤ) → best s os ≡ r → ((o : Order) × In o os × (e o ≡ Some x)) → Some (price x) ≡ r
        go None q o = absurd (best_none s os q o.0 o.1 (side-of o.0 x o.2))
        go (Some p) q o =
            let z = best-some s os p q in
            let up : better s p (price x) ≡ false = ap (λ (v : ℤ). better s v (price x)) (sym z.price) ∙ head-best x xs w z.order z.listed z.side in
            let down : better s (price x) p ≡ false = ap (λ (v : ℤ). better s v p) (priced o.0 x o.2) ∙ z.best o.0 o.1 (side-of o.0 x o.2) in
            ap (λ (v : ℤ). Some v) (better-even s (price x) p down up)
