-- The first order along a line that passes is the first by rank of those that pass. Assumes nothing.
use Rattle.std.proofs.Common.{◌≡◌, ℕ, Bool, true, false, ◌⊎◌, List, [], ◌∷◌, Some, None, Option, sym, refl, ap, ◌∙◌, subst, inl, inr, ⊎_elim}
use Rattle.std.proofs.lemmas.Bool.{and_parts, both_ways, false≢true}
use Rattle.line.specs.Held.{Ordered, leads, in_order, first_of}
use Rattle.market.specs.declared.order.Side.{Side}
use Rattle.market.specs.declared.order.Order.{Order}
use Rattle.rules.specs.Base.{is_some, or_next, only_if, first}
use Rattle.rules.specs.Board.{Board, on, ordered}
use Rattle.rules.specs.Standings.{ahead}
use Rattle.rules.specs.Members.{In}
use Rattle.rules.specs.Rising.{Ascends}
use Rattle.rules.proofs.Firsts.{first-none, first-in, first-leads}
use Rattle.rules.proofs.Ranks.{ahead-ranked}
use Rattle.rules.proofs.Rows.{in-ordered, ascends-unique}
use Rattle.rules.proofs.Tests.{same_true, eq-same, some_inj, none≢some}
use Rattle.queues.specs.Lists.{Shows}
use Rattle.queues.specs.Walks.{order_of, passing, choice, walk}
use Rattle.queues.proofs.Shown.{Named}
use Rattle.queues.proofs.Heads.{head-leads, entry_of, side-of}

-- ---- the first of orders by rank is the one that is ahead of the others

pub first-not : {A : Type 0} (p : A → Bool) (before : A → A → Bool) (xs : List A) → ((y : A) → In y xs → p y ≡ true → ⊥) → None ≡ first p before xs
first-not {A} p before xs none = go (first p before xs) refl
  where
    go : (r : Option A) → first p before xs ≡ r → None ≡ r
    go None e = refl
    go (Some z) e = let w = first-in p before xs z e in absurd (none z w.0 w.1)

pub first-is : (b : Board) (s : Side) (p : Order → Bool) → ((o : Order) → p o ≡ true → o.side ≡ s) → (os : List Order) (o : Order) → In o os → p o ≡ true →
    ((y : Order) → In y os → p y ≡ true → (y ≡ o) ⊎ (ahead b o y ≡ true)) → Some o ≡ first p (ahead b) os
first-is b s p side os o i h lead = go (first p (ahead b) os) refl
  where
    go : (r : Option Order) → first p (ahead b) os ≡ r → Some o ≡ r
    go None e = absurd (first-none p (ahead b) os e o i h)
    go (Some z) e =
        let w = first-in p (ahead b) os z e in
        let l = first-leads p (ahead b) (ahead-ranked b s p side) os z e o i h in
        ⊎_elim (λ q. ap (λ (v : Order). Some v) (sym q)) (λ a. absurd (both_ways (ahead b o z) l a)) (lead z w.0 w.1)

-- ---- what a walk along an ordered list finds

record Won {X : Type 0} (before : X → X → Bool) (f : X → Option Order) (xs : List X) (o : Order) : Type 0 where
  pub at : X
  pub listed : In at xs
  pub gives : f at ≡ Some o
  pub leads : (y : X) → In y xs → (f y ≡ None) ⊎ ((y ≡ at) ⊎ (before at y ≡ true))

module _ {X : Type 0} (before : X → X → Bool) (f : X → Option Order) where
  walk_none : (xs : List X) → walk f xs ≡ None → (y : X) → In y xs → f y ≡ None
  walk_none [] e y i = absurd i
  walk_none (x ∷ xs) e y i = go (walk_none xs) (f x) refl e i
    where
      go : (walk f xs ≡ None → (z : X) → In z xs → f z ≡ None) → (r : Option Order) → f x ≡ r → or_next r (walk f xs) ≡ None → In y (x ∷ xs) → f y ≡ None
      go ih None q k (inl p) = ap f p ∙ q
      go ih None q k (inr j) = ih k y j
      go ih (Some o) q k j = absurd (none≢some (sym k))

  walk-some : (xs : List X) → Ordered before xs → (o : Order) → walk f xs ≡ Some o → Won before f xs o
  walk-some [] u o e = absurd (none≢some e)
  walk-some (x ∷ xs) u o e = go (walk-some xs (and_parts (leads before x xs) (in_order before xs) u).1 o) (f x) refl e
    where
      go : (walk f xs ≡ Some o → Won before f xs o) → (r : Option Order) → f x ≡ r → or_next r (walk f xs) ≡ Some o → Won before f (x ∷ xs) o
      go ih None q k = further (ih k)
        where
          further : Won before f xs o → Won before f (x ∷ xs) o
          further w = record { at = w.at; listed = inr w.listed; gives = w.gives; leads = lead }
            where
              lead : (y : X) → In y (x ∷ xs) → (f y ≡ None) ⊎ ((y ≡ w.at) ⊎ (before w.at y ≡ true))
              lead y (inl p) = inl (ap f p ∙ q)
              lead y (inr i) = w.leads y i
      go ih (Some p) q k = record { at = x; listed = inl refl; gives = q ∙ k; leads = λ y i. inr (head-leads before x xs u y i) }

-- ---- the two together

-- entries e, ordered by `before`, for the orders of side s
module _ {X : Type 0} (s : Side) (e : Order → Option X) (has : (o : Order) → is_some (e o) ≡ on s o) (number : X → ℕ) (named : Named number e) (before : X → X → Bool)
    (b : Board) (agrees : (o p : Order) (x y : X) → e o ≡ Some x → e p ≡ Some y → before x y ≡ ahead b o p)
    (k m : ℕ) (os : List Order) (a : Ascends k m os) where
  -- an entry's number leads back to its order
  pub order-back : (o : Order) (x : X) → In o os → e o ≡ Some x → ordered (number x) os ≡ Some o
  order-back o x i q = ap (λ (n : ℕ). ordered n os) (named o x q) ∙ in-ordered k m os o a i

  -- entries of equal orders, and what is ahead
  pub follows : (o y : Order) (x z : X) → In o os → In y os → e o ≡ Some x → e y ≡ Some z → (z ≡ x) ⊎ (before x z ≡ true) → (y ≡ o) ⊎ (ahead b o y ≡ true)
  follows o y x z i j q r (inl h) = inl (ascends-unique k m os y o a j i (sym (named y z r) ∙ ap number h ∙ named o x q))
  follows o y x z i j q r (inr h) = inr (sym (agrees o y x z q r) ∙ h)

  -- the head is the first order of the side
  pub head_first : (xs : List X) → Shows before xs os e → order_of number os (first_of xs) ≡ first (on s) (ahead b) os
  head_first [] w = first-not (on s) (ahead b) os (λ y i h. let z = entry_of s e has y (same_true s y.side h) in w.each y z.0 i z.1)
  head_first (x ∷ xs) w =
      let o = w.only x (inl refl) in
      let side = side-of s e has o.0 x o.2 in
      order-back o.0 x o.1 o.2 ∙
      first-is b s (on s) (λ y h. same_true s y.side h) os o.0 o.1 (eq-same s o.0.side side)
      (λ y i h. let z = entry_of s e has y (same_true s y.side h) in
      follows o.0 y x z.0 o.1 i o.2 z.1 (head-leads before x xs w.ordered z.0 (w.each y z.0 i z.1)))

  -- a walk by a test q that says of the side's orders what p says
  module _ (q p : Order → Bool) (side : (o : Order) → p o ≡ true → o.side ≡ s) (same : (o : Order) → o.side ≡ s → q o ≡ p o) where
    abbrev step : X → Option Order
    step = choice q number os

    by : (o : Order) (x : X) → In o os → e o ≡ Some x → step x ≡ only_if (p o) (Some o)
    by o x i h = ap (passing q) (order-back o x i h) ∙ ap (λ (t : Bool). only_if t (Some o)) (same o (side-of s e has o x h))

    was : (t : Bool) (o r : Order) → only_if t (Some o) ≡ Some r → (o ≡ r) × (t ≡ true)
    was true o r h = (some_inj h, refl)
    was false o r h = absurd (none≢some h)

    never : (t : Bool) (o : Order) → only_if t (Some o) ≡ None → t ≡ true → ⊥
    never true o h k = none≢some (sym h)
    never false o h k = false≢true k

    pub walk_first : (xs : List X) → Shows before xs os e → walk (choice q number os) xs ≡ first p (ahead b) os
    walk_first xs w = go (walk step xs) refl
      where
        go : (r : Option Order) → walk step xs ≡ r → r ≡ first p (ahead b) os
        go None h = first-not p (ahead b) os (λ y i t.
            let z = entry_of s e has y (side y t) in
            never (p y) y (sym (by y z.0 i z.1) ∙ walk_none before step xs h z.0 (w.each y z.0 i z.1)) t)
        go (Some o) h = won (walk-some before step xs w.ordered o h)
          where
            won : Won before step xs o → Some o ≡ first p (ahead b) os
            won v = from (w.only v.at v.listed)
              where
                from : ((z : Order) × In z os × (e z ≡ Some v.at)) → Some o ≡ first p (ahead b) os
                from z =
                    let x = was (p z.0) z.0 o (sym (by z.0 v.at z.1 z.2) ∙ v.gives) in
                    subst (λ (u : Order). Some u ≡ first p (ahead b) os) x.0 (first-is b s p side os z.0 z.1 x.1 lead)
                  where
                    lead : (y : Order) → In y os → p y ≡ true → (y ≡ z.0) ⊎ (ahead b z.0 y ≡ true)
                    lead y i t = pick (entry_of s e has y (side y t))
                      where
                        pick : ((u : X) × (e y ≡ Some u)) → (y ≡ z.0) ⊎ (ahead b z.0 y ≡ true)
                        pick u =
                            ⊎_elim (λ n. absurd (never (p y) y (sym (by y u.0 i u.1) ∙ n) t))
                            (follows z.0 y v.at u.0 z.1 i z.2 u.1) (v.leads u.0 (w.each y u.0 i u.1))
