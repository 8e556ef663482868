-- The first entries at the best price show what the summary totals. Assumes nothing.
use Rattle.std.proofs.Common.{◌≡◌, ℕ, zero, suc, ◌+◌, Bool, true, false, cond, not, ◌&&◌, ◌||◌, ◌⊎◌, List, [], ◌∷◌, length, ℤ, is_ok, Some, None, Ok, Err, Option, sym, refl, ap, ◌∙◌, subst, inl, inr, ⊎_elim, arith}
use Rattle.std.proofs.lemmas.Bool.{and_parts, and_from}
use Rattle.line.specs.Order.{Order as TotalOrder}
use Rattle.line.specs.Held.{leads, in_order, holds, without}
use Rattle.line.specs.declared.lines.LineFault.TheVariants.{NotHeld}
use Rattle.market.specs.declared.order.Side.{Side}
use Rattle.market.specs.declared.order.Order.{Order}
use Rattle.market.specs.declared.answer.Summary.{Summary}
use Rattle.rules.specs.Base.{eq_z, is_some, first}
use Rattle.rules.specs.Board.{Board, on, better, best}
use Rattle.rules.specs.Standings.{ahead}
use Rattle.rules.specs.Fills.{replace, displayed_of}
use Rattle.rules.specs.Summaries.{without as less_order, total, summary_at, summary}
use Rattle.rules.specs.Members.{In}
use Rattle.rules.specs.Rising.{Ascends}
use Rattle.rules.proofs.Prices.{best-some, better-even}
use Rattle.rules.proofs.Rows.{ascends-replace}
use Rattle.rules.proofs.Tests.{eq_z-true, eq-eq_z, eq_z-false, same_true, eq-same}
use Rattle.queues.specs.Lists.{Shows}
use Rattle.queues.specs.Changes.{taken}
use Rattle.queues.specs.Walks.{shown_at, displayed_by}
use Rattle.queues.proofs.Shown.{Named, fitting-taken, left_in}
use Rattle.queues.proofs.Held.{without-absent, head-once}
use Rattle.queues.proofs.Heads.{head-leads, entry_of, side-of}
use Rattle.queues.proofs.Walked.{first-not, first-is, order-back, follows}

module _ (b : Board) (s : Side) (p : ℤ) where
  -- an order of the side at the price
  abbrev at : Order → Bool
  at o = on s o && eq_z o.price p

  -- none is left at the price
  none_left : (k : ℕ) (os : List Order) → ((o : Order) → In o os → at o ≡ true → ⊥) → total k b s p os ≡ 0
  unfolding total
  none_left zero os n = refl
  none_left (suc k) os n =
      sym (ap (λ (r : Option Order). displayed_of r + total k b s p (less_order r os)) (first-not at (ahead b) os n)) ∙ omega (arith, none_left k os n)

  -- the first at the price goes, and the rest are totalled
  one_more : (k : ℕ) (os : List Order) (o : Order) → Some o ≡ first at (ahead b) os → total (suc k) b s p os ≡ o.displayed + total k b s p (replace o.number None os)
  unfolding total
  one_more k os o h = sym (ap (λ (r : Option Order). displayed_of r + total k b s p (less_order r os)) h)

module _ {X : Type 0} {before : X → X → Bool} (t : TotalOrder before) (s : Side) (e : Order → Option X) (has : (o : Order) → is_some (e o) ≡ on s o)
    (number : X → ℕ) (named : Named number e) (b : Board) (agrees : (o p : Order) (x y : X) → e o ≡ Some x → e p ≡ Some y → before x y ≡ ahead b o p)
    (price : X → ℤ) (priced : (o : Order) (x : X) → e o ≡ Some x → price x ≡ o.price) (cheaper : (x y : X) → before x y ≡ true → better s (price y) (price x) ≡ false) where
  -- without its order, the head is gone
  tail-shows : (j m : ℕ) (os : List Order) → Ascends j m os → (x : X) (xs : List X) (o : Order) → In o os → e o ≡ Some x → Shows before (x ∷ xs) os e →
      Shows before xs (replace o.number None os) e
  tail-shows j m os a x xs o i is w =
      let v = (fitting-taken t number (length (x ∷ xs)) e named j m os a o i (x ∷ xs) (Some x) is (omega arith, w)).1 in
      let gone : taken before (Some x) (x ∷ xs) ≡ xs =
      ap (λ (q : Bool). cond (is_ok (cond (not (q || q) || holds before x xs) (Ok tt) (Err NotHeld))) (cond (q || q) (x ∷ without before x xs) (without before x xs)) (x ∷ xs))
      (t.irreflexive x) ∙
      without-absent t x xs (head-once t x xs (and_parts (leads before x xs) (in_order before xs) w.ordered).0) in
      subst (λ (ys : List X). Shows before ys (replace o.number None os) e) gone v

  module _ (p : ℤ) (shown : X → ℕ) where
    pub total-along : (k j m : ℕ) (os : List Order) (xs : List X) → Ascends j m os → Shows before xs os e → ((x : X) → In x xs → better s (price x) p ≡ false) →
        ((o : Order) (x : X) → In o os → e o ≡ Some x → shown x ≡ o.displayed) → total k b s p os ≡ shown_at price shown k p xs
    unfolding total
    total-along zero j m os xs a w top sh = refl
    total-along (suc k) j m os [] a w top sh =
        none_left b s p (suc k) os (λ o i h. let y = entry_of s e has o (same_true s o.side (and_parts (on s o) (eq_z o.price p) h).0) in w.each o y.0 i y.1)
    total-along (suc k) j m os (x ∷ xs) a w top sh = go (total-along k j m) (eq_z (price x) p) refl (w.only x (inl refl))
      where
        -- an order at the price has an entry at the price
        found : (y : Order) → In y os → at b s p y ≡ true → (z : X) × (e y ≡ Some z) × (price z ≡ p) × ((z ≡ x) ⊎ (before x z ≡ true))
        found y i h =
            let q = and_parts (on s y) (eq_z y.price p) h in
            let z = entry_of s e has y (same_true s y.side q.0) in
            (z.0, z.1, priced y z.0 z.1 ∙ eq_z-true y.price p q.1, head-leads before x xs w.ordered z.0 (w.each y z.0 i z.1))

        worse : eq_z (price x) p ≡ false → (y : Order) → In y os → at b s p y ≡ true → ⊥
        worse f y i h =
            let z = found y i h in
            eq_z-false (price x) p f
            (⊎_elim (λ q. ap price (sym q) ∙ z.2)
            (λ l. better-even s (price x) p (top x (inl refl)) (subst (λ (v : ℤ). better s v (price x) ≡ false) z.2 (cheaper x z.0 l))) z.3)

        go : ((os' : List Order) (ys : List X) → Ascends j m os' → Shows before ys os' e → ((y : X) → In y ys → better s (price y) p ≡ false) →
            ((o : Order) (y : X) → In o os' → e o ≡ Some y → shown y ≡ o.displayed) → total k b s p os' ≡ shown_at price shown k p ys) →
            (q : Bool) → eq_z (price x) p ≡ q → ((o : Order) × In o os × (e o ≡ Some x)) → total (suc k) b s p os ≡ cond q (shown x + shown_at price shown k p xs) 0
        go ih false q o = none_left b s p (suc k) os (worse q)
        go ih true q (o, i, is) =
            let side = side-of s e has o x is in
            let here : Some o ≡ first (at b s p) (ahead b) os =
            first-is b s (at b s p) (λ y h. same_true s y.side (and_parts (on s y) (eq_z y.price p) h).0) os o i
            (and_from (on s o) (eq_z o.price p) (eq-same s o.side side) (eq-eq_z o.price p (sym (priced o x is) ∙ eq_z-true (price x) p q)))
            (λ y l h. let z = found y l h in follows s e has number named before b agrees j m os a o y x z.0 i l is z.1 z.3) in
            let rest = ih (replace o.number None os) xs (ascends-replace j m o.number None os tt a) (tail-shows j m os a x xs o i is w) (λ y l. top y (inr l))
            (λ y z l h. sh y z (left_in o.number os y l).0 h) in
            one_more b s p k os o here ∙ omega (arith, rest, sh o x i is)

  -- the summary of the side
  pub summary-along : (j m : ℕ) → Ascends j m b.orders → (xs : List X) → Shows before xs b.orders e → (p : ℤ) → best s b.orders ≡ Some p →
      Some (record { price = p; size = shown_at price (displayed_by number b.orders) 8 p xs }) ≡ summary b s
  unfolding summary
  summary-along j m a xs w p is =
      let z = best-some s b.orders p is in
      let size = total-along p (displayed_by number b.orders) 8 j m b.orders xs a w
      (λ x i. let o = w.only x i in ap (λ (v : ℤ). better s v p) (priced o.0 x o.2) ∙ z.best o.0 o.1 (side-of s e has o.0 x o.2))
      (λ o x i h. ap displayed_of (order-back s e has number named before b agrees j m b.orders a o x i h)) in
      let made : ℕ → Option Summary = λ n. Some (record { price = p; size = n }) in
      ap made (sym size) ∙ sym (ap (summary_at b s) is)
