-- A session that begins is orderly: its price stands between the sides, and it has a pair. Assumes nothing.
use Rattle.std.proofs.Common.{◌≡◌, ℕ, Bool, true, false, cond, ◌&&◌, ◌⊎◌, List, ℤ, ◌≤ℤ◌, Some, None, Option, sym, refl, ap, ◌∙◌, subst, subst₂, inl, inr, arith}
use Rattle.std.proofs.lemmas.Int.{ints}
use Rattle.std.proofs.lemmas.Bool.{true≢false, false≢true, both_ways, and_parts, and_from, eqb-true, eq-eqb, cond-true}
use Rattle.market.specs.declared.order.Side.{Side}
use Rattle.market.specs.declared.order.Side.TheVariants.{Bid, Offer}
use Rattle.market.specs.declared.order.Order.{Order}
use Rattle.market.specs.declared.state.Phase.{Phase}
use Rattle.market.specs.declared.state.Phase.TheVariants.{Open, Timed, Rolling, Fbs}
use Rattle.rules.specs.Base.{eq_z, is_some}
use Rattle.rules.specs.Board.{Board, on, same, other, better, meet, in_session, is_open, numbered}
use Rattle.rules.specs.Standings.{ahead}
use Rattle.rules.specs.Entitlement.{prior_left, entitled, first_entitled}
use Rattle.rules.specs.Draws.{incoming_of, started, begun_board}
use Rattle.rules.specs.Members.{In}
use Rattle.rules.specs.Rising.{Ascends}
use Rattle.rules.proofs.Tests.{none≢some, some_inj, eq_z-true, eq-eq_z, same_true, eq-same, same_false}
use Rattle.rules.proofs.Members.{in-any, in-each, each_in}
use Rattle.rules.proofs.Firsts.{first-none, first-in, first-leads}
use Rattle.rules.proofs.Rows.{ascends-unique, ordered-in}
use Rattle.rules.proofs.Ranks.{ahead-ranked}
use Rattle.rules.proofs.Prices.{better-self, better-asymmetric, Crossed, meet-crossed}
use Rattle.rules.proofs.Reasons.{Begins}
use Rattle.invariants.specs.Orderly.{Meets, Incoming, Orderly}
use Rattle.invariants.proofs.Rests.{refuted}
use Rattle.invariants.proofs.Crossings.{meets-sides, still-meets, unbeaten}

other_differs : (s : Side) → s ≡ other s → ⊥
other_differs Bid e = let z : ◌≡◌ {A = ℕ} 0 1 = cc in omega arith
other_differs Offer e = let z : ◌≡◌ {A = ℕ} 0 1 = cc in omega arith

same-across : (s : Side) → same s (other s) ≡ false
same-across Bid = refl
same-across Offer = refl

open-outside : (p : Phase) → is_open p ≡ true → in_session p ≡ false
open-outside Open h = refl
open-outside Timed h = absurd (false≢true h)
open-outside Rolling h = absurd (false≢true h)
open-outside Fbs h = absurd (false≢true h)

as-bid : (p q r : ℤ) → better Offer q p ≡ false → q ≤ℤ r → better Bid p r ≡ false
unfolding better
as-bid p q r h l = grind (arith, ints)

as-offer : (p q r : ℤ) → better Bid q p ≡ false → r ≤ℤ q → better Offer p r ≡ false
unfolding better
as-offer p q r h l = grind (arith, ints)

-- ---- trigger and passive order

-- the trigger meets the passive order, which no order of its side is better than
pub record Opens (b : Board) (x y : Order) : Type 0 where
  pub outside : in_session b.phase ≡ false
  pub trigger : In x b.orders
  pub named : Incoming b x
  pub passive : In y b.orders
  pub side : y.side ≡ other x.side
  pub best : (z : Order) → In z b.orders → z.side ≡ y.side → better y.side z.price y.price ≡ false
  pub crosses : better x.side y.price x.price ≡ false

incoming-named : (r : Option ℕ) (os : List Order) (x : Order) → incoming_of r os ≡ Some x → In x os × (r ≡ Some x.number)
incoming-named None os x e = absurd (none≢some e)
incoming-named (Some n) os x e = let i = ordered-in n os x e in (i.0, ap (λ (m : ℕ). Some m) (sym i.1))

module _ (b : Board) (m : ℕ) (up : Ascends 1 m b.orders) (q : Orderly b) (x y : Order) (w : Begins b x y) where
  opening-parts : (is_open b.phase ≡ true) × (meet b.orders ≡ true)
  opening-parts =
      let a = and_parts (is_open b.phase && meet b.orders) (is_some (incoming_of b.counters.incoming b.orders)) w.begun in
      and_parts (is_open b.phase) (meet b.orders) a.0

  the-trigger : In x b.orders × Incoming b x
  the-trigger = incoming-named b.counters.incoming b.orders x w.trigger

  the-passive : In y b.orders × (y.side ≡ other x.side)
  the-passive =
      let i = first-in (on (other x.side)) (ahead b) b.orders y w.passive in (i.0, same_true (other x.side) y.side i.1)

  -- an incoming order is the trigger
  is-trigger : (z : Order) → In z b.orders → Incoming b z → z ≡ x
  is-trigger z i e = ascends-unique 1 m b.orders z x up i the-trigger.0 (some_inj (sym e ∙ the-trigger.1))

  no-better-passive : (z : Order) → In z b.orders → z.side ≡ y.side → better y.side z.price y.price ≡ false
  no-better-passive z i e =
      let s = other x.side in
      let l = first-leads (on s) (ahead b) (ahead-ranked b s (on s) (λ o h. same_true s o.side h)) b.orders y w.passive z i
      (eq-same s z.side (e ∙ the-passive.1)) in
      unbeaten b y.side z y e l

  trigger-crosses : better x.side y.price x.price ≡ false
  trigger-crosses = go (q.incoming (open-outside b.phase opening-parts.0) c.bid c.offer c.bids c.offers meets)
    where
      c : Crossed b.orders
      c = meet-crossed b.orders opening-parts.1

      meets : Meets c.bid c.offer
      meets = record { bids = c.is_bid; offers = c.is_offer; met = c.crossed }

      go : Incoming b c.bid ⊎ Incoming b c.offer → better x.side y.price x.price ≡ false
      go (inl e) =
          let i : c.bid ≡ x = is-trigger c.bid c.bids e in
          let s : x.side ≡ Bid = sym (ap (λ (o : Order). o.side) i) ∙ c.is_bid in
          let t : y.side ≡ Offer = the-passive.1 ∙ ap other s in
          let n : better Offer c.offer.price y.price ≡ false =
          subst (λ (s : Side). better s c.offer.price y.price ≡ false) t (no-better-passive c.offer c.offers (c.is_offer ∙ sym t)) in
          rw s (as-bid y.price c.offer.price x.price n (subst (λ (o : Order). c.offer.price ≤ℤ o.price) i c.crossed))
      go (inr e) =
          let i : c.offer ≡ x = is-trigger c.offer c.offers e in
          let s : x.side ≡ Offer = sym (ap (λ (o : Order). o.side) i) ∙ c.is_offer in
          let t : y.side ≡ Bid = the-passive.1 ∙ ap other s in
          let n : better Bid c.bid.price y.price ≡ false =
          subst (λ (s : Side). better s c.bid.price y.price ≡ false) t (no-better-passive c.bid c.bids (c.is_bid ∙ sym t)) in
          rw s (as-offer y.price c.bid.price x.price n (subst (λ (o : Order). o.price ≤ℤ c.bid.price) i c.crossed))

  pub opens-so : Opens b x y
  opens-so =
      record {
        outside = open-outside b.phase opening-parts.0;
        trigger = the-trigger.0;
        named = the-trigger.1;
        passive = the-passive.0;
        side = the-passive.1;
        best = no-better-passive;
        crosses = trigger-crosses;
      }

-- ---- prices

started-side : (n : ℕ) (s : Side) (p : ℤ) (z : Order) → (started n s p z).side ≡ z.side
unfolding started
started-side n s p z = refl

started-trader : (n : ℕ) (s : Side) (p : ℤ) (z : Order) → (started n s p z).trader ≡ z.trader
unfolding started
started-trader n s p z = refl

-- the session's price is no better for an order than its own
started-worse : (b : Board) (m : ℕ) (x y z : Order) → Ascends 1 m b.orders → Opens b x y → In z b.orders →
    better z.side (started x.number y.side y.price z).price z.price ≡ false
unfolding started
started-worse b m x y z up w i = go (numbered x.number z) refl
  where
    go : (q : Bool) → numbered x.number z ≡ q → better z.side (cond q y.price z.price) z.price ≡ false
    go false qe = better-self z.side z.price
    go true qe =
        let e : z ≡ x = ascends-unique 1 m b.orders z x up i w.trigger (eqb-true z.number x.number qe) in
        subst (λ (o : Order). better o.side y.price o.price ≡ false) (sym e) w.crosses

-- no order is better than the session's price
begun-worse : (b : Board) (m : ℕ) (x y z : Order) → Ascends 1 m b.orders → Orderly b → Opens b x y → In z b.orders →
    better z.side (started x.number y.side y.price z).price y.price ≡ false
unfolding started
begun-worse b m x y z up q w i = go (numbered x.number z) refl
  where
    -- a second order that meets the passive one would be incoming too
    alone : numbered x.number z ≡ false → Incoming b z → ⊥
    alone n e = both_ways (numbered x.number z) n (eq-eqb z.number x.number (some_inj (sym e ∙ w.named)))

    apart : Incoming b y → ⊥
    apart e =
        let f : y ≡ x = ascends-unique 1 m b.orders y x up w.passive w.trigger (some_inj (sym e ∙ w.named)) in
        other_differs x.side (sym (ap (λ (o : Order). o.side) f) ∙ w.side)

    neither : numbered x.number z ≡ false → Meets z y ⊎ Meets y z → ⊥
    neither n (inl c) = by (q.incoming w.outside z y i w.passive c)
      where
        by : Incoming b z ⊎ Incoming b y → ⊥
        by (inl e) = alone n e
        by (inr e) = apart e
    neither n (inr c) = by (q.incoming w.outside y z w.passive i c)
      where
        by : Incoming b y ⊎ Incoming b z → ⊥
        by (inl e) = apart e
        by (inr e) = alone n e

    either : (p : Bool) → same y.side z.side ≡ p → numbered x.number z ≡ false → better z.side z.price y.price ≡ false
    either true pe n =
        let e : z.side ≡ y.side = same_true y.side z.side pe in rw e (w.best z i e)
    either false pe n =
        refuted (better z.side z.price y.price) λ h.
        neither n (meets-sides z.side z y refl (same_false y.side z.side pe) (better-asymmetric z.side z.price y.price h))

    go : (p : Bool) → numbered x.number z ≡ p → better z.side (cond p y.price z.price) y.price ≡ false
    go true pe = better-self z.side y.price
    go false pe = either (same y.side z.side) refl pe

-- ---- the pair

-- a side with an entitled order has a first one
pub there-is : (b : Board) (s : Side) (o : Order) → In o b.orders → entitled b s o ≡ true → is_some (first_entitled b s) ≡ true
unfolding first_entitled
there-is b s o i h = go (first_entitled b s) refl
  where
    go : (r : Option Order) → first_entitled b s ≡ r → is_some r ≡ true
    go None e = absurd (first-none (entitled b s) (ahead b) b.orders e o i h)
    go (Some p) e = refl

passive-entitled : (b : Board) (x y : Order) → Opens b x y → is_some (first_entitled (begun_board b x y) y.side) ≡ true
unfolding begun_board entitled started prior_left
passive-entitled b x y w =
    there-is (begun_board b x y) y.side y' i
    (and_from (on y.side y') _ itself (rw (itself, in-any (λ o. o.prior) (begun_board b x y).orders y' i prior) level))
  where
    y' : Order
    y' = started x.number y.side y.price y

    i : In y' (begun_board b x y).orders
    i = each_in (started x.number y.side y.price) b.orders y w.passive

    itself : same y.side y.side ≡ true
    itself = eq-same y.side y.side refl

    level : eq_z y.price y.price ≡ true
    level = eq-eq_z y.price y.price refl

    prior : y'.prior ≡ true
    prior = and_from (on y.side y) (eq_z y.price y.price) itself level

trigger-entitled : (b : Board) (x y : Order) → Opens b x y → is_some (first_entitled (begun_board b x y) x.side) ≡ true
unfolding begun_board entitled started
trigger-entitled b x y w =
    there-is (begun_board b x y) x.side x' i
    (and_from (on x.side x') _ (eq-same x.side x.side refl) (rw aside (eq-eq_z x'.price y.price price)))
  where
    x' : Order
    x' = started x.number y.side y.price x

    i : In x' (begun_board b x y).orders
    i = each_in (started x.number y.side y.price) b.orders x w.trigger

    aside : same x.side y.side ≡ false
    aside = rw w.side (same-across x.side)

    price : x'.price ≡ y.price
    price = cond-true (numbered x.number x) y.price x.price (eq-eqb x.number x.number refl)

-- ---- all of it

begun-apart : (b : Board) (m : ℕ) (x y u v : Order) → Ascends 1 m b.orders → Orderly b → Opens b x y → In u b.orders → In v b.orders →
    Meets (started x.number y.side y.price u) (started x.number y.side y.price v) → ¬ (u.trader ≡ v.trader)
begun-apart b m x y u v up q w i j c =
    q.apart u v i j
    (still-meets u v (started x.number y.side y.price u) (started x.number y.side y.price v)
    (sym (started-side x.number y.side y.price u)) (sym (started-side x.number y.side y.price v))
    (started-worse b m x y u up w i) (started-worse b m x y v up w j) c)

begun-prior : (b : Board) (x y z : Order) → (started x.number y.side y.price z).prior ≡ true →
    (z.side ≡ y.side) × ((started x.number y.side y.price z).price ≡ y.price)
unfolding started
begun-prior b x y z h =
    let p = and_parts (on y.side z) (eq_z z.price y.price) h in
    (same_true y.side z.side p.0, go (numbered x.number z) (eq_z-true z.price y.price p.1))
  where
    go : (q : Bool) → z.price ≡ y.price → cond q y.price z.price ≡ y.price
    go true e = refl
    go false e = e

pub begun-orderly : (b : Board) (m : ℕ) (x y : Order) → Ascends 1 m b.orders → Orderly b → Begins b x y → b.clock.quiet ≡ false →
    Orderly (begun_board b x y)
unfolding begun_board
begun-orderly b m x y up q w n =
    let o = opens-so b m up q x y w in
    record {
      incoming = λ h. absurd (true≢false h);
      worse = λ h p i. let r = in-each f b.orders p i in
          subst (λ (z : Order). better z.side z.price y.price ≡ false) (sym r.2)
          (subst (λ (s : Side). better s (f r.0).price y.price ≡ false) (sym (started-side x.number y.side y.price r.0))
          (begun-worse b m x y r.0 up q o r.1));
      apart = λ p p' i j c e.
          let r = in-each f b.orders p i in
          let t = in-each f b.orders p' j in
          begun-apart b m x y r.0 t.0 up q o r.1 t.1 (subst₂ Meets r.2 t.2 c)
          (sym (trader p r.0 r.2) ∙ e ∙ trader p' t.0 t.2);
      prior = λ h p i g.
          let r = in-each f b.orders p i in
          let a = begun-prior b x y r.0 (sym (ap (λ (z : Order). z.prior) r.2) ∙ g) in
          (ap (λ (z : Order). z.side) r.2 ∙ started-side x.number y.side y.price r.0 ∙ a.0, ap (λ (z : Order). z.price) r.2 ∙ a.1);
      traded = λ h. inr (record {
        timed = refl;
        unsettled = refl;
        unquiet = n;
        bid = (pair x.side refl o).0;
        offer = (pair x.side refl o).1;
      });
    }
  where
    f : Order → Order
    f = started x.number y.side y.price

    trader : (p z : Order) → p ≡ started x.number y.side y.price z → p.trader ≡ z.trader
    trader p z e = ap (λ (o : Order). o.trader) e ∙ started-trader x.number y.side y.price z

    pair : (s : Side) → x.side ≡ s → Opens b x y →
        (is_some (first_entitled (begun_board b x y) Bid) ≡ true) × (is_some (first_entitled (begun_board b x y) Offer) ≡ true)
    pair Bid e o = (
      subst (λ (s : Side). is_some (first_entitled (begun_board b x y) s) ≡ true) e (trigger-entitled b x y o),
      subst (λ (s : Side). is_some (first_entitled (begun_board b x y) s) ≡ true) (o.side ∙ ap other e) (passive-entitled b x y o),
    )
    pair Offer e o = (
      subst (λ (s : Side). is_some (first_entitled (begun_board b x y) s) ≡ true) (o.side ∙ ap other e) (passive-entitled b x y o),
      subst (λ (s : Side). is_some (first_entitled (begun_board b x y) s) ≡ true) e (trigger-entitled b x y o),
    )
