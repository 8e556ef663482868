-- The test of entitlement tells who is entitled. Assumes nothing.
use Rattle.std.proofs.Common.{◌≡◌, ℕ, Bool, true, false, eqb, ◌⊎◌, ℤ, Some, None, Option, sym, refl, ◌∙◌, inl, inr, arith}
use Rattle.std.proofs.lemmas.Int.{ints}
use Rattle.std.proofs.lemmas.Bool.{false≢true, cases_Bool, and_parts, and_from, eqb-true, eq-eqb}
use Rattle.market.specs.declared.order.Side.{Side}
use Rattle.market.specs.declared.order.Side.TheVariants.{Bid, Offer}
use Rattle.market.specs.declared.order.Order.{Order}
use Rattle.market.specs.declared.state.Phase.{Phase}
use Rattle.market.specs.declared.state.Phase.TheVariants.{Open, Timed, Rolling, Fbs}
use Rattle.rules.specs.Base.{any}
use Rattle.rules.specs.Board.{Board, on, same, better, best, meet}
use Rattle.rules.specs.Entitlement.{at_price, prior_left, passively, aggressively, in_timed, is_at, entitled_in, entitled}
use Rattle.rules.specs.Members.{In}
use Rattle.rules.proofs.Tests.{eq_z-true, eq-eq_z, same_true, eq-same, same_false, ne_same, none≢some, some_inj}
use Rattle.rules.proofs.Members.{any-in, not-any}
use Rattle.rules.proofs.Prices.{better-even, best_none, best-some, meet-crossed, crossed-meet}
use Rattle.laws.specs.Fair.{Better, Live, Meet, AtBest, Passively, Aggressively, InPhase, Entitled}

-- ---- best prices

better-false : (s : Side) (p q : ℤ) → better s p q ≡ false → ¬ (Better s p q)
unfolding better
better-false Bid p q h k = grind (arith, ints)
better-false Offer p q h k = grind (arith, ints)

better-true : (s : Side) (p q : ℤ) → better s p q ≡ true → Better s p q
unfolding better
better-true Bid p q h = grind (arith, ints)
better-true Offer p q h = grind (arith, ints)

not-better : (s : Side) (p q : ℤ) → ¬ (Better s p q) → better s p q ≡ false
not-better s p q f = go (cases_Bool (better s p q))
  where
    go : (better s p q ≡ true) ⊎ (better s p q ≡ false) → better s p q ≡ false
    go (inl h) = absurd (f (better-true s p q h))
    go (inr h) = h

best-from : (b : Board) (s : Side) (o : Order) → is_at o.price (best s b.orders) ≡ true → AtBest b s o
best-from b s o h p l = go (best s b.orders) refl h
  where
    go : (r : Option ℤ) → best s b.orders ≡ r → is_at o.price r ≡ true → ¬ (Better s p.price o.price)
    go None re h = absurd (false≢true h)
    go (Some q) re h =
        better-false s p.price o.price
        (rw (eq_z-true o.price q h) ((best-some s b.orders q re).best p l.listed l.side))

to-best : (b : Board) (s : Side) (o : Order) → Live b s o → AtBest b s o → is_at o.price (best s b.orders) ≡ true
to-best b s o l h = go (best s b.orders) refl
  where
    go : (r : Option ℤ) → best s b.orders ≡ r → is_at o.price r ≡ true
    go None re = absurd (best_none s b.orders re o l.listed l.side)
    go (Some q) re =
        let x = best-some s b.orders q re in
        let k : better s q o.price ≡ false =
        rw (← x.price) (not-better s x.order.price o.price (h x.order (record { listed = x.listed; side = x.side }))) in
        eq-eq_z o.price q (better-even s o.price q (x.best o l.listed l.side) k)

meet-from : (b : Board) → meet b.orders ≡ true → Meet b
meet-from b h =
    let c = meet-crossed b.orders h in
    record {
      bid = c.bid;
      offer = c.offer;
      bids = record { listed = c.bids; side = c.is_bid };
      offers = record { listed = c.offers; side = c.is_offer };
      met = c.crossed;
    }

to-meet : (b : Board) → Meet b → meet b.orders ≡ true
to-meet b m =
    crossed-meet b.orders
    (record {
      bid = m.bid;
      offer = m.offer;
      bids = m.bids.listed;
      offers = m.offers.listed;
      is_bid = m.bids.side;
      is_offer = m.offers.side;
      crossed = m.met;
    })

-- ---- Timed

passively-from : (b : Board) (o : Order) → passively (prior_left b.orders) b.session o ≡ true → Passively b o
unfolding prior_left
passively-from b o h = go (any (λ x. x.prior) b.orders) refl h
  where
    go : (q : Bool) → any (λ x. x.prior) b.orders ≡ q → passively q b.session o ≡ true → Passively b o
    go true qe k = inl k
    go false qe k =
        let r = and_parts (at_price b.session o) (eqb o.trader b.session.owner) k in
        inr (
          not-any (λ x. x.prior) b.orders qe,
          eq_z-true o.price b.session.price r.0,
          eqb-true o.trader b.session.owner r.1,
        )

to-passively : (b : Board) (o : Order) → In o b.orders → Passively b o → passively (prior_left b.orders) b.session o ≡ true
unfolding prior_left
to-passively b o i h = go (any (λ x. x.prior) b.orders) refl h
  where
    go : (q : Bool) → any (λ x. x.prior) b.orders ≡ q → Passively b o → passively q b.session o ≡ true
    go true qe (inl k) = k
    go true qe (inr k) = let r = any-in (λ x. x.prior) b.orders qe in absurd (k.0 r.0 r.1 r.2)
    go false qe (inl k) = absurd (not-any (λ x. x.prior) b.orders qe o i k)
    go false qe (inr k) =
        and_from (at_price b.session o) (eqb o.trader b.session.owner) (eq-eq_z o.price b.session.price k.1)
        (eq-eqb o.trader b.session.owner k.2)

aggressively-from : (b : Board) (o : Order) → aggressively b.session.aggressor b.session o ≡ true → Aggressively b o
aggressively-from b o h = go b.session.aggressor refl h
  where
    go : (a : Option ℕ) → b.session.aggressor ≡ a → aggressively a b.session o ≡ true → Aggressively b o
    go None ae k = (eq_z-true o.price b.session.price k, λ t e. absurd (none≢some (sym ae ∙ e)))
    go (Some a) ae k =
        let r = and_parts (at_price b.session o) (eqb o.trader a) k in
        (eq_z-true o.price b.session.price r.0, λ t e. eqb-true o.trader a r.1 ∙ some_inj (sym ae ∙ e))

to-aggressively : (b : Board) (o : Order) → Aggressively b o → aggressively b.session.aggressor b.session o ≡ true
to-aggressively b o h = go b.session.aggressor refl
  where
    go : (a : Option ℕ) → b.session.aggressor ≡ a → aggressively a b.session o ≡ true
    go None ae = eq-eq_z o.price b.session.price h.0
    go (Some a) ae =
        and_from (at_price b.session o) (eqb o.trader a) (eq-eq_z o.price b.session.price h.0)
        (eq-eqb o.trader a (h.1 a ae))

-- ---- by phase

phase-from : (ph : Phase) (b : Board) (s : Side) (o : Order) → o.side ≡ s → entitled_in ph b o ≡ true → InPhase ph b s o
phase-from Open b s o e h = false≢true h
phase-from Timed b s o e h = go (same o.side b.session.passive) refl h
  where
    go : (q : Bool) → same o.side b.session.passive ≡ q → in_timed q b o ≡ true → InPhase Timed b s o
    go true qe k = inl (sym e ∙ sym (same_true o.side b.session.passive qe), passively-from b o k)
    go false qe k = inr (sym e ∙ same_false o.side b.session.passive qe, aggressively-from b o k)
phase-from Rolling b s o e h = eq_z-true o.price b.session.price h
phase-from Fbs b s o e h =
    let r = and_parts (meet b.orders) (is_at o.price (best o.side b.orders)) h in
    (meet-from b r.0, best-from b s o (rw e at r.1))

to-phase : (ph : Phase) (b : Board) (s : Side) (o : Order) → Live b s o → InPhase ph b s o → entitled_in ph b o ≡ true
to-phase Open b s o l h = absurd h
to-phase Timed b s o l (inl h) =
    rw (eq-same o.side b.session.passive (sym h.0 ∙ sym l.side)) (to-passively b o l.listed h.1)
to-phase Timed b s o l (inr h) = rw (ne_same o.side b.session.passive (l.side ∙ h.0)) (to-aggressively b o h.1)
to-phase Rolling b s o l h = eq-eq_z o.price b.session.price h
to-phase Fbs b s o l h =
    and_from (meet b.orders) (is_at o.price (best o.side b.orders)) (to-meet b h.0) (rw l.side (to-best b s o l h.1))

pub entitled-from : (b : Board) (s : Side) (o : Order) → In o b.orders → entitled b s o ≡ true → Entitled b s o
unfolding entitled
entitled-from b s o i h =
    let r = and_parts (on s o) (entitled_in b.phase b o) h in
    let e = same_true s o.side r.0 in
    record { live = record { listed = i; side = e }; phase = phase-from b.phase b s o e r.1 }

pub to-entitled : (b : Board) (s : Side) (o : Order) → Entitled b s o → entitled b s o ≡ true
unfolding entitled
to-entitled b s o h =
    and_from (on s o) (entitled_in b.phase b o) (eq-same s o.side h.live.side) (to-phase b.phase b s o h.live h.phase)

pub entitled-side : (b : Board) (s : Side) (o : Order) → entitled b s o ≡ true → o.side ≡ s
unfolding entitled
entitled-side b s o h = same_true s o.side (and_parts (on s o) (entitled_in b.phase b o) h).0
