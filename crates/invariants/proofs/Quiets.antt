-- A quiet book is settled, and fills are of two traders' orders that meet. Assumes nothing.
use Rattle.std.proofs.Common.{◌≡◌, ℕ, ◌<◌, Bool, true, false, not, ◌&&◌, List, ℤ, ◌≤ℤ◌, Some, None, Option, sym, refl, ap, ◌∙◌, arith}
use lib.Signed.{le_z}
use Rattle.std.proofs.lemmas.Int.{ints}
use Rattle.std.proofs.lemmas.Bool.{false≢true, both_ways, and_parts, leb-false}
use Rattle.market.specs.declared.order.Side.{Side}
use Rattle.market.specs.declared.order.Side.TheVariants.{Bid, Offer}
use Rattle.market.specs.declared.order.OrderType.{OrderType}
use Rattle.market.specs.declared.order.Order.{Order}
use Rattle.market.specs.declared.state.Phase.{Phase}
use Rattle.market.specs.declared.state.Phase.TheVariants.{Open, Timed, Rolling, Fbs}
use Rattle.market.specs.declared.record.Fill.{Fill}
use Rattle.market.specs.declared.record.Record.TheVariants.{Fill as FillRecord}
use Rattle.market.specs.declared.call.Call.{Call}
use Rattle.rules.specs.Board.{Opening, Board, State, same, best, cross, meet, in_session}
use Rattle.rules.specs.Entitlement.{at_price, prior_left, passively, aggressively, in_timed, is_at, entitled_in, first_entitled}
use Rattle.rules.specs.Fills.{fill_of}
use Rattle.rules.specs.Draws.{Step, begins, fills, removes, turns, expires, rests, must_go, goes, phase_end, ends_by, turn_record, decided, record_of, draw}
use Rattle.rules.specs.Calls.{step, run, opened}
use Rattle.rules.specs.Members.{In}
use Rattle.rules.specs.Rising.{Ascends}
use Rattle.rules.proofs.Tests.{eq_z-true}
use Rattle.rules.proofs.Prices.{meet-crossed}
use Rattle.rules.proofs.Reasons.{Why, why}
use Rattle.invariants.specs.Sound.{Sound}
use Rattle.invariants.specs.Orderly.{Meets, Orderly, Settled, QuietSettled, OfTwo, FillsOfTwo}
use Rattle.invariants.proofs.Drawn.{first-entitled}
use Rattle.invariants.proofs.Sounds.{sound}
use Rattle.invariants.proofs.Rests.{refuted, Rest, no-pair}
use Rattle.invariants.proofs.Steady.{Steady, run-steady, opened-steady}
use Rattle.invariants.proofs.Orderlies.{rolling-unmet, quiet-unmet, quiet-traded, orderly}

-- ---- a quiet book

-- in Open, Rolling and the FBS Period no live orders meet
none-meet : (k : Opening) (b : Board) (n : ℕ) → Ascends 1 n b.orders → Rest k b → Orderly b → ¬ (b.phase ≡ Timed) →
    (x y : Order) → In x b.orders → In y b.orders → Meets x y → ⊥
none-meet k b n up r q t x y i j m = go b.phase refl
  where
    go : (p : Phase) → b.phase ≡ p → ⊥
    go Open e = quiet-unmet k b n up r q (ap in_session e) x y i j m
    go Timed e = t e
    go Rolling e = rolling-unmet b e q (no-pair b r.unpaired) x y i j m
    go Fbs e = quiet-unmet k b n up r q (ap in_session e) x y i j m

none-ends : (w t : ℕ) (e : Option ℕ) → ends_by w e ≡ false → e ≡ Some t → w < t
none-ends w t e h f = leb-false t w (sym (ap (ends_by w) f) ∙ h)

settled : (k : Opening) (S : State) → Sound k S → Steady k S → Orderly S.board → S.board.clock.quiet ≡ true → Settled k S.board
unfolding goes
settled k S s r q h =
    let b = S.board in
    let w = r.calm h in
    let a = r.arrived h in
    record {
      arrived = a;
      unmet = λ t. refuted (meet b.orders) (λ m.
          let c = meet-crossed b.orders m in
          none-meet k b b.counters.number s.row.rising w q t c.bid c.offer c.bids c.offers
          (record { bids = c.is_bid; offers = c.is_offer; met = c.crossed }));
      unpaired = w.unpaired;
      immediate = λ o i e. both_ways (must_go (in_session b.phase) o.kind o.filled) (w.stays o i)
          (ap (λ (t : OrderType). must_go (in_session b.phase) t o.filled) e);
      killed = λ n o i e. killed b.phase n o.filled (sym (ap (λ (t : OrderType). must_go (in_session b.phase) t o.filled) e) ∙ w.stays o i);
      ends = λ o t i e. let l = none-ends b.clock.wished t o.end (w.ends o i) e in omega arith;
      phase = λ t e. let l = none-ends b.clock.wished t (phase_end b.phase k.settings b.session) w.phase e in omega arith;
      traded = quiet-traded k b w q;
    }
  where
    killed : (p : Phase) → in_session p ≡ false → (f : Bool) → f && not (in_session p) ≡ false → f ≡ false
    killed p n false g = refl
    killed p n true g = sym (ap not n) ∙ g

steady : (k : Opening) (cs : List Call) → Steady k (run k opened cs)
steady k cs = run-steady k opened cs (opened-steady k)

pub quiet-settled : QuietSettled
quiet-settled k cs = settled k (run k opened cs) (sound k cs) (steady k cs) (orderly k cs)

-- ---- a fill

-- in a session the orders that may trade are at its price
at-price : (b : Board) (o : Order) → Orderly b → In o b.orders → in_session b.phase ≡ true → entitled_in b.phase b o ≡ true → o.price ≡ b.session.price
at-price b o q i s h = go b.phase refl h
  where
    P : ℤ
    P = b.session.price

    passive : (p : Bool) → passively p b.session o ≡ true → o.price ≡ P
    passive true h = (q.prior s o i h).1
    passive false h = eq_z-true o.price P (and_parts (at_price b.session o) _ h).0

    aggressive : (t : Option ℕ) → aggressively t b.session o ≡ true → o.price ≡ P
    aggressive None h = eq_z-true o.price P h
    aggressive (Some t) h = eq_z-true o.price P (and_parts (at_price b.session o) _ h).0

    timed : (p : Bool) → in_timed p b o ≡ true → o.price ≡ P
    timed true h = passive (prior_left b.orders) h
    timed false h = aggressive b.session.aggressor h

    go : (p : Phase) → b.phase ≡ p → entitled_in p b o ≡ true → o.price ≡ P
    go Open e h = absurd (false≢true h)
    go Timed e h = timed (same o.side b.session.passive) h
    go Rolling e h = eq_z-true o.price P h
    go Fbs e h = absurd (false≢true (sym (ap in_session e) ∙ s))

-- in the FBS Period they are at the best prices, which meet
at-best : (b : Board) (o : Order) (s : Side) → o.side ≡ s → entitled_in Fbs b o ≡ true → (meet b.orders ≡ true) × (best s b.orders ≡ Some o.price)
at-best b o s e h =
    let p = and_parts (meet b.orders) (is_at o.price (best o.side b.orders)) h in
    (p.0, ap (λ (t : Side). best t b.orders) (sym e) ∙ go (best o.side b.orders) p.1)
  where
    go : (r : Option ℤ) → is_at o.price r ≡ true → r ≡ Some o.price
    go None h = absurd (false≢true h)
    go (Some p) h = ap (λ (z : ℤ). Some z) (sym (eq_z-true o.price p h))

level : (p q r : ℤ) → p ≡ r → q ≡ r → p ≤ℤ q
level p q r e f = grind (arith, ints)

crossing : (os : List Order) (p q : ℤ) → meet os ≡ true → best Bid os ≡ Some p → best Offer os ≡ Some q → q ≤ℤ p
unfolding meet
crossing os p q h e f =
    let g : le_z q p ≡ true = sym (ap (λ (r : Option ℤ). cross (Some p) r) f) ∙ sym (ap (λ (r : Option ℤ). cross r (best Offer os)) e) ∙ h in
    grind (arith, ints)

pair-meets : (b : Board) (x y : Order) → Orderly b → first_entitled b Bid ≡ Some x → first_entitled b Offer ≡ Some y → Meets x y
pair-meets b x y q e f =
    record { bids = i.1; offers = j.1; met = go b.phase refl i.2 j.2 }
  where
    i : In x b.orders × (x.side ≡ Bid) × (entitled_in b.phase b x ≡ true)
    i = first-entitled b Bid x e

    j : In y b.orders × (y.side ≡ Offer) × (entitled_in b.phase b y ≡ true)
    j = first-entitled b Offer y f

    session : in_session b.phase ≡ true → y.price ≤ℤ x.price
    session s = level y.price x.price b.session.price (at-price b y q j.0 s j.2) (at-price b x q i.0 s i.2)

    go : (p : Phase) → b.phase ≡ p → entitled_in p b x ≡ true → entitled_in p b y ≡ true → y.price ≤ℤ x.price
    go Open pe h k = absurd (false≢true h)
    go Timed pe h k = session (ap in_session pe)
    go Rolling pe h k = session (ap in_session pe)
    go Fbs pe h k =
        let u = at-best b x Bid i.1 h in
        let v = at-best b y Offer j.1 k in crossing b.orders x.price y.price u.0 u.1 v.1

same-fill : (t u : ℕ) (f g : Fill) → FillRecord t f ≡ FillRecord u g → f ≡ g
same-fill t u f g e = cc

of_two : (k : Opening) (S : State) (d : Step) (t : ℕ) (f : Fill) → Orderly S.board → Why k S.board d → record_of S.hidden S.board d ≡ FillRecord t f →
    OfTwo S.board f
unfolding record_of fill_of
of_two k S (begins x y) t f q w e = let z : ◌≡◌ {A = ℕ} 0 1 = cc in absurd (omega arith)
of_two k S (fills x y) t f q w e =
    let i = first-entitled S.board Bid x w.0 in
    let j = first-entitled S.board Offer y w.1 in
    let m = pair-meets S.board x y q w.0 w.1 in
    record {
      bid = x;
      offer = y;
      bids = i.0;
      offers = j.0;
      bid_number = ap (λ (g : Fill). g.bid) (same-fill _ t _ f e);
      offer_number = ap (λ (g : Fill). g.offer) (same-fill _ t _ f e);
      meets = m;
      traders = q.apart x y i.0 j.0 m;
      incoming = λ p. q.incoming (ap in_session p) x y i.0 j.0 m;
    }
of_two k S (removes o c) t f q w e = let z : ◌≡◌ {A = ℕ} 0 1 = cc in absurd (omega arith)
of_two k S (turns u) t f q w e = absurd (go S.board.phase e)
  where
    go : (p : Phase) → turn_record p u ≡ FillRecord t f → ⊥
    go Open e = let z : ◌≡◌ {A = ℕ} 0 1 = cc in omega arith
    go Timed e = let z : ◌≡◌ {A = ℕ} 0 1 = cc in omega arith
    go Rolling e = let z : ◌≡◌ {A = ℕ} 0 1 = cc in omega arith
    go Fbs e = let z : ◌≡◌ {A = ℕ} 0 1 = cc in omega arith
of_two k S (expires o u) t f q w e = let z : ◌≡◌ {A = ℕ} 0 1 = cc in absurd (omega arith)
of_two k S rests t f q w e = let z : ◌≡◌ {A = ℕ} 0 1 = cc in absurd (omega arith)

pub fills-of-two : FillsOfTwo
unfolding step draw
fills-of-two k cs t f e =
    let S = run k opened cs in
    let g : record_of S.hidden S.board (decided k S.board) ≡ FillRecord t f = cc in
    of_two k S (decided k S.board) t f (orderly k cs) (why k S.board) g
