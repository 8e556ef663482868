-- Every call keeps the book orderly, and so does every run of calls. Assumes nothing.
use Rattle.std.proofs.Common.{◌≡◌, ℕ, Bool, true, false, cond, not, ◌&&◌, eqb, ltb, ◌⊎◌, List, [], ◌∷◌, ℤ, ◌≤ℤ◌, Some, None, Option, sym, refl, ap, ◌∙◌, subst, inl, inr, arith}
use Rattle.std.proofs.lemmas.Bool.{true≢false, false≢true, both_ways, not-true, not-false, and_parts, and_from, or_parts, eq-eqb}
use Rattle.market.specs.declared.order.Side.{Side}
use Rattle.market.specs.declared.order.Side.TheVariants.{Bid, Offer}
use Rattle.market.specs.declared.order.Order.{Order}
use Rattle.market.specs.declared.state.Phase.{Phase}
use Rattle.market.specs.declared.state.Phase.TheVariants.{Open, Timed, Rolling, Fbs}
use Rattle.market.specs.declared.state.Session.{Session}
use Rattle.market.specs.declared.call.OrderEntry.{OrderEntry}
use Rattle.market.specs.declared.call.OrderChange.{OrderChange}
use Rattle.market.specs.declared.call.Call.{Call}
use Rattle.market.specs.declared.call.Call.TheVariants.{Entry, Change, Cancel, Tick, Draw}
use Rattle.rules.specs.Base.{eq_z, is_some}
use Rattle.rules.specs.Board.{Opening, Board, State, on, other, better, meet, in_session, is_open}
use Rattle.rules.specs.Entitlement.{entitled_in, entitled, first_entitled}
use Rattle.rules.specs.Fills.{session_after, filled_board}
use Rattle.rules.specs.Draws.{Step, begins, fills, removes, turns, expires, rests, incoming_of, phase_after, removed_board, turned_board, rested_board, decided, board_after, draw}
use Rattle.rules.specs.Refusing.{would_meet, own_meets, entry_price, is_size, owned, entry_refusal, change_refusal, cancel_refusal, tick_refusal}
use Rattle.rules.specs.Calls.{takes_stamp, entered, entered_board, changed, changed_board, cancelled_board, ticked_board, entered_state, changed_state, cancelled_state, step, run, opened}
use Rattle.rules.specs.Members.{In}
use Rattle.rules.specs.Rising.{Ascends}
use Rattle.rules.proofs.Tests.{some_inj, eq_z-true, eq-eq_z, eq-same}
use Rattle.rules.proofs.Members.{not-any, in-push}
use Rattle.rules.proofs.Rows.{in-ordered, in-replace}
use Rattle.rules.proofs.Prices.{better-self}
use Rattle.rules.proofs.Reasons.{opens, Unpaired, Turns, Why, why}
use Rattle.invariants.specs.Sound.{Sound}
use Rattle.invariants.specs.Orderly.{Meets, Incoming, Traded, JustBegun, Orderly, StaysOrderly}
use Rattle.invariants.proofs.Fills.{Left, left-whole}
use Rattle.invariants.proofs.Drawn.{after, taken, without_in}
use Rattle.invariants.proofs.Passes.{EntryPasses, entry-passes, owned_in, ChangePasses, change-passes, cancel-passes, tick-passes}
use Rattle.invariants.proofs.Sounds.{reply-keeps, call-sound, opened-sound}
use Rattle.invariants.proofs.Rests.{Rest, rest-rests, no-pair}
use Rattle.invariants.proofs.Steady.{Steady, unmet, end-shut, call-steady, opened-steady}
use Rattle.invariants.proofs.Crossings.{meets-meet, both_at, would-not}
use Rattle.invariants.proofs.Beginnings.{there-is, begun-orderly}

-- ---- the same orders, or what is left of them

left_meets : (o p x y : Order) → Left o x → Left p y → Meets x y → Meets o p
left_meets o p x y l k m =
    record { bids = sym l.side ∙ m.bids; offers = sym k.side ∙ m.offers; met = subst (λ (z : ℤ). z ≤ℤ o.price) k.price (subst (λ (z : ℤ). y.price ≤ℤ z) l.price m.met) }

left-worse : (o x : Order) (p p' : ℤ) → Left o x → p' ≡ p → better o.side o.price p ≡ false → better x.side x.price p' ≡ false
left-worse o x p p' l e h = ap (λ (s : Side). better s x.price p') l.side ∙ ap (λ (z : ℤ). better o.side z p') l.price ∙ ap (better o.side o.price) e ∙ h

-- a board with the same phase, price, passive side and incoming order, whose orders are left of those of another
record Follows (b b' : Board) : Type 0 where
  phase : b'.phase ≡ b.phase
  price : b'.session.price ≡ b.session.price
  passive : b'.session.passive ≡ b.session.passive
  named : b'.counters.incoming ≡ b.counters.incoming
  from : (z : Order) → In z b'.orders → (o : Order) × In o b.orders × Left o z

follows-orderly : (b b' : Board) → Orderly b → Follows b b' → (is_open b'.phase ≡ false → Traded b'.session ⊎ JustBegun b') → Orderly b'
follows-orderly b b' q f traded =
    record {
      incoming = λ h x y i j m.
          let r = f.from x i in
          let t = f.from y j in
          named x y r.0 t.0 r.2 t.2
          (q.incoming (ap in_session (sym f.phase) ∙ h) r.0 t.0 r.1 t.1 (left_meets r.0 t.0 x y r.2 t.2 m));
      worse = λ h x i.
          let r = f.from x i in
          left-worse r.0 x b.session.price b'.session.price r.2 f.price
          (q.worse (ap in_session (sym f.phase) ∙ h) r.0 r.1);
      apart = λ x y i j m e.
          let r = f.from x i in
          let t = f.from y j in
          q.apart r.0 t.0 r.1 t.1 (left_meets r.0 t.0 x y r.2 t.2 m) (sym r.2.trader ∙ e ∙ t.2.trader);
      prior = λ h x i p.
          let r = f.from x i in
          let a = q.prior (ap in_session (sym f.phase) ∙ h) r.0 r.1 (r.2.prior p) in
          (r.2.side ∙ a.0 ∙ sym f.passive, r.2.price ∙ a.1 ∙ sym f.price);
      traded = traded;
    }
  where
    named : (x y o p : Order) → Left o x → Left p y → Incoming b o ⊎ Incoming b p → Incoming b' x ⊎ Incoming b' y
    named x y o p l k (inl e) = inl (f.named ∙ e ∙ ap (λ (n : ℕ). Some n) (sym l.number))
    named x y o p l k (inr e) = inr (f.named ∙ e ∙ ap (λ (n : ℕ). Some n) (sym k.number))

-- ---- a draw

-- a session that has just begun has a pair
paired : (b : Board) → JustBegun b → Unpaired b → ⊥
paired b j (inl e) = false≢true (sym (ap is_some e) ∙ j.bid)
paired b j (inr e) = false≢true (sym (ap is_some e) ∙ j.offer)

had : (b : Board) → Orderly b → is_open b.phase ≡ false → Unpaired b → Traded b.session
had b q h u = go (q.traded h)
  where
    go : Traded b.session ⊎ JustBegun b → Traded b.session
    go (inl t) = t
    go (inr j) = absurd (paired b j u)

filled-orderly : (k : Opening) (S : State) (x y : Order) → Sound k S → Orderly S.board → first_entitled S.board Bid ≡ Some x →
    first_entitled S.board Offer ≡ Some y → Orderly (after S (fills x y)).board
unfolding board_after filled_board session_after
filled-orderly k S x y s q e f =
    follows-orderly S.board (after S (fills x y)).board q
    (record { phase = refl; price = refl; passive = refl; named = refl; from = (taken k S x y s e f).from })
    (λ h. inl (go (in_session S.board.phase) refl (q.traded h)))
  where
    b : Board
    b = S.board

    go : (p : Bool) → in_session b.phase ≡ p → Traded b.session ⊎ JustBegun b → Traded (after S (fills x y)).board.session
    go true pe t = record { buyer = rw pe refl; seller = rw pe refl }
    go false pe (inl t) = record { buyer = rw pe t.buyer; seller = rw pe t.seller }
    go false pe (inr j) = absurd (true≢false (sym (ap in_session j.timed) ∙ pe))

removed-orderly : (b : Board) (t : ℕ) (o : Order) → Orderly b → Unpaired b → Orderly (removed_board b t o)
unfolding removed_board
removed-orderly b t o q u =
    follows-orderly b (removed_board b t o) q
    (record { phase = refl; price = refl; passive = refl; named = refl; from = λ z i. (z, without_in o.number b.orders z i, left-whole z) })
    (λ h. inl (had b q h u))

-- in Rolling prices meet only at the session's price
pub rolling-unmet : (b : Board) → b.phase ≡ Rolling → Orderly b → Unpaired b → (x y : Order) → In x b.orders → In y b.orders → Meets x y → ⊥
rolling-unmet b e q u x y i j m = go u
  where
    s : in_session b.phase ≡ true
    s = ap in_session e

    at : (x.price ≡ b.session.price) × (y.price ≡ b.session.price)
    at = both_at x y b.session.price (q.worse s x i) (q.worse s y j) m

    may : (t : Side) (o : Order) → In o b.orders → o.side ≡ t → o.price ≡ b.session.price → is_some (first_entitled b t) ≡ true
    may t o l f g = unfold entitled in
        there-is b t o l
        (and_from (on t o) (entitled_in b.phase b o) (eq-same t o.side f)
        (subst (λ (p : Phase). entitled_in p b o ≡ true) (sym e) (eq-eq_z o.price b.session.price g)))

    go : Unpaired b → ⊥
    go (inl n) = false≢true (sym (ap is_some n) ∙ may Bid x i m.bids at.0)
    go (inr n) = false≢true (sym (ap is_some n) ∙ may Offer y j m.offers at.1)

turned-orderly : (k : Opening) (b : Board) (t : ℕ) → Orderly b → Turns k b t → Orderly (turned_board b t)
unfolding turned_board
turned-orderly k b t q w =
    record {
      incoming = λ h x y i j m. absurd (no-meeting b.phase refl h x y i j m);
      worse = λ h. q.worse (was-session b.phase h);
      apart = q.apart;
      prior = λ h. q.prior (was-session b.phase h);
      traded = λ h. inl (kept (had b q (end-shut b.phase k.settings b.session t w.ends) w.idle.unpaired));
    }
  where
    was-session : (p : Phase) → in_session (phase_after p) ≡ true → in_session p ≡ true
    was-session Open h = absurd (false≢true h)
    was-session Timed h = refl
    was-session Rolling h = refl
    was-session Fbs h = absurd (false≢true h)

    kept : Traded b.session → Traded (turned_board b t).session
    kept d = record { buyer = d.buyer; seller = d.seller }

    no-meeting : (p : Phase) → b.phase ≡ p → in_session (phase_after p) ≡ false → (x y : Order) → In x b.orders → In y b.orders → Meets x y → ⊥
    no-meeting Open e h x y i j m = true≢false (sym (ap is_open e) ∙ end-shut b.phase k.settings b.session t w.ends)
    no-meeting Timed e h x y i j m = true≢false h
    no-meeting Rolling e h x y i j m = rolling-unmet b e q w.idle.unpaired x y i j m
    no-meeting Fbs e h x y i j m = both_ways (meet b.orders) (unmet b e w.idle.unpaired) (meets-meet b.orders x y i j m)

rested-orderly : (b : Board) → Orderly b → Unpaired b → Orderly (rested_board b)
unfolding rested_board
rested-orderly b q u =
    follows-orderly b (rested_board b) q (record { phase = refl; price = refl; passive = refl; named = refl; from = λ z i. (z, i, left-whole z) })
    (λ h. inl (kept (had b q h u)))
  where
    kept : Traded b.session → Traded (rested_board b).session
    kept d = record { buyer = d.buyer; seller = d.seller }

-- a book that begins a session is not quiet
unquiet : (k : Opening) (S : State) (x y : Order) → Steady k S → Why k S.board (begins x y) → (p : Bool) → S.board.clock.quiet ≡ p → p ≡ false
unquiet k S x y r w true e = absurd (false≢true (rest-rests k S.board (begins x y) (r.calm e) w))
unquiet k S x y r w false e = refl

step-orderly : (k : Opening) (S : State) (d : Step) → Sound k S → Steady k S → Orderly S.board → Why k S.board d → Orderly (after S d).board
unfolding board_after
step-orderly k S (begins x y) s r q w =
    begun-orderly S.board S.board.counters.number x y s.row.rising q w (unquiet k S x y r w S.board.clock.quiet refl)
step-orderly k S (fills x y) s r q w = filled-orderly k S x y s q w.0 w.1
step-orderly k S (removes o c) s r q w = removed-orderly S.board S.board.clock.time o q w.0.unpaired
step-orderly k S (turns t) s r q w = turned-orderly k S.board t q w
step-orderly k S (expires o t) s r q w = removed-orderly S.board t o q w.idle.unpaired
step-orderly k S rests s r q w = rested-orderly S.board q w.unpaired

-- ---- a quiet book

-- outside a session no live orders meet
pub quiet-unmet : (k : Opening) (b : Board) (n : ℕ) → Ascends 1 n b.orders → Rest k b → Orderly b → in_session b.phase ≡ false →
    (x y : Order) → In x b.orders → In y b.orders → Meets x y → ⊥
quiet-unmet k b n up r q h x y i j m = go b.phase refl
  where
    there : (o : Order) → In o b.orders → Incoming b o → is_some (incoming_of b.counters.incoming b.orders) ≡ true
    there o l e =
        ap is_some (ap (λ (c : Option ℕ). incoming_of c b.orders) e ∙ in-ordered 1 n b.orders o up l)

    live : Incoming b x ⊎ Incoming b y → is_some (incoming_of b.counters.incoming b.orders) ≡ true
    live (inl e) = there x i e
    live (inr e) = there y j e

    met : meet b.orders ≡ true
    met = meets-meet b.orders x y i j m

    go : (p : Phase) → b.phase ≡ p → ⊥
    go Open e =
        both_ways (opens b) r.closed
        (and_from (is_open b.phase && meet b.orders) _ (and_from (is_open b.phase) (meet b.orders) (ap is_open e) met) (live (q.incoming h x y i j m)))
    go Timed e = true≢false (sym (ap in_session e) ∙ h)
    go Rolling e = true≢false (sym (ap in_session e) ∙ h)
    go Fbs e = both_ways (meet b.orders) (unmet b e (no-pair b r.unpaired)) met

-- and every session has had a fill
pub quiet-traded : (k : Opening) (b : Board) → Rest k b → Orderly b → is_open b.phase ≡ false → Traded b.session
quiet-traded k b r q h = had b q h (no-pair b r.unpaired)

-- so in Rolling and the FBS Period, and once the session has been quiet, it has had a fill
pub traded-later : (b : Board) → Orderly b → is_open b.phase ≡ false → ¬ (b.phase ≡ Timed) ⊎ (b.session.settled ≡ true) → Traded b.session
traded-later b q h late = go (q.traded h) late
  where
    go : Traded b.session ⊎ JustBegun b → ¬ (b.phase ≡ Timed) ⊎ (b.session.settled ≡ true) → Traded b.session
    go (inl t) l = t
    go (inr j) (inl n) = absurd (n j.timed)
    go (inr j) (inr s) = absurd (both_ways b.session.settled j.unsettled s)

-- ---- entry

own-meets : (os : List Order) (t : ℕ) (s : Side) (p : ℤ) (z o : Order) → own_meets os t s p ≡ false → In o os → o.trader ≡ t → o.side ≡ other s →
    z.side ≡ s → z.price ≡ p → (Meets z o → ⊥) × (Meets o z → ⊥)
unfolding own_meets
own-meets os t s p z o h i e f g l =
    would-not s z o g (subst (λ (p : ℤ). would_meet s p o.price ≡ false) (sym l) (go (would_meet s p o.price) refl))
  where
    go : (q : Bool) → would_meet s p o.price ≡ q → q ≡ false
    go false qe = refl
    go true qe =
        absurd (not-any (λ o. eqb o.trader t && (on (other s) o && would_meet s p o.price)) os h o i
        (and_from (eqb o.trader t) _ (eq-eqb o.trader t e) (and_from (on (other s) o) _ (eq-same (other s) o.side f) qe)))

facing : (s : Side) (x y : Order) → Meets x y → (x.side ≡ s → y.side ≡ other s) × (y.side ≡ s → x.side ≡ other s)
facing Bid x y m = (λ e. m.offers, λ e. let f = sym e ∙ m.offers in let z : ◌≡◌ {A = ℕ} 0 1 = cc in absurd (omega arith))
facing Offer x y m = (λ e. let f = sym e ∙ m.bids in let z : ◌≡◌ {A = ℕ} 0 1 = cc in absurd (omega arith), λ e. m.bids)

not_itself : (x : Order) → Meets x x → ⊥
not_itself x m = let f = sym m.bids ∙ m.offers in let z : ◌≡◌ {A = ℕ} 0 1 = cc in omega arith

entry-worse : (b : Board) (s : Side) (p : ℤ) → in_session b.phase ≡ true → better s (entry_price b s p) b.session.price ≡ false
unfolding entry_price
entry-worse b s p h = go (in_session b.phase && better s p b.session.price) refl
  where
    go : (q : Bool) → in_session b.phase && better s p b.session.price ≡ q → better s (cond q b.session.price p) b.session.price ≡ false
    go true qe = better-self s b.session.price
    go false qe = sym (ap (λ (v : Bool). v && better s p b.session.price) h) ∙ qe

-- one order more, or in another's place: it is the incoming one, no better than the session's price, and does not meet its trader's others
record Written (b : Board) (os : List Order) (z : Order) : Type 0 where
  others : (p : Order) → In p os → In p b.orders ⊎ (p ≡ z)
  worse : in_session b.phase ≡ true → better z.side z.price b.session.price ≡ false
  own : (o : Order) → In o b.orders → o.trader ≡ z.trader → (Meets z o → ⊥) × (Meets o z → ⊥)
  prior : in_session b.phase ≡ true → z.prior ≡ true → (z.side ≡ b.session.passive) × (z.price ≡ b.session.price)

written-orderly : (k : Opening) (b b' : Board) (n : ℕ) (z : Order) → Ascends 1 n b.orders → Rest k b → Orderly b → Written b b'.orders z →
    b'.phase ≡ b.phase → b'.session ≡ b.session → b'.counters.incoming ≡ Some z.number → Orderly b'
written-orderly k b b' n z up r q w e f g =
    record {
      incoming = λ h x y i j m. named (ap in_session (sym e) ∙ h) x y m (w.others x i) (w.others y j);
      worse = λ h x i. subst (λ (c : Session). better x.side x.price c.price ≡ false) (sym f) (worse (ap in_session (sym e) ∙ h) x (w.others x i));
      apart = λ x y i j m t. apart x y m t (w.others x i) (w.others y j);
      prior = λ h x i p.
          subst (λ (c : Session). (x.side ≡ c.passive) × (x.price ≡ c.price)) (sym f) (prior (ap in_session (sym e) ∙ h) x p (w.others x i));
      traded = λ h. inl (subst Traded (sym f) (quiet-traded k b r q (ap is_open (sym e) ∙ h)));
    }
  where
    is-named : (x : Order) → x ≡ z → Incoming b' x
    is-named x i = g ∙ ap (λ (o : Order). Some o.number) (sym i)

    named : in_session b.phase ≡ false → (x y : Order) → Meets x y → In x b.orders ⊎ (x ≡ z) → In y b.orders ⊎ (y ≡ z) →
        Incoming b' x ⊎ Incoming b' y
    named h x y m (inl i) (inl j) = absurd (quiet-unmet k b n up r q h x y i j m)
    named h x y m (inr i) j = inl (is-named x i)
    named h x y m (inl i) (inr j) = inr (is-named y j)

    worse : in_session b.phase ≡ true → (x : Order) → In x b.orders ⊎ (x ≡ z) → better x.side x.price b.session.price ≡ false
    worse h x (inl i) = q.worse h x i
    worse h x (inr i) = subst (λ (o : Order). better o.side o.price b.session.price ≡ false) (sym i) (w.worse h)

    apart : (x y : Order) → Meets x y → x.trader ≡ y.trader → In x b.orders ⊎ (x ≡ z) → In y b.orders ⊎ (y ≡ z) → ⊥
    apart x y m t (inl i) (inl j) = q.apart x y i j m t
    apart x y m t (inl i) (inr j) = (w.own x i (t ∙ ap (λ (o : Order). o.trader) j)).1 (subst (Meets x) j m)
    apart x y m t (inr i) (inl j) =
        (w.own y j (sym t ∙ ap (λ (o : Order). o.trader) i)).0 (subst (λ (o : Order). Meets o y) i m)
    apart x y m t (inr i) (inr j) = not_itself x (subst (Meets x) (j ∙ sym i) m)

    prior : in_session b.phase ≡ true → (x : Order) → x.prior ≡ true → In x b.orders ⊎ (x ≡ z) →
        (x.side ≡ b.session.passive) × (x.price ≡ b.session.price)
    prior h x p (inl i) = q.prior h x i p
    prior h x p (inr i) =
        subst (λ (o : Order). (o.side ≡ b.session.passive) × (o.price ≡ b.session.price)) (sym i)
        (w.prior h (subst (λ (o : Order). o.prior ≡ true) i p))

entered-orderly : (k : Opening) (S : State) (e : OrderEntry) → Sound k S → Steady k S → Orderly S.board → EntryPasses k S.board e →
    Orderly (entered_state S e).board
unfolding entered_board entered
entered-orderly k S e s r q t =
    written-orderly k b (entered_board b e) b.counters.number z s.row.rising (r.calm t.quiet) q
    (record {
      others = in-push b.orders z;
      worse = entry-worse b e.side e.price;
      own = λ o i f. (λ m. (own o i f ((facing e.side z o m).0 refl)).0 m, λ m. (own o i f ((facing e.side o z m).1 refl)).1 m);
      prior = λ h p. absurd (false≢true p);
    }) refl refl refl
  where
    b : Board
    b = S.board

    z : Order
    z = entered e S.board.counters.number S.board.counters.stamp (entry_price S.board e.side e.price)

    own : (o : Order) → In o b.orders → o.trader ≡ e.trader → o.side ≡ other e.side → (Meets z o → ⊥) × (Meets o z → ⊥)
    own o i f g = own-meets b.orders e.trader e.side (entry_price b e.side e.price) z o t.own i f g refl refl

-- ---- change

changed-orderly : (k : Opening) (S : State) (c : OrderChange) (o : Order) → Sound k S → Steady k S → Orderly S.board → ChangePasses k S.board c o →
    In o S.board.orders → o.trader ≡ c.trader → Orderly (changed_state S c (Some o)).board
unfolding changed_board changed
changed-orderly k S c o s r q t i w =
    written-orderly k b (changed_board b c o) b.counters.number z s.row.rising (r.calm t.quiet) q
    (record {
      others = λ p j. others p (in-replace o.number (Some z) b.orders p j);
      worse = λ h. sym (ap (λ (v : Bool). v && better o.side c.price b.session.price) h) ∙ t.better;
      own = λ p j f. (λ m. (own p j (f ∙ w) ((facing o.side z p m).0 refl)).0 m, λ m. (own p j (f ∙ w) ((facing o.side p z m).1 refl)).1 m);
      prior = λ h p. prior h (and_parts (not (takes_stamp c o)) o.prior p);
    }) refl refl refl
  where
    b : Board
    b = S.board

    z : Order
    z = changed c (takes_stamp c o) S.board.counters.stamp o

    others : (p : Order) → (Some z ≡ Some p) ⊎ (In p b.orders × ¬ (p.number ≡ o.number)) → In p b.orders ⊎ (p ≡ z)
    others p (inl e) = inr (sym (some_inj e))
    others p (inr j) = inl j.0

    own : (p : Order) → In p b.orders → p.trader ≡ c.trader → p.side ≡ other o.side → (Meets z p → ⊥) × (Meets p z → ⊥)
    own p j f g = own-meets b.orders c.trader o.side c.price z p t.own j f g refl refl

    prior : in_session b.phase ≡ true → (not (takes_stamp c o) ≡ true) × (o.prior ≡ true) → (o.side ≡ b.session.passive) × (c.price ≡ b.session.price)
    prior h p =
        let a = q.prior h o i p.1 in
        let d = or_parts (not (eq_z c.price o.price)) (ltb o.displayed c.displayed) (not-true (takes_stamp c o) p.0) in
        (a.0, eq_z-true c.price o.price (not-false (eq_z c.price o.price) d.0) ∙ a.1)

-- ---- cancel and tick

cancelled-orderly : (k : Opening) (b : Board) (o : Order) → Rest k b → Orderly b → Orderly (cancelled_board b o)
unfolding cancelled_board
cancelled-orderly k b o r q =
    follows-orderly b (cancelled_board b o) q
    (record { phase = refl; price = refl; passive = refl; named = refl; from = λ z i. (z, without_in o.number b.orders z i, left-whole z) })
    (λ h. inl (quiet-traded k b r q h))

ticked-orderly : (k : Opening) (b : Board) (t : ℕ) → Rest k b → Orderly b → Orderly (ticked_board b t)
unfolding ticked_board
ticked-orderly k b t r q =
    follows-orderly b (ticked_board b t) q (record { phase = refl; price = refl; passive = refl; named = refl; from = λ z i. (z, i, left-whole z) })
    (λ h. inl (quiet-traded k b r q h))

-- ---- every call

call-orderly : (k : Opening) (S : State) (c : Call) → Sound k S → Steady k S → Orderly S.board → Orderly (step k S c).1.board
unfolding step
call-orderly k S (Entry e) s r q =
    reply-keeps (λ S. Orderly S.board) (entry_refusal k S.board e (is_size k e.reserve)) _ S (entered_state S e) q
    (λ f. entered-orderly k S e s r q (entry-passes k S.board e f))
call-orderly k S (Change c) s r q =
    reply-keeps (λ S. Orderly S.board) (change_refusal k S.board c (is_size k c.reserve)) _ S
    (changed_state S c (owned S.board c.trader c.number)) q (λ f. go f (owned S.board c.trader c.number) refl)
  where
    go : change_refusal k S.board c (is_size k c.reserve) ≡ None → (o : Option Order) → owned S.board c.trader c.number ≡ o →
        Orderly (changed_state S c o).board
    go f None e = q
    go f (Some o) e =
        let i = owned_in S.board c.trader c.number o e in
        changed-orderly k S c o s r q (change-passes k S.board c o f e) i.0 i.2
call-orderly k S (Cancel c) s r q =
    reply-keeps (λ S. Orderly S.board) (cancel_refusal S.board c.trader c.number) _ S
    (cancelled_state S (owned S.board c.trader c.number)) q
    (λ f. go (r.calm (cancel-passes S.board c.trader c.number f)) (owned S.board c.trader c.number))
  where
    go : Rest k S.board → (o : Option Order) → Orderly (cancelled_state S o).board
    go w None = q
    go w (Some o) = cancelled-orderly k S.board o w q
call-orderly k S (Tick t) s r q =
    reply-keeps (λ S. Orderly S.board) (tick_refusal S.board t) _ S (record { board = ticked_board S.board t; hidden = S.hidden }) q
    (λ f. ticked-orderly k S.board t (r.calm (tick-passes S.board t f).quiet) q)
call-orderly k S Draw s r q = unfold draw in step-orderly k S (decided k S.board) s r q (why k S.board)

-- ---- every run

run-orderly : (k : Opening) (S : State) (cs : List Call) → Sound k S → Steady k S → Orderly S.board → Orderly (run k S cs).board
unfolding run
run-orderly k S [] s r q = q
run-orderly k S (c ∷ cs) s r q = run-orderly k (step k S c).1 cs (call-sound k S c s) (call-steady k S c r) (call-orderly k S c s r q)

opened-orderly : Orderly opened.board
unfolding opened
opened-orderly =
    record {
      incoming = λ h x y i j m. absurd i;
      worse = λ h x i. absurd i;
      apart = λ x y i j m e. i;
      prior = λ h x i p. absurd i;
      traded = λ h. absurd (true≢false h);
    }

pub orderly : StaysOrderly
orderly k cs = run-orderly k opened cs (opened-sound k) (opened-steady k) opened-orderly
