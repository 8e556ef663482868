-- A quiet book has nothing left to do, and a session can begin only at the wished time. Assumes nothing.
use Rattle.std.proofs.Common.{◌≡◌, ℕ, true, false, ◌&&◌, ◌⊎◌, List, [], ◌∷◌, ℤ, Some, None, Option, refl, ap, ◌∙◌, inl, inr}
use Rattle.std.proofs.lemmas.Bool.{true≢false, false≢true, both_ways, and_parts, and_from, and_left}
use Rattle.market.specs.declared.settings.Settings.{Settings}
use Rattle.market.specs.declared.order.Side.{Side}
use Rattle.market.specs.declared.order.Side.TheVariants.{Bid, Offer}
use Rattle.market.specs.declared.order.Order.{Order}
use Rattle.market.specs.declared.state.Phase.{Phase}
use Rattle.market.specs.declared.state.Phase.TheVariants.{Open, Timed, Rolling, Fbs}
use Rattle.market.specs.declared.state.Session.{Session}
use Rattle.market.specs.declared.call.Call.{Call}
use Rattle.market.specs.declared.call.Call.TheVariants.{Entry, Change, Cancel, Tick, Draw}
use Rattle.rules.specs.Base.{is_some, find}
use Rattle.rules.specs.Board.{Opening, Board, State, on, best, meet, is_open, numbered, ordered}
use Rattle.rules.specs.Entitlement.{is_at, entitled_in, entitled, first_entitled}
use Rattle.rules.specs.Fills.{replace, filled_board}
use Rattle.rules.specs.Draws.{Step, begins, fills, removes, turns, expires, rests, incoming_of, phase_end, phase_after, begun_board, removed_board, turned_board, rested_board, decided, board_after, draw}
use Rattle.rules.specs.Refusing.{is_size, owned, entry_refusal, change_refusal, cancel_refusal, tick_refusal}
use Rattle.rules.specs.Calls.{entered_board, changed_board, cancelled_board, ticked_board, entered_state, changed_state, cancelled_state, step, run, opened}
use Rattle.rules.specs.Opened.{rules}
use Rattle.rules.specs.Members.{In}
use Rattle.rules.proofs.Tests.{none≢some, is-some, eq-same, eq-eq_z}
use Rattle.rules.proofs.Members.{find-in, in-found}
use Rattle.rules.proofs.Firsts.{first-none}
use Rattle.rules.proofs.Prices.{best_none, best-some, meet-crossed, crossed-meet}
use Rattle.rules.proofs.Reasons.{opens_in, opens, Unpaired, Why, why}
use Rattle.invariants.proofs.Drawn.{after, first-entitled, without_in}
use Rattle.invariants.proofs.Passes.{tick-passes}
use Rattle.invariants.proofs.Rests.{refuted, Rest, is_rest, at_rest, rest-rests, rest-stays}
use Rattle.invariants.proofs.Sounds.{reply-keeps}

pub record Steady (k : Opening) (S : State) : Type 0 where
  pub calm : S.board.clock.quiet ≡ true → Rest k S.board
  pub arrived : S.board.clock.quiet ≡ true → S.board.clock.time ≡ S.board.clock.wished
  pub ready : (opens S.board ≡ false) ⊎ (S.board.clock.wished ≡ S.board.clock.time)

-- ---- when a session can begin

pub shut : (p : Phase) (n : Option ℕ) (os : List Order) → is_open p ≡ false → opens_in p n os ≡ false
shut p n os e = rw e refl

-- without an order nothing begins that did not before
fewer-meet : (n : ℕ) (os : List Order) → meet (replace n None os) ≡ true → meet os ≡ true
fewer-meet n os h =
    let c = meet-crossed (replace n None os) h in
    crossed-meet os (record {
      bid = c.bid;
      offer = c.offer;
      bids = without_in n os c.bid c.bids;
      offers = without_in n os c.offer c.offers;
      is_bid = c.is_bid;
      is_offer = c.is_offer;
      crossed = c.crossed;
    })

fewer-incoming : (r : Option ℕ) (n : ℕ) (os : List Order) → is_some (incoming_of r (replace n None os)) ≡ true → is_some (incoming_of r os) ≡ true
unfolding ordered
fewer-incoming None n os h = h
fewer-incoming (Some m) n os h =
    let r = is-some (find (numbered m) (replace n None os)) h in
    let i = find-in (numbered m) (replace n None os) r.0 r.1 in
    let f = in-found (numbered m) os r.0 (without_in n os r.0 i.0) i.1 in ap is_some f.1

pub fewer-opens : (p : Phase) (r : Option ℕ) (n : ℕ) (os : List Order) → opens_in p r os ≡ false → opens_in p r (replace n None os) ≡ false
fewer-opens p r n os c =
    refuted (opens_in p r (replace n None os)) λ h.
    let a = and_parts (is_open p && meet (replace n None os)) (is_some (incoming_of r (replace n None os))) h in
    let b = and_parts (is_open p) (meet (replace n None os)) a.0 in
    both_ways (opens_in p r os) c
    (and_from (is_open p && meet os) (is_some (incoming_of r os)) (and_from (is_open p) (meet os) b.0 (fewer-meet n os b.1)) (fewer-incoming r n os a.1))

-- ---- in the FBS Period a pair is there while prices meet

pub unmet : (b : Board) → b.phase ≡ Fbs → Unpaired b → meet b.orders ≡ false
unfolding first_entitled entitled
unmet b e u = refuted (meet b.orders) (λ h. go h u)
  where
    somebody : (s : Side) → meet b.orders ≡ true → (x : Order) → In x b.orders → x.side ≡ s → first_entitled b s ≡ None → ⊥
    somebody s h x i t n = at (best s b.orders) refl
      where
        at : (r : Option ℤ) → best s b.orders ≡ r → ⊥
        at None re = best_none s b.orders re x i t
        at (Some p) re =
            let o = best-some s b.orders p re in
            let ps : best o.order.side b.orders ≡ Some p = ap (λ (t : Side). best t b.orders) o.side ∙ re in
            let z : is_at o.order.price (best o.order.side b.orders) ≡ true = rw ps (eq-eq_z o.order.price p o.price) in
            let y : entitled_in Fbs b o.order ≡ true = and_from (meet b.orders) (is_at o.order.price (best o.order.side b.orders)) h z in
            first-none (entitled b s) _ b.orders n o.order o.listed
            (and_from (on s o.order) (entitled_in b.phase b o.order) (eq-same s o.order.side o.side) (rw e y))

    go : meet b.orders ≡ true → Unpaired b → ⊥
    go h (inl n) = let c = meet-crossed b.orders h in somebody Bid h c.bid c.bids c.is_bid n
    go h (inr n) = let c = meet-crossed b.orders h in somebody Offer h c.offer c.offers c.is_offer n

-- ---- a draw

-- what is entitled trades outside Open
pub entitled-shut : (p : Phase) (b : Board) (o : Order) → entitled_in p b o ≡ true → is_open p ≡ false
entitled-shut Open b o h = absurd (false≢true h)
entitled-shut Timed b o h = refl
entitled-shut Rolling b o h = refl
entitled-shut Fbs b o h = refl

pub end-shut : (p : Phase) (s : Settings) (c : Session) (t : ℕ) → phase_end p s c ≡ Some t → is_open p ≡ false
end-shut Open s c t e = absurd (none≢some e)
end-shut Timed s c t e = refl
end-shut Rolling s c t e = refl
end-shut Fbs s c t e = refl

pub turned-shut : (p : Phase) (n : Option ℕ) (os : List Order) → is_open p ≡ false → (p ≡ Fbs → meet os ≡ false) → opens_in (phase_after p) n os ≡ false
turned-shut Open n os f g = absurd (true≢false f)
turned-shut Timed n os f g = refl
turned-shut Rolling n os f g = refl
turned-shut Fbs n os f g = and_left (meet os) (is_some (incoming_of n os)) (g refl)

-- of a book with something to do the tape is not quiet
busy : (k : Opening) (S : State) (d : Step) → Steady k S → Why k S.board d → is_rest d ≡ false → S.board.clock.quiet ≡ true → ⊥
busy k S d q w n h = both_ways (is_rest d) n (rest-rests k S.board d (q.calm h) w)

step-steady : (k : Opening) (S : State) (d : Step) → Steady k S → Why k S.board d → (is_rest d ≡ true → Rest k S.board) → Steady k (after S d)
unfolding board_after begun_board filled_board removed_board turned_board rested_board
step-steady k S (begins x y) q w r = record {
  calm = λ h. absurd (busy k S (begins x y) q w refl h);
  arrived = λ h. absurd (busy k S (begins x y) q w refl h);
  ready = inl refl;
}
step-steady k S (fills x y) q w r =
    let i = first-entitled S.board Bid x w.0 in
    record {
      calm = λ h. absurd (busy k S (fills x y) q w refl h);
      arrived = λ h. absurd (busy k S (fills x y) q w refl h);
      ready = inl (shut S.board.phase _ _ (entitled-shut S.board.phase S.board x i.2));
    }
step-steady k S (removes o c) q w r =
    record {
      calm = λ h. absurd (busy k S (removes o c) q w refl h);
      arrived = λ h. absurd (busy k S (removes o c) q w refl h);
      ready = inl (fewer-opens S.board.phase S.board.counters.incoming o.number S.board.orders w.0.closed);
    }
step-steady k S (turns t) q w r =
    record {
      calm = λ h. absurd (busy k S (turns t) q w refl h);
      arrived = λ h. absurd (busy k S (turns t) q w refl h);
      ready = inl (turned-shut S.board.phase S.board.counters.incoming S.board.orders
          (end-shut S.board.phase k.settings S.board.session t w.ends) (λ e. unmet S.board e w.idle.unpaired));
    }
step-steady k S (expires o t) q w r =
    record {
      calm = λ h. absurd (busy k S (expires o t) q w refl h);
      arrived = λ h. absurd (busy k S (expires o t) q w refl h);
      ready = inl (fewer-opens S.board.phase S.board.counters.incoming o.number S.board.orders w.idle.closed);
    }
step-steady k S rests q w r = record { calm = λ h. rest-stays k S.board (r refl); arrived = λ h. refl; ready = inr refl }

-- ---- every call

pub call-steady : (k : Opening) (S : State) (c : Call) → Steady k S → Steady k (step k S c).1
unfolding step entered_board
call-steady k S (Entry e) q =
    reply-keeps (Steady k) (entry_refusal k S.board e (is_size k e.reserve)) _ S (entered_state S e) q
    (λ f. record { calm = λ h. absurd (false≢true h); arrived = λ h. absurd (false≢true h); ready = inr refl })
call-steady k S (Change c) q =
    reply-keeps (Steady k) (change_refusal k S.board c (is_size k c.reserve)) _ S (changed_state S c (owned S.board c.trader c.number)) q
    (λ f. go (owned S.board c.trader c.number))
  where
    go : (r : Option Order) → Steady k (changed_state S c r)
    go None = q
    go (Some o) = unfold changed_board in record { calm = λ h. absurd (false≢true h); arrived = λ h. absurd (false≢true h); ready = inr refl }
call-steady k S (Cancel c) q =
    reply-keeps (Steady k) (cancel_refusal S.board c.trader c.number) _ S (cancelled_state S (owned S.board c.trader c.number)) q
    (λ f. go (owned S.board c.trader c.number))
  where
    go : (r : Option Order) → Steady k (cancelled_state S r)
    go None = q
    go (Some o) = unfold cancelled_board in record { calm = λ h. absurd (false≢true h); arrived = λ h. absurd (false≢true h); ready = inr refl }
call-steady k S (Tick t) q =
    reply-keeps (Steady k) (tick_refusal S.board t) _ S (record { board = ticked_board S.board t; hidden = S.hidden }) q
    (λ f. unfold ticked_board in record { calm = λ h. absurd (false≢true h); arrived = λ h. absurd (false≢true h); ready = inl (q.calm (tick-passes S.board t f).quiet).closed })
call-steady k S Draw q = unfold draw in step-steady k S (decided k S.board) q (why k S.board) (at_rest k S.board)

pub run-steady : (k : Opening) (S : State) (cs : List Call) → Steady k S → Steady k (run k S cs)
unfolding run
run-steady k S [] q = q
run-steady k S (c ∷ cs) q = run-steady k (step k S c).1 cs (call-steady k S c q)

pub opened-steady : (k : Opening) → Steady k opened
unfolding rules
opened-steady k = record { calm = λ h. at_rest k opened.board refl; arrived = λ h. refl; ready = inr refl }
