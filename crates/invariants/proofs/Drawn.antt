-- A draw keeps the book sound. Assumes nothing.
use Rattle.std.proofs.Common.{◌≡◌, ℕ, ◌+◌, ◌≤◌, Bool, true, false, cond, ◌⊎◌, List, ℤ, Some, None, Option, sym, refl, ap, ◌∙◌, subst, inl, inr, le_trans, le_refl, arith}
use Rattle.std.proofs.lemmas.Bool.{and_parts}
use Rattle.market.specs.declared.settings.Settings.{Settings}
use Rattle.market.specs.declared.order.Side.{Side}
use Rattle.market.specs.declared.order.Side.TheVariants.{Bid, Offer}
use Rattle.market.specs.declared.order.Order.{Order}
use Rattle.market.specs.declared.state.Phase.{Phase}
use Rattle.market.specs.declared.state.Phase.TheVariants.{Open, Timed, Rolling, Fbs}
use Rattle.market.specs.declared.state.Counters.{Counters}
use Rattle.market.specs.declared.state.Session.{Session}
use Rattle.market.specs.declared.call.Call.TheVariants.{Draw}
use Rattle.rules.specs.Board.{Opening, Board, State, lot, on, other, numbered, in_session}
use Rattle.rules.specs.Standings.{ahead}
use Rattle.rules.specs.Entitlement.{entitled, entitled_in, first_entitled}
use Rattle.rules.specs.Fills.{Remainder, stays, restocks, leaves, stamp_after, replace, size_of, remainder_of, session_after, filled_board}
use Rattle.rules.specs.Draws.{Step, begins, fills, removes, turns, expires, rests, phase_end, phase_after, begun_at, started, begun_board, removed_board, turned_board, rested_board, decided, board_after, hidden_after, draw}
use Rattle.rules.specs.Refusing.{is_price}
use Rattle.rules.specs.Calls.{step}
use Rattle.rules.specs.Members.{In}
use Rattle.rules.specs.Sizes.{sizes}
use Rattle.rules.proofs.Tests.{same_true}
use Rattle.rules.proofs.Members.{in-each}
use Rattle.rules.proofs.Firsts.{first-in}
use Rattle.rules.proofs.Rows.{ascends-unique, in-replace}
use Rattle.rules.proofs.Sizes.{sizes-each, sizes-fewer}
use Rattle.rules.proofs.Reasons.{Begins, Why, why}
use Rattle.invariants.specs.Sound.{Lawful, Counted, NotPast, Sound}
use Rattle.invariants.proofs.Lots.{some-lot}
use Rattle.invariants.proofs.Orders.{row-each, row-without}
use Rattle.invariants.proofs.Fills.{Taken, two}
use Rattle.invariants.proofs.Clocks.{Onward, reached, onward}
use Rattle.invariants.proofs.Tables.{table-length, completions-length, adjust-length, privileges-length, turned-length}

-- the state after a step
abbrev pub after : State → Step → State
after S d = record { board = board_after S.hidden S.board d; hidden = hidden_after S.hidden d }

-- ---- a session begins

pub passive-in : (b : Board) (x y : Order) → Begins b x y → In y b.orders
passive-in b x y w = (first-in (on (other x.side)) (ahead b) b.orders y w.passive).0

started-lawful : (k : Opening) (r n : ℕ) (s : Side) (p : ℤ) (o : Order) → is_price p ≡ true → Lawful k r o → Lawful k r (started n s p o)
unfolding started
started-lawful k r n s p o h w =
    record {
      trader = w.trader;
      price = go (numbered n o);
      displayed = w.displayed;
      visible = w.visible;
      shown = w.shown;
      restocked = w.restocked;
      reserve = w.reserve;
    }
  where
    go : (q : Bool) → is_price (cond q p o.price) ≡ true
    go true = h
    go false = w.price

begun-sound : (k : Opening) (S : State) (x y : Order) → Sound k S → Begins S.board x y → Sound k (after S (begins x y))
unfolding board_after hidden_after begun_board started
begun-sound k S x y q w =
    let b = S.board in
    let f = started x.number y.side y.price in
    let yp = (q.row.lawful y (passive-in b x y w)).price in
    let z = sizes-each S.hidden f (λ o. refl) (λ o. refl) b.orders in
    record {
      row = row-each k b.counters.number S.hidden b.orders f q.row (λ o. refl) (λ o. refl) (λ o. refl)
          (λ o i. started-lawful k (S.hidden o.number) x.number y.side y.price o yp (q.row.lawful o i));
      counted = subst (λ (n : ℕ). Counted n b.counters) (sym z) q.counted;
      timely = record {
        wished = q.timely.wished;
        time = q.timely.time;
        since = le_refl b.clock.time;
        last = le_refl b.clock.time;
        phase = omega arith;
        ends = λ p i. let r = in-each f b.orders p i in
            subst (λ (z : Order). NotPast b.clock.time z.end) (sym r.2) (q.timely.ends r.0 r.1);
      };
      price = yp;
      completions = table-length (λ t s. None);
      privileges = table-length (λ t s. None);
    }

-- ---- a fill

pub first-entitled : (b : Board) (s : Side) (x : Order) → first_entitled b s ≡ Some x → In x b.orders × (x.side ≡ s) × (entitled_in b.phase b x ≡ true)
unfolding first_entitled entitled
first-entitled b s x e =
    let i = first-in (entitled b s) (ahead b) b.orders x e in
    let p = and_parts (on s x) (entitled_in b.phase b x) i.1 in (i.0, same_true s x.side p.0, p.1)

-- a fill takes two lots at least
pub taken : (k : Opening) (S : State) (x y : Order) → Sound k S → first_entitled S.board Bid ≡ Some x → first_entitled S.board Offer ≡ Some y →
    Taken k S.board.counters.number (lot k + lot k) S.hidden S.board.orders (after S (fills x y)).hidden (after S (fills x y)).board.orders
unfolding board_after hidden_after filled_board
taken k S x y q e f =
    let b = S.board in
    let i = first-entitled b Bid x e in
    let j = first-entitled b Offer y f in
    two k b.counters.number S.hidden b.orders x y (in_session b.phase) (b.counters.fills + 1) b.counters.stamp
    (stamp_after (remainder_of S.hidden (size_of x y) x) b.counters.stamp) q.row i.0 j.0
    (λ n. apart i.1 j.1 (ascends-unique 1 b.counters.number b.orders y x q.row.rising j.0 i.0 n))
  where
    apart : x.side ≡ Bid → y.side ≡ Offer → y ≡ x → ⊥
    apart f g i = let e : Offer ≡ Bid = sym g ∙ ap (λ (z : Order). z.side) i ∙ f in let z : ◌≡◌ {A = ℕ} 0 1 = cc in omega arith

stamp-after : (f : Remainder) (n : ℕ) → stamp_after f n ≤ n + 1
stamp-after stays n = omega arith
stamp-after (restocks m) n = omega arith
stamp-after leaves n = omega arith

-- a fill moves a phase's end on, if at all
filled-phase : (p : Phase) (s : Settings) (c : Session) (time last : ℕ) → NotPast time (phase_end p s c) → last ≡ cond (in_session p) time c.last →
    (d : Session) → d.since ≡ c.since → d.last ≡ last → NotPast time (phase_end p s d)
filled-phase Open s c time last h e d f g = tt
filled-phase Timed s c time last h e d f g = omega arith
filled-phase Rolling s c time last h e d f g = omega arith
filled-phase Fbs s c time last h e d f g = omega arith

filled-sound : (k : Opening) (S : State) (x y : Order) → Sound k S → first_entitled S.board Bid ≡ Some x → first_entitled S.board Offer ≡ Some y →
    Sound k (after S (fills x y))
unfolding board_after filled_board session_after
filled-sound k S x y q e f =
    let b = S.board in
    let t = taken k S x y q e f in
    let fx = remainder_of S.hidden (size_of x y) x in
    let fy = remainder_of S.hidden (size_of x y) y in
    let s₁ = stamp-after fx b.counters.stamp in
    let s₂ = stamp-after fy (stamp_after fx b.counters.stamp) in
    let l = some-lot k in
    let u = t.used in
    let c = q.counted in
    record {
      row = t.row;
      counted = record {
        numbers = c.numbers;
        writes = c.writes;
        stamps = let m = c.stamps in omega arith;
        fills = let m = c.fills in omega arith;
      };
      timely = record {
        wished = q.timely.wished;
        time = q.timely.time;
        since = q.timely.since;
        last = last (in_session b.phase);
        phase = filled-phase b.phase k.settings b.session b.clock.time _ q.timely.phase refl _ refl refl;
        ends = λ z i. let r = t.from z i in
            subst (NotPast b.clock.time) (sym r.2.end) (q.timely.ends r.0 r.1);
      };
      price = q.price;
      completions = completions-length fy _ _ _ _ _ ∙ completions-length fx _ _ _ _ _ ∙ q.completions;
      privileges = privileges-length fy y _ ∙ privileges-length fx x _ ∙ q.privileges;
    }
  where
    last : (p : Bool) → cond p S.board.clock.time S.board.session.last ≤ S.board.clock.time
    last true = le_refl S.board.clock.time
    last false = q.timely.last

-- ---- an order is removed

pub without_in : (n : ℕ) (os : List Order) (p : Order) → In p (replace n None os) → In p os
without_in n os p i = go (in-replace n None os p i)
  where
    go : (None ≡ Some p) ⊎ (In p os × ¬ (p.number ≡ n)) → In p os
    go (inl e) = let z : ◌≡◌ {A = ℕ} 0 1 = cc in absurd (omega arith)
    go (inr j) = j.0

fewer : (n n' : ℕ) (c : Counters) → n' ≤ n → Counted n c → Counted n' c
fewer n n' c l q =
    record {
      numbers = q.numbers;
      writes = q.writes;
      stamps = let m = q.stamps in omega arith;
      fills = let m = q.fills in omega arith;
    }

pub counted-without : (h : ℕ → ℕ) (n : ℕ) (os : List Order) (c : Counters) → Counted (sizes h os) c → Counted (sizes h (replace n None os)) c
counted-without h n os c q = fewer (sizes h os) (sizes h (replace n None os)) c (sizes-fewer h n os) q

removed-sound : (k : Opening) (S : State) (o : Order) (t : ℕ) → Sound k S → In o S.board.orders → S.board.clock.time ≤ t → Onward k S.board t →
    Sound k (record { board = removed_board S.board t o; hidden = S.hidden })
unfolding removed_board
removed-sound k S o t q i l w =
    let b = S.board in
    record {
      row = row-without k b.counters.number S.hidden b.orders o q.row i;
      counted = counted-without S.hidden o.number b.orders b.counters q.counted;
      timely = record {
        wished = q.timely.wished;
        time = w.due;
        since = le_trans q.timely.since l;
        last = le_trans q.timely.last l;
        phase = w.phase;
        ends = λ p j. w.ends p (without_in o.number b.orders p j);
      };
      price = q.price;
      completions = q.completions;
      privileges = adjust-length _ o.trader o.side b.privileges ∙ q.privileges;
    }

-- ---- a phase ends

turned-phase : (p : Phase) (s : Settings) (c : Session) (t : ℕ) → NotPast t (phase_end (phase_after p) s (begun_at t c))
turned-phase Open s c t = tt
turned-phase Timed s c t = omega arith
turned-phase Rolling s c t = omega arith
turned-phase Fbs s c t = tt

turned-sound : (k : Opening) (S : State) (t : ℕ) → Sound k S → S.board.clock.time ≤ t → Onward k S.board t →
    Sound k (record { board = turned_board S.board t; hidden = S.hidden })
unfolding turned_board
turned-sound k S t q l w =
    let b = S.board in
    record {
      row = q.row;
      counted = q.counted;
      timely = record {
        wished = q.timely.wished;
        time = w.due;
        since = le_refl t;
        last = le_trans q.timely.last l;
        phase = turned-phase b.phase k.settings b.session t;
        ends = w.ends;
      };
      price = q.price;
      completions = q.completions;
      privileges = turned-length b.phase b;
    }

-- ---- the tape is quiet

-- settling leaves the phase's end
settled-phase : (p : Phase) (s : Settings) (c d : Session) (t : ℕ) → d.since ≡ c.since → d.last ≡ c.last → NotPast t (phase_end p s c) →
    NotPast t (phase_end p s d)
settled-phase Open s c d t e f h = tt
settled-phase Timed s c d t e f h = omega arith
settled-phase Rolling s c d t e f h = omega arith
settled-phase Fbs s c d t e f h = omega arith

rested-sound : (k : Opening) (S : State) → Sound k S → Onward k S.board S.board.clock.wished →
    Sound k (record { board = rested_board S.board; hidden = S.hidden })
unfolding rested_board
rested-sound k S q w =
    let b = S.board in
    record {
      row = q.row;
      counted = q.counted;
      timely = record {
        wished = q.timely.wished;
        time = le_refl b.clock.wished;
        since = le_trans q.timely.since q.timely.time;
        last = le_trans q.timely.last q.timely.time;
        phase = settled-phase b.phase k.settings b.session _ b.clock.wished refl refl w.phase;
        ends = w.ends;
      };
      price = q.price;
      completions = q.completions;
      privileges = q.privileges;
    }

-- ---- a draw

reaches : (t : ℕ) (e : Option ℕ) (u : ℕ) → NotPast t e → e ≡ Some u → t ≤ u
reaches t e u h f = subst (NotPast t) f h

pub step-sound : (k : Opening) (S : State) (d : Step) → Sound k S → Why k S.board d → Onward k S.board (reached S.board d) → Sound k (after S d)
unfolding board_after hidden_after
step-sound k S (begins x y) q w o = begun-sound k S x y q w
step-sound k S (fills x y) q w o = filled-sound k S x y q w.0 w.1
step-sound k S (removes x c) q w o = removed-sound k S x S.board.clock.time q w.1 (le_refl S.board.clock.time) o
step-sound k S (turns t) q w o = turned-sound k S t q (reaches S.board.clock.time _ t q.timely.phase w.ends) o
step-sound k S (expires x t) q w o =
    removed-sound k S x t q w.listed (reaches S.board.clock.time x.end t (q.timely.ends x w.listed) w.ends) o
step-sound k S rests q w o = rested-sound k S q o

pub draw-sound : (k : Opening) (S : State) → Sound k S → Sound k (step k S Draw).1
unfolding step draw
draw-sound k S q = step-sound k S (decided k S.board) q (why k S.board) (onward k S.board q.timely)
