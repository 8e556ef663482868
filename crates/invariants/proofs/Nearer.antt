-- Each draw that does not answer quiet brings the book nearer to rest. Assumes nothing.
use Rattle.std.proofs.Common.{◌≡◌, ℕ, ◌+◌, ◌/◌, ◌<◌, ◌≤◌, Bool, true, false, cond, leb, ◌⊎◌, List, length, Some, None, Option, sym, refl, ap, ◌∙◌, inl, inr, arith}
use Rattle.std.proofs.lemmas.Bool.{true≢false, false≢true, both_ways, leb-true, le-leb, lt-leb, and_parts, cond-true, cond-false}
use Rattle.market.specs.Tenors.{within}
use Rattle.market.specs.declared.settings.Settings.{Settings}
use Rattle.market.specs.declared.order.Order.{Order}
use Rattle.market.specs.declared.order.Side.TheVariants.{Bid, Offer}
use Rattle.market.specs.declared.state.Phase.{Phase}
use Rattle.market.specs.declared.state.Phase.TheVariants.{Open, Timed, Rolling, Fbs}
use Rattle.market.specs.declared.state.Session.{Session}
use Rattle.rules.specs.Board.{Opening, Board, State, lot, is_open}
use Rattle.rules.specs.Entitlement.{first_entitled}
use Rattle.rules.specs.Fills.{replace, filled_board, session_after}
use Rattle.rules.specs.Draws.{Step, begins, fills, removes, turns, expires, rests, phase_end, phase_after, started, begun_board, removed_board, turned_board, board_after, hidden_after}
use Rattle.rules.specs.Members.{In}
use Rattle.rules.specs.Sizes.{sizes}
use Rattle.rules.proofs.Tests.{none≢some, some_inj}
use Rattle.rules.proofs.Members.{length-each}
use Rattle.rules.proofs.Rows.{replace-fewer}
use Rattle.rules.proofs.Sizes.{sizes-each, sizes-fewer}
use Rattle.rules.proofs.Reasons.{opens_in, opens, Begins, Turns, Why}
use Rattle.invariants.specs.Sound.{Sound}
use Rattle.invariants.proofs.Lots.{some-lot, lots-fall, lots-keep}
use Rattle.invariants.proofs.Drawn.{after, first-entitled, taken}
use Rattle.invariants.proofs.Rests.{is_rest}
use Rattle.invariants.proofs.Steady.{Steady, fewer-opens, entitled-shut, end-shut, turned-shut, unmet}

-- how often a phase can still begin before the tape rests
abbrev pub turns_in : Phase → Settings → Bool → ℕ → ℕ → ℕ
turns_in Open s opening since w = cond opening 1 0
turns_in Timed s opening since w = cond (leb (since + s.timed) w) 3 0
turns_in Rolling s opening since w = 2
turns_in Fbs s opening since w = 1

abbrev pub turns_left : Opening → Board → ℕ
turns_left k b = turns_in b.phase k.settings (opens b) b.session.since b.clock.wished

pub turns-most : (p : Phase) (s : Settings) (o : Bool) (since w : ℕ) → turns_in p s o since w ≤ 3
turns-most Open s true since w = omega arith
turns-most Open s false since w = omega arith
turns-most Timed s o since w = go (leb (since + s.timed) w)
  where
    go : (q : Bool) → cond q 3 0 ≤ 3
    go true = omega arith
    go false = omega arith
turns-most Rolling s o since w = omega arith
turns-most Fbs s o since w = omega arith

-- lots, live orders and phases to come
abbrev pub weight : Opening → State → ℕ
weight k S = (sizes S.hidden S.board.orders / lot k + length S.board.orders) + turns_left k S.board

abbrev Less : Opening → State → State → Type 0
Less k S' S = weight k S' < weight k S

-- the phase Timed lasts
timed-lasts : (s : Settings) → 0 < s.timed
timed-lasts s =
    let p = and_parts _ _ s.made in
    let t = and_parts (within 1 60000 s.timed) _ p.1 in
    let l = and_parts (leb 1 s.timed) (leb s.timed 60000) t.0 in leb-true 1 s.timed l.0

-- ---- a session begins

opening-turn : (p : Phase) (s : Settings) (n : Option ℕ) (os : List Order) (since w : ℕ) → opens_in p n os ≡ true → turns_in p s (opens_in p n os) since w ≡ 1
opening-turn Open s n os since w e = cond-true _ 1 0 e
opening-turn Timed s n os since w e = absurd (false≢true e)
opening-turn Rolling s n os since w e = absurd (false≢true e)
opening-turn Fbs s n os since w e = absurd (false≢true e)

begun-less : (k : Opening) (S : State) (x y : Order) → Steady k S → Begins S.board x y → Less k (after S (begins x y)) S
unfolding board_after hidden_after begun_board started
begun-less k S x y q w =
    let b = S.board in
    let f = started x.number y.side y.price in
    let a = ap (λ (n : ℕ). n / lot k) (sizes-each S.hidden f (λ o. refl) (λ o. refl) b.orders) in
    let c = length-each f b.orders in
    let d = opening-turn b.phase k.settings b.counters.incoming b.orders b.session.since b.clock.wished w.begun in
    let e = on-time q.ready in
    let m = timed-lasts k.settings in
    let z : ◌≡◌ {A = ℕ} (cond (leb (b.clock.time + k.settings.timed) b.clock.wished) 3 0) 0 =
    cond-false _ 3 0 (lt-leb (b.clock.time + k.settings.timed) b.clock.wished (omega arith)) in omega arith
  where
    on-time : (opens S.board ≡ false) ⊎ (S.board.clock.wished ≡ S.board.clock.time) → S.board.clock.wished ≡ S.board.clock.time
    on-time (inl e) = absurd (both_ways (opens S.board) e w.begun)
    on-time (inr e) = e

-- ---- a fill

same-turns : (p : Phase) (s : Settings) (o o' : Bool) (since w : ℕ) → is_open p ≡ false → turns_in p s o since w ≡ turns_in p s o' since w
same-turns Open s o o' since w e = absurd (true≢false e)
same-turns Timed s o o' since w e = refl
same-turns Rolling s o o' since w e = refl
same-turns Fbs s o o' since w e = refl

filled-less : (k : Opening) (S : State) (x y : Order) → Sound k S → first_entitled S.board Bid ≡ Some x → first_entitled S.board Offer ≡ Some y →
    Less k (after S (fills x y)) S
unfolding board_after filled_board session_after
filled-less k S x y q e f =
    let b = S.board in
    let t = taken k S x y q e f in
    let S' = after S (fills x y) in
    let i = first-entitled b Bid x e in
    let l = t.used in
    let a = lots-fall (lot k) (sizes S'.hidden S'.board.orders) (sizes S.hidden b.orders) (some-lot k) (omega arith) in
    let m = t.shorter in
    let d = same-turns b.phase k.settings (opens S'.board) (opens b) b.session.since b.clock.wished
    (entitled-shut b.phase b x i.2) in omega arith

-- ---- an order is removed

removed-less : (k : Opening) (S : State) (o : Order) (t : ℕ) → opens S.board ≡ false → In o S.board.orders →
    Less k (record { board = removed_board S.board t o; hidden = S.hidden }) S
unfolding removed_board
removed-less k S o t c i =
    let b = S.board in
    let os' = replace o.number None b.orders in
    let a = lots-keep (lot k) (sizes S.hidden os') (sizes S.hidden b.orders) (some-lot k) (sizes-fewer S.hidden o.number b.orders) in
    let f = replace-fewer b.orders o i in
    let d = ap (λ (v : Bool). turns_in b.phase k.settings v b.session.since b.clock.wished)
    (fewer-opens b.phase b.counters.incoming o.number b.orders c ∙ sym c) in omega arith

-- ---- a phase ends

turned-less : (p : Phase) (s : Settings) (o : Bool) (c : Session) (n : Option ℕ) (os : List Order) (t w : ℕ) → phase_end p s c ≡ Some t → t ≤ w →
    opens_in (phase_after p) n os ≡ false → turns_in (phase_after p) s (opens_in (phase_after p) n os) t w < turns_in p s o c.since w
turned-less Open s o c n os t w e l f = absurd (none≢some e)
turned-less Timed s o c n os t w e l f =
    let z : c.since + s.timed ≡ t = some_inj e in
    let y : ◌≡◌ {A = ℕ} (cond (leb (c.since + s.timed) w) 3 0) 3 = cond-true _ 3 0 (le-leb (c.since + s.timed) w (omega arith)) in omega arith
turned-less Rolling s o c n os t w e l f = omega arith
turned-less Fbs s o c n os t w e l f = let y : ◌≡◌ {A = ℕ} (cond (opens_in Open n os) 1 0) 0 = cond-false _ 1 0 f in omega arith

turn-less : (k : Opening) (S : State) (t : ℕ) → Turns k S.board t → Less k (after S (turns t)) S
unfolding board_after hidden_after turned_board
turn-less k S t w =
    let b = S.board in
    let n = b.counters.incoming in
    let f = turned-shut b.phase n b.orders (end-shut b.phase k.settings b.session t w.ends) (λ e. unmet b e w.idle.unpaired) in
    let l = turned-less b.phase k.settings (opens b) b.session n b.orders t b.clock.wished w.ends w.due f in omega arith

-- ---- a draw

pub nearer : (k : Opening) (S : State) (d : Step) → Sound k S → Steady k S → Why k S.board d → is_rest d ≡ false → Less k (after S d) S
unfolding board_after hidden_after
nearer k S (begins x y) q r w n = begun-less k S x y r w
nearer k S (fills x y) q r w n = filled-less k S x y q w.0 w.1
nearer k S (removes o c) q r w n = removed-less k S o S.board.clock.time w.0.closed w.1
nearer k S (turns t) q r w n = turn-less k S t w
nearer k S (expires o t) q r w n = removed-less k S o t w.idle.closed w.listed
nearer k S rests q r w n = absurd (true≢false n)
