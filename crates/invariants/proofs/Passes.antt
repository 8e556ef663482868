-- What an accepted call has passed. Assumes nothing.
use Rattle.std.proofs.Common.{◌≡◌, ℕ, ◌<◌, ◌≤◌, Bool, true, false, not, ◌&&◌, ◌||◌, eqb, ltb, leb, ◌⊎◌, List, [], ◌∷◌, length, Some, None, sym, refl, ◌∙◌, inl, inr, arith}
use Rattle.std.proofs.lemmas.Bool.{true≢false, not-false, or_parts, and_parts, and_cases, eqb-true, eqb-false, leb-false, ltb-false}
use Rattle.market.specs.declared.order.Order.{Order}
use Rattle.market.specs.declared.call.OrderEntry.{OrderEntry}
use Rattle.market.specs.declared.call.OrderChange.{OrderChange}
use Rattle.market.specs.declared.refusal.BookFault.TheVariants.{NotQuiet, Trader, Order as Unknown}
use Rattle.market.specs.declared.refusal.Refusal.{Refusal}
use Rattle.market.specs.declared.refusal.Refusal.TheVariants.{Book}
use Rattle.rules.specs.Base.{some_if, verdict, Fails, is_some, count}
use Rattle.rules.specs.Board.{Opening, Board, on, better, in_session, numbered}
use Rattle.rules.specs.Refusing.{last_time, most_writes, most_orders, is_trader, is_price, is_size, untimely, own_meets, room_for, ending, line_full, entry_price, owned, entry_tests, entry_refusal, change_tests, change_of, change_refusal, cancel_refusal, tick_refusal}
use Rattle.rules.specs.Members.{In}
use Rattle.rules.proofs.Tests.{none≢some}
use Rattle.rules.proofs.Members.{find-in}

-- no test of the list passes
pub none_passes : {A : Type 0} (cs : List (Bool × A)) → verdict cs ≡ None → Fails cs
none_passes [] e = tt
none_passes {A} (c ∷ cs) e = go c.0 (none_passes cs) e
  where
    go : (q : Bool) → (verdict cs ≡ None → Fails cs) → some_if q c.1 (verdict cs) ≡ None → (q ≡ false) × Fails cs
    go true ih f = absurd (none≢some (sym f))
    go false ih f = (refl, ih f)

good-sizes : (a b z : Bool) → not (a && b) || z ≡ false → (a ≡ true) × (b ≡ true) × (z ≡ false)
good-sizes a b z h =
    let p = or_parts (not (a && b)) z h in let q = and_parts a b (not-false (a && b) p.0) in (q.0, q.1, p.1)

above : (n : ℕ) → eqb n 0 ≡ false → 0 < n
above n h = let e = eqb-false n 0 h in omega arith

-- ---- entry

pub record EntryPasses (k : Opening) (b : Board) (e : OrderEntry) : Type 0 where
  pub quiet : b.clock.quiet ≡ true
  pub trader : is_trader e.trader ≡ true
  pub price : is_price e.price ≡ true
  pub displayed : is_size k e.displayed ≡ true
  pub reserve : is_size k e.reserve ≡ true
  pub visible : 0 < e.displayed
  pub end : untimely b.clock.time e.end ≡ false
  pub own : own_meets b.orders e.trader e.side (entry_price b e.side e.price) ≡ false
  pub writes : b.counters.writes < most_writes
  pub few : length b.orders < most_orders
  pub side : count (on e.side) b.orders < room_for k e.side
  pub ends : is_some e.end ≡ true → count ending b.orders < k.ends

pub entry-passes : (k : Opening) (b : Board) (e : OrderEntry) → entry_refusal k b e (is_size k e.reserve) ≡ None → EntryPasses k b e
unfolding entry_refusal entry_tests line_full
entry-passes k b e h =
    let t = none_passes (entry_tests k b e (is_size k e.reserve)) h in
    let z = good-sizes (is_size k e.displayed) (is_size k e.reserve) (eqb e.displayed 0) t.1.1.1.0 in
    let r = or_parts (leb (room_for k e.side) (count (on e.side) b.orders)) (is_some e.end && leb k.ends (count ending b.orders))
    t.1.1.1.1.1.1.1.1.0 in
    record {
      quiet = not-false b.clock.quiet t.0;
      trader = not-false (is_trader e.trader) t.1.0;
      price = not-false (is_price e.price) t.1.1.0;
      displayed = z.0;
      reserve = z.1;
      visible = above e.displayed z.2;
      end = t.1.1.1.1.0;
      own = t.1.1.1.1.1.0;
      writes = leb-false most_writes b.counters.writes t.1.1.1.1.1.1.0;
      few = leb-false most_orders (length b.orders) t.1.1.1.1.1.1.1.0;
      side = leb-false (room_for k e.side) (count (on e.side) b.orders) r.0;
      ends = λ s. go s (and_cases (is_some e.end) (leb k.ends (count ending b.orders)) r.1);
    }
  where
    go : is_some e.end ≡ true → (is_some e.end ≡ false) ⊎ (leb k.ends (count ending b.orders) ≡ false) → count ending b.orders < k.ends
    go s (inl n) = absurd (true≢false (sym s ∙ n))
    go s (inr l) = leb-false k.ends (count ending b.orders) l

-- ---- change

pub owned_in : (b : Board) (t n : ℕ) (o : Order) → owned b t n ≡ Some o → In o b.orders × (o.number ≡ n) × (o.trader ≡ t)
unfolding owned
owned_in b t n o e =
    let r = find-in (λ o. numbered n o && eqb o.trader t) b.orders o e in
    let p = and_parts (numbered n o) (eqb o.trader t) r.1 in
    (r.0, eqb-true o.number n p.0, eqb-true o.trader t p.1)

pub record ChangePasses (k : Opening) (b : Board) (c : OrderChange) (o : Order) : Type 0 where
  pub quiet : b.clock.quiet ≡ true
  pub price : is_price c.price ≡ true
  pub displayed : is_size k c.displayed ≡ true
  pub reserve : is_size k c.reserve ≡ true
  pub visible : 0 < c.displayed
  pub better : in_session b.phase && better o.side c.price b.session.price ≡ false
  pub own : own_meets b.orders c.trader o.side c.price ≡ false
  pub writes : b.counters.writes < most_writes

pub change-passes : (k : Opening) (b : Board) (c : OrderChange) (o : Order) → change_refusal k b c (is_size k c.reserve) ≡ None →
    owned b c.trader c.number ≡ Some o → ChangePasses k b c o
unfolding change_refusal change_tests
change-passes k b c o h w =
    let h' : verdict (tests (change_of (owned b c.trader c.number) k b c (is_size k c.reserve))) ≡ None = h in
    let t = none_passes (tests (change_tests k b c o (is_size k c.reserve))) (rw w at h') in
    let z = good-sizes (is_size k c.displayed) (is_size k c.reserve) (eqb c.displayed 0) t.1.1.1.0 in
    record {
      quiet = not-false b.clock.quiet t.0;
      price = not-false (is_price c.price) t.1.1.0;
      displayed = z.0;
      reserve = z.1;
      visible = above c.displayed z.2;
      better = t.1.1.1.1.0;
      own = t.1.1.1.1.1.0;
      writes = leb-false most_writes b.counters.writes t.1.1.1.1.1.1.0;
    }
  where
    tests : List (Bool × Refusal) → List (Bool × Refusal)
    tests cs = (not b.clock.quiet, Book NotQuiet) ∷ (not (is_trader c.trader), Book Trader) ∷ cs

-- ---- cancel and tick

pub cancel-passes : (b : Board) (t n : ℕ) → cancel_refusal b t n ≡ None → b.clock.quiet ≡ true
unfolding cancel_refusal
cancel-passes b t n h =
    not-false b.clock.quiet
    (none_passes (
    (not b.clock.quiet, Book NotQuiet) ∷
    (not (is_trader t), Book Trader) ∷
    (not (is_some (owned b t n)), Book Unknown) ∷ []) h).0

pub record TickPasses (b : Board) (t : ℕ) : Type 0 where
  pub quiet : b.clock.quiet ≡ true
  pub time : b.clock.time ≤ t
  pub last : t ≤ last_time

pub tick-passes : (b : Board) (t : ℕ) → tick_refusal b t ≡ None → TickPasses b t
unfolding tick_refusal
tick-passes b t h =
    let f = none_passes ((not b.clock.quiet, _) ∷ (ltb t b.clock.time || ltb last_time t, _) ∷ []) h in
    let p = or_parts (ltb t b.clock.time) (ltb last_time t) f.1.0 in
    record {
      quiet = not-false b.clock.quiet f.0;
      time = ltb-false t b.clock.time p.0;
      last = ltb-false last_time t p.1;
    }
