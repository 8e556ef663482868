-- Every call keeps the book sound, and so does every run of calls. Assumes nothing.
use Rattle.std.proofs.Common.{◌≡◌, ℕ, ◌+◌, ◌^◌, ◌<◌, ◌≤◌, Bool, true, false, cond, ◌&&◌, ltb, leb, ◌⊎◌, List, [], ◌∷◌, ◌++◌, ℤ, Some, None, Option, sym, refl, ◌∙◌, subst, inl, inr, le_trans, le_refl, arith}
use Rattle.std.proofs.lemmas.Bool.{or_parts, leb-false}
use Rattle.market.specs.Answers.{Answer}
use Rattle.market.specs.declared.order.Side.{Side}
use Rattle.market.specs.declared.order.Order.{Order}
use Rattle.market.specs.declared.state.Counters.{Counters}
use Rattle.market.specs.declared.call.OrderEntry.{OrderEntry}
use Rattle.market.specs.declared.call.OrderChange.{OrderChange}
use Rattle.market.specs.declared.call.Call.{Call}
use Rattle.market.specs.declared.call.Call.TheVariants.{Entry, Change, Cancel, Tick, Draw}
use Rattle.market.specs.declared.refusal.Refusal.{Refusal}
use Rattle.rules.specs.Base.{count, write}
use Rattle.rules.specs.Board.{Opening, Board, State, better, in_session}
use Rattle.rules.specs.Fills.{replace}
use Rattle.rules.specs.Refusing.{last_time, is_price, untimely, entry_price, owned, entry_refusal, change_refusal, cancel_refusal, tick_refusal, is_size}
use Rattle.rules.specs.Calls.{takes_stamp, entered, entered_board, changed, changed_board, cancelled_board, ticked_board, replied, entered_state, changed_state, cancelled_state, step, run, opened}
use Rattle.rules.specs.Members.{In}
use Rattle.rules.specs.Sizes.{sizes}
use Rattle.rules.proofs.Tests.{some_inj}
use Rattle.rules.proofs.Members.{in-push}
use Rattle.rules.proofs.Rows.{in-replace, write-here, write-there}
use Rattle.rules.proofs.Sizes.{sizes-replace, sizes-push}
use Rattle.invariants.specs.Sound.{Lawful, Counted, NotPast, Sound, StaysSound}
use Rattle.invariants.proofs.Lots.{size-most}
use Rattle.invariants.proofs.Orders.{Instead, row-replace, row-without, row-push, sizes-new}
use Rattle.invariants.proofs.Tables.{table-length, adjust-length, taken-length, lost-length}
use Rattle.invariants.proofs.Passes.{EntryPasses, entry-passes, owned_in, ChangePasses, change-passes, TickPasses, tick-passes}
use Rattle.invariants.proofs.Drawn.{without_in, counted-without, draw-sound}

-- a write counts, brings no more than two sizes, and takes a stamp at most
record Wrote (standing standing' : ℕ) (c c' : Counters) : Type 0 where
  most : standing' ≤ standing + 2000000
  number : c'.number ≤ c.number + 1
  stamp : c'.stamp ≤ c.stamp + 1
  fills : c'.fills ≡ c.fills
  writes : c'.writes ≡ c.writes + 1
  room : c.writes < 1000000

wrote-counted : (n n' : ℕ) (c c' : Counters) → Counted n c → Wrote n n' c c' → Counted n' c'
wrote-counted n n' c c' q w =
    let f = w.fills in
    let r = w.room in
    let a = w.writes in
    let m = w.most in
    record {
      numbers = let l = q.numbers in let l' = w.number in omega arith;
      writes = omega arith;
      stamps = let l = q.stamps in let l' = w.stamp in omega arith;
      fills = let l = q.fills in omega arith;
    }

-- ---- entry

entry-price : (k : Opening) (S : State) (s : Side) (p : ℤ) → Sound k S → is_price p ≡ true → is_price (entry_price S.board s p) ≡ true
unfolding entry_price
entry-price k S s p q h = go (in_session S.board.phase && better s p S.board.session.price)
  where
    go : (r : Bool) → is_price (cond r S.board.session.price p) ≡ true
    go true = q.price
    go false = h

timely-end : (time : ℕ) (e : Option ℕ) → untimely time e ≡ false → NotPast time e
timely-end time None h = tt
timely-end time (Some t) h = let l = leb-false t time (or_parts (leb t time) (ltb last_time t) h).0 in omega arith

entered-lawful : (k : Opening) (S : State) (e : OrderEntry) → Sound k S → EntryPasses k S.board e →
    Lawful k e.reserve (entered e S.board.counters.number S.board.counters.stamp (entry_price S.board e.side e.price))
unfolding entered
entered-lawful k S e q t =
    record {
      trader = t.trader;
      price = entry-price k S e.side e.price q t.price;
      displayed = t.displayed;
      visible = t.visible;
      shown = t.displayed;
      restocked = le_refl e.displayed;
      reserve = t.reserve;
    }

entered-sound : (k : Opening) (S : State) (e : OrderEntry) → Sound k S → EntryPasses k S.board e → Sound k (entered_state S e)
unfolding entered_board entered
entered-sound k S e q t =
    let b = S.board in
    let n = b.counters.number in
    let o = entered e n b.counters.stamp (entry_price b e.side e.price) in
    let w = entered-lawful k S e q t in
    let h' = write n e.reserve S.hidden in
    let z : sizes h' (b.orders ++ (o ∷ [])) ≤ sizes S.hidden b.orders + 2000000 =
    let a = sizes-push h' b.orders o in
    let c = sizes-new S.hidden e.reserve 1 n b.orders q.row.rising in
    let d = write-here n e.reserve S.hidden n refl in
    let m = size-most k e.displayed t.displayed in
    let r = size-most k e.reserve t.reserve in omega arith in
    record {
      row = row-push k n e.reserve S.hidden b.orders o q.row (record { few = t.few; side = t.side; end = t.ends }) refl w;
      counted = wrote-counted (sizes S.hidden b.orders) (sizes h' (b.orders ++ (o ∷ []))) b.counters _ q.counted
          (record { most = z; number = le_refl (n + 1); stamp = le_refl (b.counters.stamp + 1); fills = refl; writes = refl; room = t.writes });
      timely = record {
        wished = le_trans q.timely.time q.timely.wished;
        time = le_refl b.clock.time;
        since = q.timely.since;
        last = q.timely.last;
        phase = q.timely.phase;
        ends = λ p i. ends p (in-push b.orders o p i);
      };
      price = q.price;
      completions = q.completions;
      privileges = taken-length _ n e b.privileges ∙ q.privileges;
    }
  where
    ends : (p : Order) →
        In p S.board.orders ⊎ (p ≡ entered e S.board.counters.number S.board.counters.stamp (entry_price S.board e.side e.price)) →
        NotPast S.board.clock.time p.end
    ends p (inl i) = q.timely.ends p i
    ends p (inr f) = subst (λ (z : Order). NotPast S.board.clock.time z.end) (sym f) (timely-end S.board.clock.time e.end t.end)

-- ---- change

stamp-most : (anew : Bool) (n : ℕ) → cond anew (n + 1) n ≤ n + 1
stamp-most true n = le_refl (n + 1)
stamp-most false n = omega arith

changed-lawful : (k : Opening) (b : Board) (c : OrderChange) (o : Order) (r n : ℕ) (anew : Bool) → Lawful k r o → ChangePasses k b c o →
    Lawful k c.reserve (changed c anew n o)
unfolding changed
changed-lawful k b c o r n anew w t =
    record {
      trader = w.trader;
      price = t.price;
      displayed = t.displayed;
      visible = t.visible;
      shown = t.displayed;
      restocked = le_refl c.displayed;
      reserve = t.reserve;
    }

changed-sound : (k : Opening) (S : State) (c : OrderChange) (o : Order) → Sound k S → ChangePasses k S.board c o → In o S.board.orders →
    Sound k (changed_state S c (Some o))
unfolding changed_board changed
changed-sound k S c o q t i =
    let b = S.board in
    let n = o.number in
    let z = changed c (takes_stamp c o) b.counters.stamp o in
    let w = changed-lawful k b c o (S.hidden n) b.counters.stamp (takes_stamp c o) (q.row.lawful o i) t in
    let h' = write n c.reserve S.hidden in
    let l : sizes h' (replace n (Some z) b.orders) ≤ sizes S.hidden b.orders + 2000000 =
    let a = sizes-replace S.hidden c.reserve (Some z) 1 b.counters.number b.orders o refl q.row.rising i in
    let m = size-most k c.displayed t.displayed in
    let r = size-most k c.reserve t.reserve in omega arith in
    record {
      row = row-replace k b.counters.number S.hidden h' b.orders o (Some z) q.row i (write-there n c.reserve S.hidden)
          (λ p e. subst (Instead k (h' n) o) (some_inj e)
          (record {
            number = refl;
            side = refl;
            end = refl;
            lawful = subst (λ (v : ℕ). Lawful k v z) (sym (write-here n c.reserve S.hidden n refl)) w;
          }));
      counted = wrote-counted (sizes S.hidden b.orders) (sizes h' (replace n (Some z) b.orders)) b.counters _ q.counted
          (record {
            most = l;
            number = omega arith;
            stamp = stamp-most (takes_stamp c o) b.counters.stamp;
            fills = refl;
            writes = refl;
            room = t.writes;
          });
      timely = record {
        wished = le_trans q.timely.time q.timely.wished;
        time = le_refl b.clock.time;
        since = q.timely.since;
        last = q.timely.last;
        phase = q.timely.phase;
        ends = λ p j. ends p (in-replace n (Some z) b.orders p j);
      };
      price = q.price;
      completions = q.completions;
      privileges = lost-length _ o b.privileges ∙ q.privileges;
    }
  where
    ends : (p : Order) →
        (Some (changed c (takes_stamp c o) S.board.counters.stamp o) ≡ Some p) ⊎ (In p S.board.orders × ¬ (p.number ≡ o.number)) →
        NotPast S.board.clock.time p.end
    ends p (inl e) = subst (λ (z : Order). NotPast S.board.clock.time z.end) (some_inj e) (q.timely.ends o i)
    ends p (inr j) = q.timely.ends p j.0

-- ---- cancel

cancelled-sound : (k : Opening) (S : State) (o : Order) → Sound k S → In o S.board.orders → Sound k (cancelled_state S (Some o))
unfolding cancelled_board
cancelled-sound k S o q i =
    let b = S.board in
    record {
      row = row-without k b.counters.number S.hidden b.orders o q.row i;
      counted = counted-without S.hidden o.number b.orders b.counters q.counted;
      timely = record {
        wished = le_trans q.timely.time q.timely.wished;
        time = le_refl b.clock.time;
        since = q.timely.since;
        last = q.timely.last;
        phase = q.timely.phase;
        ends = λ p j. q.timely.ends p (without_in o.number b.orders p j);
      };
      price = q.price;
      completions = q.completions;
      privileges = adjust-length _ o.trader o.side b.privileges ∙ q.privileges;
    }

-- ---- tick

ticked-sound : (k : Opening) (S : State) (t : ℕ) → Sound k S → TickPasses S.board t →
    Sound k (record { board = ticked_board S.board t; hidden = S.hidden })
unfolding ticked_board
ticked-sound k S t q w =
    record {
      row = q.row;
      counted = q.counted;
      timely = record {
        wished = w.last;
        time = w.time;
        since = q.timely.since;
        last = q.timely.last;
        phase = q.timely.phase;
        ends = q.timely.ends;
      };
      price = q.price;
      completions = q.completions;
      privileges = q.privileges;
    }

-- ---- every call

-- what holds before a call, and after it if it is accepted, holds after it
pub reply-keeps : (P : State → Type 0) (r : Option Refusal) (a : Answer) (S S' : State) → P S → (r ≡ None → P S') → P (replied r a S S').1
reply-keeps P None a S S' q f = f refl
reply-keeps P (Some r) a S S' q f = q

pub call-sound : (k : Opening) (S : State) (c : Call) → Sound k S → Sound k (step k S c).1
unfolding step
call-sound k S (Entry e) q =
    reply-keeps (Sound k) (entry_refusal k S.board e (is_size k e.reserve)) _ S (entered_state S e) q
    (λ f. entered-sound k S e q (entry-passes k S.board e f))
call-sound k S (Change c) q =
    reply-keeps (Sound k) (change_refusal k S.board c (is_size k c.reserve)) _ S (changed_state S c (owned S.board c.trader c.number)) q
    (λ f. go f (owned S.board c.trader c.number) refl)
  where
    go : change_refusal k S.board c (is_size k c.reserve) ≡ None → (r : Option Order) → owned S.board c.trader c.number ≡ r →
        Sound k (changed_state S c r)
    go f None e = q
    go f (Some o) e =
        changed-sound k S c o q (change-passes k S.board c o f e) (owned_in S.board c.trader c.number o e).0
call-sound k S (Cancel c) q =
    reply-keeps (Sound k) (cancel_refusal S.board c.trader c.number) _ S (cancelled_state S (owned S.board c.trader c.number)) q
    (λ f. go (owned S.board c.trader c.number) refl)
  where
    go : (r : Option Order) → owned S.board c.trader c.number ≡ r → Sound k (cancelled_state S r)
    go None e = q
    go (Some o) e = cancelled-sound k S o q (owned_in S.board c.trader c.number o e).0
call-sound k S (Tick t) q =
    reply-keeps (Sound k) (tick_refusal S.board t) _ S (record { board = ticked_board S.board t; hidden = S.hidden }) q
    (λ f. ticked-sound k S t q (tick-passes S.board t f))
call-sound k S Draw q = draw-sound k S q

-- ---- every run

pub opened-sound : (k : Opening) → Sound k opened
unfolding opened count
opened-sound k =
    record {
      row = record { rising = omega arith; lawful = λ o i. absurd i; few = omega arith; bids = omega arith; offers = omega arith; ends = omega arith };
      counted = record { numbers = omega arith; writes = omega arith; stamps = omega arith; fills = omega arith };
      timely = record { wished = omega arith; time = omega arith; since = omega arith; last = omega arith; phase = tt; ends = λ o i. absurd i };
      price = refl;
      completions = table-length (λ t s. None);
      privileges = table-length (λ t s. None);
    }

pub run_sound : (k : Opening) (S : State) (cs : List Call) → Sound k S → Sound k (run k S cs)
unfolding run
run_sound k S [] q = q
run_sound k S (c ∷ cs) q = run_sound k (step k S c).1 cs (call-sound k S c q)

pub sound : StaysSound
sound k cs = run_sound k opened cs (opened-sound k)

-- ---- no counter comes near its width

pub number_small : (n : ℕ) (c : Counters) → Counted n c → c.number ≤ 1000001
number_small n c q = let l = q.numbers in let m = q.writes in omega arith

pub stamp-small : (n : ℕ) (c : Counters) → Counted n c → c.stamp < 2 ^ 63
stamp-small n c q = let l = q.stamps in let m = q.writes in omega arith

pub fills-small : (n : ℕ) (c : Counters) → Counted n c → c.fills < 2 ^ 63
fills-small n c q = let l = q.fills in let m = q.writes in omega arith
