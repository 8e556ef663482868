-- Two runs that differ in reserves: a call, and a list of calls. Assumes nothing.
use Rattle.std.proofs.Common.{◌≡◌, ℕ, ◌<◌, Bool, true, false, cond, not, ◌&&◌, eqb, ◌⊎◌, List, [], ◌∷◌, Some, None, Ok, Err, Option, refl, ap, subst, ap₂, inl, inr, arith}
use Rattle.std.specs.List.{AllZip}
use Rattle.std.proofs.lemmas.Bool.{and_parts, eqb-true, cases_eq}
use Rattle.market.specs.Answers.{Answer}
use Rattle.market.specs.declared.order.Side.TheVariants.{Bid, Offer}
use Rattle.market.specs.declared.order.Order.{Order}
use Rattle.market.specs.declared.state.Privilege.{Privilege}
use Rattle.market.specs.declared.call.OrderEntry.{OrderEntry}
use Rattle.market.specs.declared.call.OrderChange.{OrderChange}
use Rattle.market.specs.declared.call.Call.{Call}
use Rattle.market.specs.declared.call.Call.TheVariants.{Entry, Change, Cancel, Tick, Draw}
use Rattle.market.specs.declared.record.Record.{Record}
use Rattle.market.specs.declared.refusal.BookFault.TheVariants.{NotQuiet, Trader, Order as Unknown}
use Rattle.market.specs.declared.refusal.Refusal.{Refusal}
use Rattle.market.specs.declared.refusal.Refusal.TheVariants.{Book}
use Rattle.market.specs.declared.answer.Accepted.TheVariants.{Entered, Done, Drawn}
use Rattle.rules.specs.Base.{names, only_if, verdict, write}
use Rattle.rules.specs.Board.{Opening, Board, State, Table, better, is_fbs, numbered}
use Rattle.rules.specs.Draws.{decided, hidden_after, draw}
use Rattle.rules.specs.Refusing.{is_size, is_trader, entry_price, owned, entry_tests, entry_refusal, change_tests, change_of, change_refusal, cancel_refusal, tick_refusal}
use Rattle.rules.specs.Calls.{entered, taken_at, entered_board, changed, changed_board, changed_state, cancelled_board, cancelled_state, ticked_board, replied, step, run, answers}
use Rattle.rules.specs.Summaries.{summary}
use Rattle.rules.proofs.Tests.{none≢some}
use Rattle.rules.proofs.Members.{find-in}
use Rattle.laws.specs.Hidden.{entry_with, change_with, Alike, same, entries, changes, noted, caller_of, Lesson, learned}
use Rattle.laws.proofs.Remainders.{Near, Stocked, same_step}

-- ---- two states, after calls and their answers

-- equal boards, and reserves that agree wherever the last written did; v and v' are what was last written
pub record Twins (v v' : ℕ → ℕ) (S S' : State) : Type 0 where
  pub board : S.board ≡ S'.board
  pub near : Near v v' S.hidden S'.hidden

pub record Answered (v v' : ℕ → ℕ) (c d : Call) (r r' : Answer × State) : Type 0 where
  pub answer : r.0 ≡ r'.0
  pub after : Twins (noted c r.0 v) (noted d r'.0 v') r.1 r'.1

abbrev at : Board → (ℕ → ℕ) → State
at b h = record { board = b; hidden = h }

-- ---- calls that write a reserve

-- equal reserves, or two above 0
abbrev Written : ℕ → ℕ → Type 0
Written r r' = (r ≡ r') ⊎ ((0 < r) × (0 < r'))

near-written : (v v' h h' : ℕ → ℕ) (k r r' : ℕ) → Written r r' → Near v v' h h' →
    Near (write k r v) (write k r' v') (write k r h) (write k r' h')
unfolding write
near-written v v' h h' k r r' w near = record { agree = λ n. agrees n (eqb n k); positive = λ n. above n (eqb n k) w }
  where
    agrees : (n : ℕ) (q : Bool) → cond q r (v n) ≡ cond q r' (v' n) → cond q r (h n) ≡ cond q r' (h' n)
    agrees n true e = e
    agrees n false e = near.agree n e

    above : (n : ℕ) (q : Bool) → Written r r' → ¬ (cond q r (v n) ≡ cond q r' (v' n)) → (0 < cond q r (h n)) × (0 < cond q r' (h' n))
    above n true (inl e) f = absurd (f e)
    above n true (inr p) f = p
    above n false w f = near.positive n f

module _ (v v' h h' : ℕ → ℕ) (near : Near v v' h h') where
  -- an entry of order n
  enters : (e e' : OrderEntry) (n : ℕ) (x : Option Refusal) (b b₁ b₂ : Board) → b₁ ≡ b₂ → Written e.reserve e'.reserve →
      Answered v v' (Entry e) (Entry e') (replied x (Ok (Entered n)) (at b h) (at b₁ (write n e.reserve h)))
      (replied x (Ok (Entered n)) (at b h') (at b₂ (write n e'.reserve h')))
  enters e e' n None b b₁ b₂ boards w =
      record { answer = refl; after = record { board = boards; near = near-written v v' h h' n e.reserve e'.reserve w near } }
  enters e e' n (Some x) b b₁ b₂ boards w = record { answer = refl; after = record { board = refl; near = near } }

  -- a change of the order that it names, or of none
  rewrites : (c c' : OrderChange) (x : Option Refusal) (b : Board) (o : Option Order) → (o ≡ None → (y : Refusal) × (x ≡ Some y)) →
      ((p : Order) → o ≡ Some p → p.number ≡ c.number) → c.number ≡ c'.number →
      ((p : Order) → changed_board b c p ≡ changed_board b c' p) → Written c.reserve c'.reserve →
      Answered v v' (Change c) (Change c') (replied x (Ok Done) (at b h) (changed_state (at b h) c o))
      (replied x (Ok Done) (at b h') (changed_state (at b h') c' o))
  rewrites c c' None b None refused named number boards w = absurd (none≢some (refused refl).1)
  rewrites c c' (Some x) b None refused named number boards w = record { answer = refl; after = record { board = refl; near = near } }
  rewrites c c' None b (Some o) refused named number boards w =
      let e = named o refl in
      record {
        answer = refl;
        after = record {
          board = boards o;
          near = rw (e, ← number) (near-written v v' h h' c.number c.reserve c'.reserve w near);
        };
      }
  rewrites c c' (Some x) b (Some o) refused named number boards w =
      record { answer = refl; after = record { board = refl; near = near } }

  -- ---- a call that writes none

  leaves : (c : Call) (x : Option Refusal) (b b₁ : Board) → ((a : Answer) (w : ℕ → ℕ) → noted c a w ≡ w) →
      Answered v v' c c (replied x (Ok Done) (at b h) (at b₁ h)) (replied x (Ok Done) (at b h') (at b₁ h'))
  leaves c None b b₁ still = record { answer = refl; after = record { board = refl; near = rw (still (Ok Done) v, still (Ok Done) v') near } }
  leaves c (Some x) b b₁ still =
      record { answer = refl; after = record { board = refl; near = rw (still (Err x) v, still (Err x) v') near } }

-- ---- one call

-- the reserve of order n fell from above 0 to 0
abbrev pub Emptied : (ℕ → ℕ) → (ℕ → ℕ) → ℕ → Type 0
Emptied h h₁ n = (0 < h n) × (h₁ n ≡ 0)

-- a draw empties no order that was last written with differing sizes
abbrev pub KeptAt : Opening → (v v' : ℕ → ℕ) → State → State → Call → Type 0
KeptAt k v v' S S' (Entry e) = Unit {0}
KeptAt k v v' S S' (Change c) = Unit {0}
KeptAt k v v' S S' (Cancel c) = Unit {0}
KeptAt k v v' S S' (Tick t) = Unit {0}
KeptAt k v v' S S' Draw =
    (n : ℕ) → ¬ (v n ≡ v' n) → ¬ (Emptied S.hidden (step k S Draw).1.hidden n) × ¬ (Emptied S'.hidden (step k S' Draw).1.hidden n)

above : (m n : ℕ) → ¬ ((0 < m) × (n ≡ 0)) → 0 < m → 0 < n
above m n f h = go (cases_eq n 0)
  where
    go : (n ≡ 0) ⊎ (n ≡ 0 → ⊥) → 0 < n
    go (inl e) = absurd (f (h, e))
    go (inr d) = grind arith

-- a change of no live order is refused
no_change : (k : Opening) (b : Board) (c : OrderChange) (ok : Bool) → owned b c.trader c.number ≡ None →
    (y : Refusal) × (change_refusal k b c ok ≡ Some y)
unfolding change_refusal
no_change k b c ok e = rw e (go b.clock.quiet (is_trader c.trader))
  where
    go : (q t : Bool) → (y : Refusal) × (verdict ((not q, Book NotQuiet) ∷ (not t, Book Trader) ∷ (true, Book Unknown) ∷ []) ≡ Some y)
    go false t = (Book NotQuiet, refl)
    go true false = (Book Trader, refl)
    go true true = (Book Unknown, refl)

owned-number : (b : Board) (t n : ℕ) (o : Order) → owned b t n ≡ Some o → o.number ≡ n
unfolding owned
owned-number b t n o e =
    let r = find-in (λ p. numbered n p && eqb p.trader t) b.orders o e in
    eqb-true o.number n (and_parts (numbered n o) (eqb o.trader t) r.1).0

-- a change is refused by its size alone
same-refusal : (k : Opening) (b : Board) (c : OrderChange) (r r' : ℕ) (ok : Bool) →
    change_refusal k b (change_with r c) ok ≡ change_refusal k b (change_with r' c) ok
unfolding change_refusal change_tests
same-refusal k b c r r' ok =
    ap (λ (tests : List (Bool × Refusal)). verdict ((not b.clock.quiet, Book NotQuiet) ∷ (not (is_trader c.trader), Book Trader) ∷ tests))
    (go (owned b c.trader c.number))
  where
    go : (o : Option Order) → change_of o k b (change_with r c) ok ≡ change_of o k b (change_with r' c) ok
    go None = refl
    go (Some o) = refl

-- the board after an entry shows no reserve
same_taken : (q : Bool) (n : ℕ) (e : OrderEntry) (r r' : ℕ) (ps : Table Privilege) → taken_at q n (entry_with r e) ps ≡ taken_at q n (entry_with r' e) ps
same_taken true n e r r' ps = refl
same_taken false n e r r' ps = refl

same-entered : (b : Board) (e : OrderEntry) (r r' : ℕ) → entered_board b (entry_with r e) ≡ entered_board b (entry_with r' e)
unfolding entered_board entered
same-entered b e r r' =
    λ i. record {
      orders = after.orders;
      phase = after.phase;
      clock = after.clock;
      counters = after.counters;
      session = after.session;
      completions = after.completions;
      privileges = same_taken (is_fbs b.phase && not (better e.side (entry_price b e.side e.price) b.session.price))
          b.counters.number e r r' b.privileges i;
    }
  where
    after : Board
    after = entered_board b (entry_with r e)

one-call : (k : Opening) (t : ℕ) (v v' : ℕ → ℕ) (b : Board) (h h' : ℕ → ℕ) (c d : Call) → Near v v' h h' → Alike k t c d →
    KeptAt k v v' (at b h) (at b h') c → Answered v v' c d (step k (at b h) c) (step k (at b h') d)
unfolding step draw
one-call k t v v' b h h' _ _ near (same (Entry e)) kept =
    enters v v' h h' near e e b.counters.number (entry_refusal k b e (is_size k e.reserve)) b (entered_board b e) (entered_board b e) refl
    (inl refl)
one-call k t v v' b h h' _ _ near (same (Change c)) kept =
    rewrites v v' h h' near c c (change_refusal k b c (is_size k c.reserve)) b (owned b c.trader c.number)
    (no_change k b c (is_size k c.reserve)) (owned-number b c.trader c.number) refl (λ p. refl) (inl refl)
one-call k t v v' b h h' _ _ near (same (Cancel c)) kept = go (owned b c.trader c.number)
  where
    x : Option Refusal
    x = cancel_refusal b c.trader c.number

    go : (o : Option Order) → Answered v v' (Cancel c) (Cancel c) (replied x (Ok Done) (at b h) (cancelled_state (at b h) o))
        (replied x (Ok Done) (at b h') (cancelled_state (at b h') o))
    go None = leaves v v' h h' near (Cancel c) x b b (λ a w. refl)
    go (Some o) = leaves v v' h h' near (Cancel c) x b (cancelled_board b o) (λ a w. refl)
one-call k t v v' b h h' _ _ near (same (Tick u)) kept =
    leaves v v' h h' near (Tick u) (tick_refusal b u) b (ticked_board b u) (λ a w. refl)
one-call k t v v' b h h' _ _ near (same Draw) kept =
    let stocked : Stocked v v' (hidden_after h (decided k b)) (hidden_after h' (decided k b)) =
    (λ n d. (above (h n) _ (kept n d).0 (near.positive n d).0, above (h' n) _ (kept n d).1 (near.positive n d).1)) in
    let q = same_step v v' h h' b (decided k b) near stocked in
    record {
      answer = ap (λ (r : Record). Ok (Drawn r)) q.told;
      after = record { board = q.board; near = record { agree = q.agree; positive = stocked } };
    }
one-call k t v v' b h h' _ _ near (entries e r r' by w w') kept =
    unfold entry_refusal entry_tests in
    rw (w.size, w'.size)
    (enters v v' h h' near (entry_with r e) (entry_with r' e) b.counters.number (entry_refusal k b (entry_with r e) true) b
    (entered_board b (entry_with r e)) (entered_board b (entry_with r' e)) (same-entered b e r r') (inr (w.positive, w'.positive)))
one-call k t v v' b h h' _ _ near (changes c r r' by w w') kept =
    rw (w.size, w'.size, same-refusal k b c r' r true)
    (rewrites v v' h h' near (change_with r c) (change_with r' c) (change_refusal k b (change_with r c) true) b (owned b c.trader c.number)
    (no_change k b (change_with r c) true) (owned-number b c.trader c.number) refl (λ p. unfold changed_board changed in refl)
    (inr (w.positive, w'.positive)))

step-alike : (k : Opening) (t : ℕ) (v v' : ℕ → ℕ) (S S' : State) (c d : Call) → Twins v v' S S' → Alike k t c d → KeptAt k v v' S S' c →
    Answered v v' c d (step k S c) (step k S' d)
step-alike k t v v' S S' c d q w =
    subst (λ (b : Board). KeptAt k v v' S (at b S'.hidden) c → Answered v v' c d (step k S c) (step k (at b S'.hidden) d)) q.board
    (one-call k t v v' S.board S.hidden S'.hidden c d q.near w)

-- ---- lists of calls

-- nor does any draw
abbrev pub Kept : Opening → (v v' : ℕ → ℕ) → State → State → List Call → List Call → Type 0
Kept k v v' S S' [] ds = Unit {0}
Kept k v v' S S' (c ∷ cs) [] = Unit {0}
Kept k v v' S S' (c ∷ cs) (d ∷ ds) =
    KeptAt k v v' S S' c ×
    Kept k (noted c (step k S c).0 v) (noted d (step k S' d).0 v') (step k S c).1 (step k S' d).1 cs ds

-- what the two runs have in common
pub record Common (k : Opening) (S S' : State) (cs ds : List Call) : Type 0 where
  pub answered : answers k S cs ≡ answers k S' ds
  pub board : (run k S cs).board ≡ (run k S' ds).board
  pub learnt : (t : ℕ) → learned t k S cs ≡ learned t k S' ds

same-caller : (k : Opening) (t : ℕ) (c d : Call) → Alike k t c d → caller_of c ≡ caller_of d
same-caller k t _ _ (same c) = refl
same-caller k t _ _ (entries e r r' by w w') = refl
same-caller k t _ _ (changes c r r' by w w') = refl

lesson : ℕ → Option ℕ → Answer → Board → Lesson
lesson t u a b = record { answer = only_if (not (names u t)) (Some a); bids = summary b Bid; offers = summary b Offer }

pub all_alike : (k : Opening) (t : ℕ) (v v' : ℕ → ℕ) (S S' : State) (cs ds : List Call) → Twins v v' S S' → AllZip (Alike k t) cs ds →
    Kept k v v' S S' cs ds → Common k S S' cs ds
unfolding run answers learned lesson
all_alike k t v v' S S' [] [] q w kept = record { answered = refl; board = q.board; learnt = λ u. refl }
all_alike k t v v' S S' [] (d ∷ ds) q w kept = absurd w
all_alike k t v v' S S' (c ∷ cs) [] q w kept = absurd w
all_alike k t v v' S S' (c ∷ cs) (d ∷ ds) q w kept =
    let r = step-alike k t v v' S S' c d q w.0 kept.0 in
    let rest = all_alike k t (noted c (step k S c).0 v) (noted d (step k S' d).0 v') (step k S c).1 (step k S' d).1 cs ds r.after w.1 kept.1 in
    let who = same-caller k t c d w.0 in
    record {
      answered = ap₂ {B = List Answer} ◌∷◌ r.answer rest.answered;
      board = rest.board;
      learnt = λ u. ap₂ {B = List Lesson} ◌∷◌ (λ i. lesson u (who i) (r.answer i) (r.after.board i)) (rest.learnt u);
    }
