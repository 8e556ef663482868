-- A session begins. Assumes nothing.
use Rattle.std.proofs.Common.{◌≡◌, ℕ, Bool, true, false, ◌&&◌, List, [], ◌∷◌, ℤ, Some, None, Option, sym, refl, ap, ◌∙◌, subst, inl, inr}
use Rattle.std.proofs.lemmas.Bool.{false≢true, and_parts, eqb-true, cond-false}
use Rattle.line.specs.declared.lines.Line.{Ghosts}
use Rattle.market.specs.declared.order.Side.{Side}
use Rattle.market.specs.declared.order.Side.TheVariants.{Bid, Offer}
use Rattle.market.specs.declared.order.Order.{Order}
use Rattle.market.specs.declared.state.Phase.{Phase}
use Rattle.market.specs.declared.state.Phase.TheVariants.{Open, Timed, Rolling, Fbs}
use Rattle.market.specs.declared.record.Record.TheVariants.{Session}
use Rattle.market.specs.declared.standing.Standing.{Standing}
use Rattle.market.specs.declared.rank.Rank.{Rank}
use Rattle.market.specs.Ranks.{BidRank, OfferRank}
use Rattle.market.specs.declared.rank.EndTime.{EndTime}
use Rattle.rules.specs.Base.{is_some, only_if, each}
use Rattle.rules.specs.Board.{Opening, Board, State, on, meet, is_fbs, is_open, numbered}
use Rattle.rules.specs.Fills.{replacing, replace}
use Rattle.rules.specs.Standings.{standing}
use Rattle.rules.specs.Draws.{begins, incoming_of, decided, started, begun_board, record_of, board_after, hidden_after}
use Rattle.rules.specs.Members.{In}
use Rattle.rules.specs.Rising.{Ascends}
use Rattle.rules.proofs.Tests.{none≢some}
use Rattle.rules.proofs.Rows.{ascends-unique, ordered-in}
use Rattle.rules.proofs.Reasons.{Begins, Why, why}
use Rattle.board.specs.EndTimes.{end_time}
use Rattle.queues.specs.Entries.{bid_entry, offer_entry, side_entry}
use Rattle.queues.proofs.Kept.{lists-alike}
use Rattle.invariants.specs.Sound.{Sound}
use Rattle.memory.specs.declared.memory.Memory.{Memory}
use Rattle.memory.specs.declared.entries.Entries.{Entries}
use Rattle.memory.specs.Entries.{entries_of}
use Rattle.memory.specs.Shown.{Queued, Shows, Relisted}
use Rattle.memory.proofs.Queues.{requeued, queued-by, opening-alone, opening-relisted}
use Rattle.drawing.specs.Does.{after}
use Rattle.drawing.proofs.Boards.{with_board}
use Rattle.drawing.proofs.Plain.{plainly, stands_alike}

-- ---- why it begins

trigger-in : (r : Option ℕ) (os : List Order) (x : Order) → incoming_of r os ≡ Some x → In x os
trigger-in None os x e = absurd (none≢some e)
trigger-in (Some n) os x e = (ordered-in n os x e).0

open_plain : (p : Phase) → is_open p ≡ true → is_fbs p ≡ false
open_plain Open h = refl
open_plain Timed h = refl
open_plain Rolling h = refl
open_plain Fbs h = absurd (false≢true h)

-- the trigger is live, and the FBS Period is not on
ready : (b : Board) (x y : Order) → Begins b x y → In x b.orders × (is_fbs b.phase ≡ false)
ready b x y w =
    let met = (and_parts (is_open b.phase && meet b.orders) (is_some (incoming_of b.counters.incoming b.orders)) w.begun).0 in
    (trigger-in b.counters.incoming b.orders x w.trigger, open_plain b.phase (and_parts (is_open b.phase) (meet b.orders) met).0)

-- ---- orders that are all changed

module _ {X : Type 0} (e : Order → X) (f : Order → Order) where
  cons : {x y : X} {xs ys : List X} → x ≡ y → xs ≡ ys → (x ∷ xs) ≡ (y ∷ ys)
  cons p q = cc

  each-kept : ((o : Order) → e (f o) ≡ e o) → (os : List Order) → each e (each f os) ≡ each e os
  unfolding each
  each-kept same [] = refl
  each-kept same (o ∷ os) = cons (same o) (each-kept same os)

  -- the change is seen of x alone, the only order with its number
  each-replaced : (x : Order) (os : List Order) → ((o : Order) → In o os → o.number ≡ x.number → o ≡ x) →
      ((o : Order) → numbered x.number o ≡ false → e (f o) ≡ e o) → each e (replace x.number (Some (f x)) os) ≡ each e (each f os)
  unfolding each replace
  each-replaced x [] one same = refl
  each-replaced x (o ∷ os) one same = go (numbered x.number o) refl (each-replaced x os (λ p i. one p (inr i)) same)
    where
      rest : List Order
      rest = replace x.number (Some (f x)) os

      go : (q : Bool) → numbered x.number o ≡ q → each e rest ≡ each e (each f os) →
          each e (replacing q (Some (f x)) o rest) ≡ (e (f o) ∷ each e (each f os))
      go true is ih = cons (ap (λ (p : Order). e (f p)) (sym (one o (inl refl) (eqb-true o.number x.number is)))) ih
      go false is ih = cons (sym (same o is)) ih

-- ---- entries as a session starts

-- an order that is not the trigger keeps its price and its stamp, by which alone it stands
entry-kept : {P : Type 0} (side : Side) (of : ℤ → P) (b : Board) (n : ℕ) (s : Side) (p : ℤ) (o : Order) → is_fbs b.phase ≡ false →
    numbered n o ≡ false → side_entry side of b (started n s p o) ≡ side_entry side of b o
unfolding started
entry-kept {P} side of b n s p o h is =
    let make : ℤ → Standing → Option (Rank P) = λ q t. only_if (on side o) (Some (record { price = of q; standing = t; number = o.number })) in
    ap (λ q. make q (standing b (started n s p o))) (cond-false (numbered n o) p o.price is) ∙
    ap (make o.price) (plainly b (started n s p o) h ∙ sym (plainly b o h))

-- ---- the book

module _ {L B O E : Type 0} (bl : Ghosts B BidRank) (ol : Ghosts O OfferRank) (el : Ghosts E EndTime) where
  -- the lines list the trigger as it starts, and so all orders as they start
  all-started : (m : Memory L B O E) (b : Board) (os : List Order) (x : Order) (s : Side) (p : ℤ) (n : ℕ) → Ascends 1 n os → In x os → is_fbs b.phase ≡ false →
      Queued bl ol el m (replace x.number (Some (started x.number s p x)) os) b → Queued bl ol el m (each (started x.number s p) os) b
  unfolding started
  all-started m b os x s p n up here h q =
      let f = started x.number s p in
      let before = replace x.number (Some (f x)) os in
      let one : (o : Order) → In o os → o.number ≡ x.number → o ≡ x = λ o i e. ascends-unique 1 n os o x up i here e in
      record {
        bids = lists-alike bl m.bids before (each f os) (bid_entry b) (bid_entry b)
            (each-replaced (bid_entry b) f x os one (λ o is. entry-kept Bid (λ q. record { 0 = q }) b x.number s p o h is)) q.bids;
        offers = lists-alike ol m.offers before (each f os) (offer_entry b) (offer_entry b)
            (each-replaced (offer_entry b) f x os one (λ o is. entry-kept Offer (λ q. q) b x.number s p o h is)) q.offers;
        ends = lists-alike el m.ends before (each f os) end_time end_time (each-replaced end_time f x os one (λ o is. refl)) q.ends;
      }

  -- z is the trigger as it starts, at the price of the passive order
  pub begun : (m m' : Memory L B O E) (held : Board) (k : Opening) (S : State) (x y z : Order) (p : ℤ) (old new : Entries) → Sound k S → Shows bl ol el m k S →
      decided k S.board ≡ begins x y → held ≡ begun_board m.board x y → p ≡ y.price → z ≡ started x.number y.side p x →
      old ≡ entries_of m.board x → new ≡ entries_of held z → Relisted bl ol el (with_board m held) m' old new →
      Shows bl ol el m' k (after S (begins x y)) × (Session m'.board.clock.time p y.number ≡ record_of S.hidden S.board (begins x y))
  unfolding board_after hidden_after record_of begun_board started
  begun m m' held k S x y z p old new sound w d is e ze oe ne made =
      let b = S.board in
      let b' = begun_board b x y in
      let m₁ = with_board m held in
      let f = started x.number y.side y.price in
      let n = b.counters.number in
      let up = sound.row.rising in
      let there = ready b x y (subst (Why k b) d (why k b)) in
      let here : held ≡ b' = is ∙ ap (λ (v : Board). begun_board v x y) w.board in
      let oe' : old ≡ entries_of b x = oe ∙ ap (λ (v : Board). entries_of v x) w.board in
      let ze' : z ≡ f x = ze ∙ ap (λ (q : ℤ). started x.number y.side q x) e in
      let ne' : new ≡ entries_of b' (f x) = ne ∙ ap (λ (v : Board). entries_of v z) here ∙ ap (entries_of b') ze' in
      let made' : Relisted bl ol el m₁ m' (entries_of b x) (entries_of b' (f x)) =
      subst (λ (v : Entries). Relisted bl ol el m₁ m' (entries_of b x) v) ne' (subst (λ (v : Entries). Relisted bl ol el m₁ m' v new) oe' made) in
      let board : m'.board ≡ b' = made.same.board ∙ here in (
        record {
          opening = opening-relisted bl ol el m₁ m' old new made ∙ opening-alone bl ol el m m₁ refl refl refl refl ∙ w.opening;
          board = board;
          reserves = each-kept (λ (o : Order). S.hidden o.number) f (λ o. refl) b.orders ∙ w.reserves ∙ sym (ap (λ v. v.items) made.same.reserves);
          queued = all-started m' b' b.orders x y.side y.price n up there.0 refl
              (requeued bl ol el m₁ m' b b' b.orders x (Some (f x)) n up there.0 refl (refl, refl) (λ o i u. stands_alike b b' o there.1 refl) made'
              (queued-by bl ol el m m₁ b.orders b refl refl refl w.queued));
        },
        ap (λ (q : ℤ). Session m'.board.clock.time q y.number) e ∙ ap (λ (v : Board). Session v.clock.time y.price y.number) board,
      )
