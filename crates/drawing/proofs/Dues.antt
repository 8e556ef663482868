-- What is due, part by part, is what the rules decide on. Assumes nothing.
use Rattle.std.proofs.Common.{◌≡◌, ℕ, Bool, true, false, ◌&&◌, Some, None, Option, sym, refl, ap, ◌∙◌, subst}
use Rattle.line.specs.declared.lines.Line.{Ghosts}
use Rattle.market.specs.Ranks.{BidRank, OfferRank, bid_ahead, offer_ahead, end_ahead}
use Rattle.market.specs.declared.order.Side.{Side}
use Rattle.market.specs.declared.order.Side.TheVariants.{Bid, Offer}
use Rattle.market.specs.declared.order.Order.{Order}
use Rattle.market.specs.declared.state.Phase.{Phase}
use Rattle.market.specs.declared.state.Phase.TheVariants.{Open, Timed, Rolling, Fbs}
use Rattle.market.specs.declared.record.Cause.{Cause}
use Rattle.market.specs.declared.rank.EndTime.{EndTime}
use Rattle.rules.specs.Base.{or_else, only_if, find, first}
use Rattle.rules.specs.Board.{Opening, Board, State, other, on, meet, is_open}
use Rattle.rules.specs.Standings.{ahead}
use Rattle.rules.specs.Entitlement.{first_entitled}
use Rattle.rules.specs.Draws.{Step, begins, fills, removes, rests, both, incoming_of, passive_for, opening, pairing, goes, as_removal, removing, phase_end, expiring, earlier, coming, decided}
use Rattle.board.specs.EndTimes.{end_time}
use Rattle.queues.specs.Lists.{InStep}
use Rattle.queues.specs.Entries.{bid_entry, offer_entry}
use Rattle.draws.specs.Removals.{with_cause, removal_due}
use Rattle.invariants.specs.Sound.{Sound}
use Rattle.memory.specs.declared.memory.Memory.{Memory}
use Rattle.memory.specs.Shown.{Shows}

-- ---- a session

-- none begins but in Open
pub closed : (b : Board) → (b.phase ≡ Open → ⊥) → None ≡ opening b
unfolding opening
closed b h = go b.phase h
  where
    trigger : Option Order
    trigger = incoming_of b.counters.incoming b.orders

    go : (p : Phase) → (p ≡ Open → ⊥) → None ≡ only_if (is_open p && meet b.orders) (both begins trigger (passive_for b trigger))
    go Open n = absurd (n refl)
    go Timed n = refl
    go Rolling n = refl
    go Fbs n = refl

-- nor while prices do not meet
pub apart : (b : Board) → b.phase ≡ Open → false ≡ meet b.orders → None ≡ opening b
unfolding opening
apart b o e =
    let trigger = incoming_of b.counters.incoming b.orders in
    ap (λ (v : Phase). only_if (is_open v && false) (both begins trigger (passive_for b trigger))) (sym o) ∙
    ap (λ (v : Bool). only_if (is_open b.phase && v) (both begins trigger (passive_for b trigger))) e

-- the incoming order, if it is live, begins one with the order that it meets
pub met : (b : Board) (t p : Option Order) → b.phase ≡ Open → true ≡ meet b.orders →
    t ≡ incoming_of b.counters.incoming b.orders → p ≡ passive_for b t → both begins t p ≡ opening b
unfolding opening
met b t p o e f h =
    ap (both begins t) h ∙ ap (λ (v : Option Order). both begins v (passive_for b v)) f ∙
    ap (λ (v : Phase). only_if (is_open v && true) (both begins trigger (passive_for b trigger))) (sym o) ∙
    ap (λ (v : Bool). only_if (is_open b.phase && v) (both begins trigger (passive_for b trigger))) e
  where
    trigger : Option Order
    trigger = incoming_of b.counters.incoming b.orders

-- ---- the other steps

pub paired : (b : Board) (x y : Option Order) → x ≡ first_entitled b Bid → y ≡ first_entitled b Offer → both fills x y ≡ pairing b
unfolding pairing
paired b x y e f = ap (λ (v : Option Order). both fills v y) e ∙ ap (both fills (first_entitled b Bid)) f

abbrev pub removal : Option (Order × Cause) → Option Step
removal None = None
removal (Some x) = Some (removes x.0 x.1)

pub gone : (b : Board) (r : Option (Order × Cause)) → r ≡ removal_due b → removal r ≡ removing b
unfolding removing
gone b r e = ap removal e ∙ go (find (goes b) b.orders)
  where
    go : (o : Option Order) → removal (with_cause o) ≡ as_removal o
    go None = refl
    go (Some o) = refl

-- the first of them that is there
pub first-due : (k : Opening) (b : Board) (p q r s : Option Step) → p ≡ opening b → q ≡ pairing b → r ≡ removing b → s ≡ coming k b →
    or_else p (or_else q (or_else r (or_else s rests))) ≡ decided k b
unfolding decided
first-due k b p q r s pe qe re se =
    ap (λ (v : Option Step). or_else v (or_else q (or_else r (or_else s rests)))) pe ∙
    ap (λ (v : Option Step). or_else (opening b) (or_else v (or_else r (or_else s rests)))) qe ∙
    ap (λ (v : Option Step). or_else (opening b) (or_else (pairing b) (or_else v (or_else s rests)))) re ∙
    ap (λ (v : Option Step). or_else (opening b) (or_else (pairing b) (or_else (removing b) (or_else v rests)))) se

-- ---- in memory

module _ {L B O E : Type 0} (bl : Ghosts B BidRank) (ol : Ghosts O OfferRank) (el : Ghosts E EndTime) where
  -- its lines are in step with its board
  pub bids-in-step : (m : Memory L B O E) (k : Opening) (S : State) → Sound k S → Shows bl ol el m k S →
      InStep bid_ahead bid_entry bl m.bids m.board
  bids-in-step m k S s w =
      subst (InStep bid_ahead bid_entry bl m.bids) (sym w.board)
      (record { below = S.board.counters.number; rising = s.row.rising; lists = w.queued.bids })

  pub offers-in-step : (m : Memory L B O E) (k : Opening) (S : State) → Sound k S → Shows bl ol el m k S →
      InStep offer_ahead offer_entry ol m.offers m.board
  offers-in-step m k S s w =
      subst (InStep offer_ahead offer_entry ol m.offers) (sym w.board)
      (record { below = S.board.counters.number; rising = s.row.rising; lists = w.queued.offers })

  pub ends-in-step : (m : Memory L B O E) (k : Opening) (S : State) → Sound k S → Shows bl ol el m k S →
      InStep end_ahead (λ b. end_time) el m.ends m.board
  ends-in-step m k S s w =
      subst (InStep end_ahead (λ b. end_time) el m.ends) (sym w.board)
      (record { below = S.board.counters.number; rising = s.row.rising; lists = w.queued.ends })

  pub meets-there : (m : Memory L B O E) (k : Opening) (S : State) (meets : Bool) → Shows bl ol el m k S → meets ≡ meet S.board.orders →
      meets ≡ meet m.board.orders
  meets-there m k S meets w e = e ∙ ap (λ (b : Board). meet b.orders) (sym w.board)

  -- the order that one of this side meets
  pub passive : (m : Memory L B O E) (k : Opening) (S : State) (o : Order) (s : Side) (r : Option Order) → Shows bl ol el m k S → o.side ≡ s →
      r ≡ first (on (other s)) (ahead m.board) m.board.orders → r ≡ passive_for S.board (Some o)
  passive m k S o s r w e f =
      f ∙ ap (λ (v : Side). first (on (other v)) (ahead m.board) m.board.orders) (sym e) ∙
      ap (λ (b : Board). passive_for b (Some o)) w.board

  pub comes : (m : Memory L B O E) (k : Opening) (S : State) (u : ℕ) (t : Option ℕ) (x : Option (Order × ℕ)) → Shows bl ol el m k S →
      u ≡ m.board.clock.wished →
      t ≡ phase_end m.board.phase m.settings m.board.session → x ≡ expiring u m.board.orders →
      earlier u t x ≡ coming k S.board
  unfolding coming
  comes m k S u t x w h e f =
      let wished = m.board.clock.wished in
      ap (λ (v : ℕ). earlier v t x) h ∙
      ap (λ (v : Option ℕ). earlier wished v x) e ∙
      ap (earlier wished (phase_end m.board.phase m.settings m.board.session)) (f ∙ ap (λ (v : ℕ). expiring v m.board.orders) h) ∙
      ap (λ (o : Opening). coming o m.board) w.opening ∙ ap (coming k) w.board
