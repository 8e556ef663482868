-- A step that is due is a draw; and what is never due. Assumes nothing.
use Rattle.std.proofs.Common.{◌≡◌, ℕ, false, ◌&&◌, Ok, sym, ap, ◌∙◌, subst}
use Rattle.std.proofs.lemmas.Bool.{and_parts, both_ways}
use Rattle.line.specs.declared.lines.Line.{Ghosts}
use Rattle.market.specs.declared.order.Order.{Order}
use Rattle.market.specs.declared.state.Phase.{Phase}
use Rattle.market.specs.declared.state.Phase.TheVariants.{Open}
use Rattle.market.specs.declared.record.Record.{Record}
use Rattle.market.specs.declared.answer.Accepted.TheVariants.{Drawn}
use Rattle.market.specs.Ranks.{BidRank, OfferRank}
use Rattle.market.specs.declared.rank.EndTime.{EndTime}
use Rattle.rules.specs.Base.{is_some}
use Rattle.rules.specs.Board.{Opening, Board, State, is_open, meet}
use Rattle.rules.specs.Draws.{Step, begins, turns, incoming_of, phase_end, decided, record_of, draw}
use Rattle.rules.specs.Calls.{step}
use Rattle.rules.proofs.Tests.{none≢some}
use Rattle.rules.proofs.Reasons.{Why, why}
use Rattle.memory.specs.declared.memory.Memory.{Memory}
use Rattle.memory.specs.Shown.{Shows, Whenever}
use Rattle.drawing.specs.Does.{after, Does, Draws}

module _ {L B O E : Type 0} (bl : Ghosts B BidRank) (ol : Ghosts O OfferRank) (el : Ghosts E EndTime) where
  pub drawn : (m m' : Memory L B O E) (d : Step) (r : Record) →
      Whenever bl ol el m (λ k S. d ≡ decided k S.board) → Does bl ol el m m' d r → Draws bl ol el m m' r
  unfolding step draw
  drawn m m' d r due does k S sound w =
      let e = due k S sound w in
      let done = does k S sound w (sym e) in (
        subst (λ (x : Step). Shows bl ol el m' k (after S x)) e done.0,
        ap (λ (z : Record). Ok (Drawn z)) (done.1 ∙ ap (record_of S.hidden S.board) e),
      )

  phase-there : (m : Memory L B O E) (k : Opening) (S : State) (p : Phase) → Shows bl ol el m k S → m.board.phase ≡ p → S.board.phase ≡ p
  phase-there m k S p w e = sym (ap (λ (b : Board). b.phase) w.board) ∙ e

  -- a session begins in Open alone
  pub not-begun : (m : Memory L B O E) (k : Opening) (S : State) (p : Phase) (x y : Order) → Shows bl ol el m k S → m.board.phase ≡ p →
      is_open p ≡ false → begins x y ≡ decided k S.board → ⊥
  not-begun m k S p x y w e f d =
      let b = S.board in
      let begun = (subst (Why k b) (sym d) (why k b)).begun in
      let crossed = (and_parts (is_open b.phase && meet b.orders) (is_some (incoming_of b.counters.incoming b.orders)) begun).0 in
      both_ways (is_open b.phase) (ap is_open (phase-there m k S p w e) ∙ f) (and_parts (is_open b.phase) (meet b.orders) crossed).0

  -- Open does not end by itself
  pub not-ended : (m : Memory L B O E) (k : Opening) (S : State) (t : ℕ) → Shows bl ol el m k S → m.board.phase ≡ Open →
      turns t ≡ decided k S.board → ⊥
  not-ended m k S t w e d =
      let b = S.board in
      let ends = (subst (Why k b) (sym d) (why k b)).ends in
      none≢some (sym (ap (λ (p : Phase). phase_end p k.settings b.session) (phase-there m k S Open w e)) ∙ ends)
