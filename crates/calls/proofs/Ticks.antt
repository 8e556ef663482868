-- A tick leaves orders and lines alone. Assumes nothing.
use Rattle.std.proofs.Common.{◌≡◌, ℕ, IsErrAnd, Some, None, Ok, Result, sym, refl, ap, ◌∙◌}
use Rattle.line.specs.declared.lines.Line.{Ghosts}
use Rattle.market.specs.Ranks.{BidRank, OfferRank}
use Rattle.market.specs.declared.rank.EndTime.{EndTime}
use Rattle.market.specs.declared.call.Call.TheVariants.{Tick}
use Rattle.market.specs.declared.refusal.Refusal.{Refusal}
use Rattle.market.specs.declared.answer.Accepted.TheVariants.{Done}
use Rattle.rules.specs.Board.{Opening, Board, State}
use Rattle.rules.specs.Standings.{standing}
use Rattle.rules.specs.Refusing.{tick_refusal}
use Rattle.rules.specs.Calls.{ticked_board, step}
use Rattle.memory.specs.declared.memory.Memory.{Memory}
use Rattle.memory.specs.Shown.{Shows}
use Rattle.memory.proofs.Showing.{Untouched, shows-still}
use Rattle.calls.specs.Obeys.{plain_answer}
use Rattle.calls.proofs.Replies.{broken, Replies, refused, accepted}

module _ {L B O E : Type 0} (bl : Ghosts B BidRank) (ol : Ghosts O OfferRank) (el : Ghosts E EndTime) where
  pub tick-refused : (m : Memory L B O E) (k : Opening) (S : State) (t : ℕ) (r : Result (Unit {0}) Refusal) (x : Refusal) →
      IsErrAnd r (λ y. y ≡ x) → tick_refusal m.board t ≡ Some x → Shows bl ol el m k S →
      Replies bl ol el m k (plain_answer r) (step k S (Tick t))
  unfolding step
  tick-refused m k S t r x h e w =
      refused bl ol el m k S _ (Ok Done) (plain_answer r) _ x (ap (λ (b : Board). tick_refusal b t) (sym w.board) ∙ e)
      (ap (λ (z : Result (Unit {0}) Refusal). plain_answer z) (broken r h)) w

  ticked : (m m' : Memory L B O E) (k : Opening) (S : State) (t : ℕ) → Shows bl ol el m k S → Untouched bl ol el m m' → m'.reserves ≡ m.reserves →
      m'.board ≡ ticked_board m.board t → Shows bl ol el m' k (record { board = ticked_board S.board t; hidden = S.hidden })
  unfolding ticked_board standing
  ticked m m' k S t w u r e =
      shows-still bl ol el m m' k S (record { board = ticked_board S.board t; hidden = S.hidden }) w u (e ∙ ap (λ (b : Board). ticked_board b t) w.board)
      (w.reserves ∙ sym (ap (λ x. x.items) r)) refl (λ p i. refl)

  pub tick-done : (m m' : Memory L B O E) (k : Opening) (S : State) (t : ℕ) → tick_refusal m.board t ≡ None → Shows bl ol el m k S →
      Untouched bl ol el m m' → m'.reserves ≡ m.reserves → m'.board ≡ ticked_board m.board t →
      Replies bl ol el m' k (Ok Done) (step k S (Tick t))
  unfolding step
  tick-done m m' k S t e w u r f =
      accepted bl ol el m' k S _ (Ok Done) (Ok Done) _ (ap (λ (b : Board). tick_refusal b t) (sym w.board) ∙ e) refl (ticked m m' k S t w u r f)
