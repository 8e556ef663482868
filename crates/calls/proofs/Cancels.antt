-- A cancel takes its order from the board and the lines. Assumes nothing.
use Rattle.std.proofs.Common.{◌≡◌, IsErrAnd, Some, None, Ok, Option, Result, sym, refl, ap, ◌∙◌, subst}
use Rattle.line.specs.declared.lines.Line.{Ghosts}
use Rattle.market.specs.declared.order.Order.{Order}
use Rattle.market.specs.Ranks.{BidRank, OfferRank}
use Rattle.market.specs.declared.rank.EndTime.{EndTime}
use Rattle.market.specs.declared.call.OrderCancel.{OrderCancel}
use Rattle.market.specs.declared.call.Call.TheVariants.{Cancel}
use Rattle.market.specs.declared.refusal.Refusal.{Refusal}
use Rattle.market.specs.declared.answer.Accepted.TheVariants.{Done}
use Rattle.rules.specs.Board.{Opening, Board, State}
use Rattle.rules.specs.Members.{In}
use Rattle.rules.specs.Standings.{standing}
use Rattle.rules.specs.Privileges.{freed}
use Rattle.rules.specs.Refusing.{owned, cancel_refusal}
use Rattle.rules.specs.Calls.{cancelled_board, cancelled_state, step}
use Rattle.invariants.specs.Sound.{Sound}
use Rattle.invariants.proofs.Passes.{owned_in}
use Rattle.board.specs.Memory.{Reserved}
use Rattle.effects.specs.Effects.{Cancels}
use Rattle.memory.specs.declared.memory.Memory.{Memory}
use Rattle.memory.specs.declared.entries.Entries.{Entries}
use Rattle.memory.specs.Entries.{entries_of, no_entries}
use Rattle.memory.specs.Shown.{Shows, Relisted}
use Rattle.memory.proofs.Kept.{freed-unseen, standing-unseen}
use Rattle.memory.proofs.Showing.{Untouched, shows-replaced}
use Rattle.calls.specs.Obeys.{plain_answer}
use Rattle.calls.proofs.Replies.{broken, Replies, refused, accepted}

module _ {L B O E : Type 0} (bl : Ghosts B BidRank) (ol : Ghosts O OfferRank) (el : Ghosts E EndTime) where
  pub cancel-refused : (m : Memory L B O E) (k : Opening) (S : State) (c : OrderCancel) (r : Result (Unit {0}) Refusal) (x : Refusal) →
      IsErrAnd r (λ y. y ≡ x) → cancel_refusal m.board c.trader c.number ≡ Some x → Shows bl ol el m k S →
      Replies bl ol el m k (plain_answer r) (step k S (Cancel c))
  unfolding step
  cancel-refused m k S c r x h e w =
      refused bl ol el m k S _ (Ok Done) (plain_answer r) _ x (ap (λ (b : Board). cancel_refusal b c.trader c.number) (sym w.board) ∙ e)
      (ap (λ (z : Result (Unit {0}) Refusal). plain_answer z) (broken r h)) w

  -- the board and the reserves let the order go, then the lines
  cancelled : (m m₁ m' : Memory L B O E) (k : Opening) (S : State) (o : Order) (old new : Entries) → Sound k S → Shows bl ol el m k S →
      In o S.board.orders → Untouched bl ol el m m₁ →
      Cancels o m.board m₁.board m.reserves.items m₁.reserves.items →
      old ≡ entries_of m.board o → new ≡ no_entries → Relisted bl ol el m₁ m' old new →
      Shows bl ol el m' k (cancelled_state S (Some o))
  unfolding cancelled_board standing
  cancelled m m₁ m' k S o old new sound w here u done e f made =
      let b = S.board in
      let n = b.counters.number in
      let up = sound.row.rising in
      let did = subst (λ (v : Board). Cancels o v m₁.board m.reserves.items m₁.reserves.items) w.board done in
      let is : m₁.board ≡ cancelled_board b o = did.board 1 n up in
      shows-replaced bl ol el m m₁ m' k S (cancelled_state S (Some o)) o None old new n up w here tt tt refl
      (λ p i d. standing-unseen o.number (freed o.number) o.trader o.side b.phase b.session.buyer b.session.seller b.privileges p
      (freed-unseen o.number) d)
      u is (subst (λ (v : Board). Reserved S.hidden v.orders m₁.reserves.items) is (did.reserves 1 n S.hidden up w.reserves))
      (e ∙ ap (λ (v : Board). entries_of v o) w.board) f made

  pub cancel-done : (m m₁ m' : Memory L B O E) (k : Opening) (S : State) (c : OrderCancel) (o : Order) (old new : Entries) → Sound k S →
      (cancel_refusal m.board c.trader c.number ≡ None) × (owned m.board c.trader c.number ≡ Some o) →
      Shows bl ol el m k S → Untouched bl ol el m m₁ →
      Cancels o m.board m₁.board m.reserves.items m₁.reserves.items →
      old ≡ entries_of m.board o → new ≡ no_entries → Relisted bl ol el m₁ m' old new →
      Replies bl ol el m' k (Ok Done) (step k S (Cancel c))
  unfolding step
  cancel-done m m₁ m' k S c o old new sound h w u done e f made =
      let found : owned S.board c.trader c.number ≡ Some o = ap (λ (b : Board). owned b c.trader c.number) (sym w.board) ∙ h.1 in
      accepted bl ol el m' k S _ (Ok Done) (Ok Done) _ (ap (λ (b : Board). cancel_refusal b c.trader c.number) (sym w.board) ∙ h.0) refl
      (subst (λ (x : Option Order). Shows bl ol el m' k (cancelled_state S x)) (sym found)
      (cancelled m m₁ m' k S o old new sound w (owned_in S.board c.trader c.number o found).0 u done e f made))
