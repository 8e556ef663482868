-- A change ranks its order anew, and leaves the others as they stood. Assumes nothing.
use Rattle.std.proofs.Common.{◌≡◌, ℕ, Bool, true, false, IsErrAnd, Some, None, Ok, Option, Result, sym, refl, ap, ◌∙◌, subst}
use Rattle.line.specs.declared.lines.Line.{Ghosts}
use Rattle.market.specs.declared.settings.Settings.{Settings}
use Rattle.market.specs.declared.order.Order.{Order}
use Rattle.market.specs.declared.state.Phase.{Phase}
use Rattle.market.specs.declared.state.Privilege.{Privilege}
use Rattle.market.specs.Ranks.{BidRank, OfferRank}
use Rattle.market.specs.declared.rank.EndTime.{EndTime}
use Rattle.market.specs.declared.call.OrderChange.{OrderChange}
use Rattle.market.specs.declared.call.Call.TheVariants.{Change}
use Rattle.market.specs.declared.refusal.Refusal.{Refusal}
use Rattle.market.specs.declared.answer.Accepted.TheVariants.{Done}
use Rattle.rules.specs.Base.{write}
use Rattle.rules.specs.Board.{Opening, Board, State, Table}
use Rattle.rules.specs.Members.{In}
use Rattle.rules.specs.Standings.{standing_in, standing}
use Rattle.rules.specs.Privileges.{lost}
use Rattle.rules.specs.Refusing.{is_size, owned, change_refusal}
use Rattle.rules.specs.Calls.{takes_stamp, changed, lost_at, changed_board, changed_state, step}
use Rattle.invariants.specs.Sound.{Sound}
use Rattle.invariants.proofs.Passes.{owned_in}
use Rattle.board.specs.Memory.{Reserved}
use Rattle.effects.specs.Effects.{Changes}
use Rattle.memory.specs.declared.memory.Memory.{Memory}
use Rattle.memory.specs.declared.entries.Entries.{Entries}
use Rattle.memory.specs.Entries.{entries_of}
use Rattle.memory.specs.Shown.{Shows, Relisted}
use Rattle.memory.proofs.Bounds.{bounded}
use Rattle.memory.proofs.Kept.{lost-unseen, standing-unseen}
use Rattle.memory.proofs.Showing.{Untouched, shows-replaced}
use Rattle.calls.specs.Obeys.{plain_answer}
use Rattle.calls.proofs.Replies.{broken, Replies, refused, accepted}

lost-stands : (q : Bool) (o : Order) (ph : Phase) (x y : Option ℕ) (ps : Table Privilege) (p : Order) → ¬ (p.number ≡ o.number) →
    standing_in ph x y (lost_at q o ps) p ≡ standing_in ph x y ps p
lost-stands false o ph x y ps p h = refl
lost-stands true o ph x y ps p h = standing-unseen o.number (lost o.number) o.trader o.side ph x y ps p (lost-unseen o.number) h

other-stands : (b : Board) (c : OrderChange) (o p : Order) → ¬ (p.number ≡ o.number) → standing (changed_board b c o) p ≡ standing b p
unfolding changed_board standing
other-stands b c o p h = lost-stands _ o b.phase b.session.buyer b.session.seller b.privileges p h

-- what a change is told, at any opening with these settings
abbrev pub Told : Settings → Board → OrderChange → Option Refusal → Type 0
Told s b c q = (k : Opening) → k.settings ≡ s → change_refusal k b c (is_size k c.reserve) ≡ q

module _ {L B O E : Type 0} (bl : Ghosts B BidRank) (ol : Ghosts O OfferRank) (el : Ghosts E EndTime) where
  told_here : (m : Memory L B O E) (k : Opening) (S : State) (c : OrderChange) (q : Option Refusal) → Shows bl ol el m k S →
      Told m.settings m.board c q → change_refusal k S.board c (is_size k c.reserve) ≡ q
  told_here m k S c q w told =
      subst (λ (v : Board). Told m.settings v c q) w.board told k (sym (ap (λ (x : Opening). x.settings) w.opening))

  pub change-refused : (m : Memory L B O E) (k : Opening) (S : State) (c : OrderChange) (r : Result (Unit {0}) Refusal) (x : Refusal) →
      IsErrAnd r (λ y. y ≡ x) → Told m.settings m.board c (Some x) → Shows bl ol el m k S →
      Replies bl ol el m k (plain_answer r) (step k S (Change c))
  unfolding step
  change-refused m k S c r x h told w =
      refused bl ol el m k S _ (Ok Done) (plain_answer r) _ x (told_here m k S c (Some x) w told)
      (ap (λ (z : Result (Unit {0}) Refusal). plain_answer z) (broken r h)) w

  -- the board and the reserves are written anew, then the lines
  changed-shown : (m m₁ m' : Memory L B O E) (k : Opening) (S : State) (c : OrderChange) (o o' : Order) (old new : Entries) → Sound k S →
      Shows bl ol el m k S → In o S.board.orders → Untouched bl ol el m m₁ →
      Changes c o o' m.board m₁.board m.reserves.items m₁.reserves.items →
      old ≡ entries_of m.board o → new ≡ entries_of m₁.board o' → Relisted bl ol el m₁ m' old new →
      Shows bl ol el m' k (changed_state S c (Some o))
  unfolding changed_board changed
  changed-shown m m₁ m' k S c o o' old new sound w here u done e f made =
      let b = S.board in
      let n = b.counters.number in
      let up = sound.row.rising in
      let did = subst (λ (v : Board). Changes c o o' v m₁.board m.reserves.items m₁.reserves.items) w.board done in
      let is : m₁.board ≡ changed_board b c o = did.board 1 n (bounded k S sound) up in
      shows-replaced bl ol el m m₁ m' k S (changed_state S c (Some o)) o (Some (changed c (takes_stamp c o) b.counters.stamp o)) old new n up w here refl
      (refl, refl) refl (λ p i d. other-stands b c o p d) u is
      (subst (λ (v : Board). Reserved (write o.number c.reserve S.hidden) v.orders m₁.reserves.items) is
      (did.reserves 1 n S.hidden up w.reserves))
      (e ∙ ap (λ (v : Board). entries_of v o) w.board)
      (f ∙ ap (λ (v : Board). entries_of v o') is ∙ ap (λ (x : Order). entries_of (changed_board b c o) x) did.order) made

  pub change-done : (m m₁ m' : Memory L B O E) (k : Opening) (S : State) (c : OrderChange) (o o' : Order) (old new : Entries) → Sound k S →
      ((j : Opening) → j.settings ≡ m.settings →
      (change_refusal j m.board c (is_size j c.reserve) ≡ None) × (owned m.board c.trader c.number ≡ Some o)) →
      Shows bl ol el m k S → Untouched bl ol el m m₁ →
      Changes c o o' m.board m₁.board m.reserves.items m₁.reserves.items →
      old ≡ entries_of m.board o → new ≡ entries_of m₁.board o' → Relisted bl ol el m₁ m' old new →
      Replies bl ol el m' k (Ok Done) (step k S (Change c))
  unfolding step
  change-done m m₁ m' k S c o o' old new sound h w u done e f made =
      let here = sym (ap (λ (x : Opening). x.settings) w.opening) in
      let found : owned S.board c.trader c.number ≡ Some o = ap (λ (b : Board). owned b c.trader c.number) (sym w.board) ∙ (h k here).1 in
      accepted bl ol el m' k S _ (Ok Done) (Ok Done) _ (told_here m k S c None w (λ j i. (h j i).0)) refl
      (subst (λ (x : Option Order). Shows bl ol el m' k (changed_state S c x)) (sym found)
      (changed-shown m m₁ m' k S c o o' old new sound w (owned_in S.board c.trader c.number o found).0 u done e f made))
