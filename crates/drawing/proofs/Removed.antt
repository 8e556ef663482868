-- An order leaves the board and the lines. Assumes nothing.
use Rattle.std.proofs.Common.{◌≡◌, ℕ, None, sym, refl, ap, ◌∙◌, subst}
use Rattle.line.specs.declared.lines.Line.{Ghosts}
use Rattle.market.specs.declared.order.Order.{Order}
use Rattle.market.specs.declared.record.Cause.{Cause}
use Rattle.market.specs.declared.record.Record.{Record}
use Rattle.market.specs.declared.record.Record.TheVariants.{Removal}
use Rattle.market.specs.Ranks.{BidRank, OfferRank}
use Rattle.market.specs.declared.rank.EndTime.{EndTime}
use Rattle.rules.specs.Board.{Opening, Board, State}
use Rattle.rules.specs.Standings.{standing}
use Rattle.rules.specs.Privileges.{freed}
use Rattle.rules.specs.Draws.{removes, expires, decided, removed_board, record_of, board_after, hidden_after}
use Rattle.rules.specs.Members.{In}
use Rattle.rules.specs.Rising.{Ascends}
use Rattle.rules.proofs.Reasons.{Why, why}
use Rattle.board.specs.Memory.{Reserved}
use Rattle.draws.specs.Removals.{Kept}
use Rattle.invariants.specs.Sound.{Sound}
use Rattle.memory.specs.declared.memory.Memory.{Memory}
use Rattle.memory.specs.declared.entries.Entries.{Entries}
use Rattle.memory.specs.Entries.{entries_of, no_entries}
use Rattle.memory.specs.Shown.{Shows, Relisted}
use Rattle.memory.proofs.Kept.{freed-unseen, standing-unseen}
use Rattle.memory.proofs.Showing.{Untouched, shows-replaced}
use Rattle.drawing.specs.Does.{after, Leaves}

-- an order that is to go is live
removes-live : (k : Opening) (b : Board) (o : Order) (c : Cause) → decided k b ≡ removes o c → In o b.orders
removes-live k b o c d = (subst (Why k b) d (why k b)).1

pub expires-live : (k : Opening) (b : Board) (o : Order) (t : ℕ) → decided k b ≡ expires o t → In o b.orders
expires-live k b o t d = (subst (Why k b) d (why k b)).listed

module _ {L B O E : Type 0} (bl : Ghosts B BidRank) (ol : Ghosts O OfferRank) (el : Ghosts E EndTime) where
  -- the board and the reserves let the order go, then the lines
  pub removed : (m m₁ m' : Memory L B O E) (k : Opening) (S : State) (o : Order) (t : ℕ) (old new : Entries) → Sound k S → Shows bl ol el m k S →
      In o S.board.orders → Untouched bl ol el m m₁ →
      ((i j : ℕ) → Ascends i j m.board.orders → m₁.board ≡ removed_board m.board t o) →
      ((i j : ℕ) → Ascends i j m.board.orders →
      Kept m.board.orders m.reserves.items m₁.board.orders m₁.reserves.items) →
      old ≡ entries_of m.board o → new ≡ no_entries → Relisted bl ol el m₁ m' old new →
      Shows bl ol el m' k (record { board = removed_board S.board t o; hidden = S.hidden })
  unfolding removed_board standing
  removed m m₁ m' k S o t old new q w here u board reserves e f made =
      let b = S.board in
      let n = b.counters.number in
      let up : Ascends 1 n m.board.orders = subst (λ (v : Board). Ascends 1 n v.orders) (sym w.board) q.row.rising in
      let is : m₁.board ≡ removed_board b t o = board 1 n up ∙ ap (λ (v : Board). removed_board v t o) w.board in
      let kept = reserves 1 n up S.hidden (subst (λ (v : Board). Reserved S.hidden v.orders m.reserves.items) (sym w.board) w.reserves) in
      shows-replaced bl ol el m m₁ m' k S (record { board = removed_board b t o; hidden = S.hidden }) o None old new n q.row.rising w here tt tt refl
      (λ p i d. standing-unseen o.number (freed o.number) o.trader o.side b.phase b.session.buyer b.session.seller b.privileges p
      (freed-unseen o.number) d)
      u is (subst (λ (v : Board). Reserved S.hidden v.orders m₁.reserves.items) is kept)
      (e ∙ ap (λ (v : Board). entries_of v o) w.board) f made

  -- an order that is removed leaves at the time that the book has reached
  pub removed-now : (m m' : Memory L B O E) (k : Opening) (S : State) (o : Order) (c : Cause) (t : ℕ) (r : Record) → Sound k S → Shows bl ol el m k S →
      decided k S.board ≡ removes o c → t ≡ m.board.clock.time → Leaves bl ol el m m' o t →
      r ≡ Removal t o.number o.displayed c →
      Shows bl ol el m' k (after S (removes o c)) × (r ≡ record_of S.hidden S.board (removes o c))
  unfolding record_of board_after hidden_after
  removed-now m m' k S o c t r sound w d is leaves e =
      let now : t ≡ S.board.clock.time = is ∙ ap (λ (b : Board). b.clock.time) w.board in (
        subst (λ (x : ℕ). Shows bl ol el m' k (record { board = removed_board S.board x o; hidden = S.hidden })) now
            (leaves k S sound w (removes-live k S.board o c d)),
        e ∙ ap (λ (x : ℕ). Removal x o.number o.displayed c) now,
      )
