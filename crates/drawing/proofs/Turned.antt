-- A phase ends. Assumes nothing.
use Rattle.std.proofs.Common.{◌≡◌, ℕ, false, sym, refl, ap, ◌∙◌}
use Rattle.line.specs.declared.lines.Line.{Ghosts}
use Rattle.market.specs.declared.state.Phase.{Phase}
use Rattle.market.specs.Ranks.{BidRank, OfferRank}
use Rattle.market.specs.declared.rank.EndTime.{EndTime}
use Rattle.rules.specs.Board.{Opening, Board, State, is_fbs}
use Rattle.rules.specs.Draws.{turns, phase_after, turn_record, turned_board, record_of, board_after, hidden_after}
use Rattle.invariants.specs.Sound.{Sound}
use Rattle.memory.specs.declared.memory.Memory.{Memory}
use Rattle.memory.specs.Shown.{Shows, Reranked}
use Rattle.memory.proofs.Showing.{shows-still, shows-reranked}
use Rattle.drawing.specs.Does.{after}
use Rattle.drawing.proofs.Boards.{with_board, lines-alone}
use Rattle.drawing.proofs.Plain.{stands_alike}

-- the book turned, from phase p
module _ {L B O E : Type 0} (bl : Ghosts B BidRank) (ol : Ghosts O OfferRank) (el : Ghosts E EndTime)
    (m : Memory L B O E) (held : Board) (k : Opening) (S : State) (t : ℕ) (w : Shows bl ol el m k S)
    (e : held ≡ turned_board m.board t) (p : Phase) (is : m.board.phase ≡ p) where
  phase : S.board.phase ≡ p
  phase = sym (ap (λ (b : Board). b.phase) w.board) ∙ is

  board : held ≡ turned_board S.board t
  board = e ∙ ap (λ (b : Board). turned_board b t) w.board

  told : turn_record p t ≡ record_of S.hidden S.board (turns t)
  unfolding record_of
  told = ap (λ (q : Phase). turn_record q t) (sym phase)

  -- neither phase is the FBS Period: the lines are left alone
  pub turned-still : is_fbs p ≡ false → is_fbs (phase_after p) ≡ false →
      Shows bl ol el (with_board m held) k (after S (turns t)) × (turn_record p t ≡ record_of S.hidden S.board (turns t))
  unfolding board_after hidden_after turned_board
  turned-still here next = (
    shows-still bl ol el m (with_board m held) k S (after S (turns t)) w (lines-alone bl ol el m held) board w.reserves refl
        (λ o i. stands_alike S.board (turned_board S.board t) o (ap is_fbs phase ∙ here) (ap (λ (q : Phase). is_fbs (phase_after q)) phase ∙ next)),
    told,
  )

  -- both sides are ranked anew
  pub turned-reranked : (m' : Memory L B O E) → Sound k S → Reranked bl ol el (with_board m held) m' →
      Shows bl ol el m' k (after S (turns t)) × (turn_record p t ≡ record_of S.hidden S.board (turns t))
  unfolding board_after hidden_after turned_board
  turned-reranked m' q made = (
    shows-reranked bl ol el m (with_board m held) m' k S (after S (turns t)) S.board.counters.number q.row.rising w refl q.row.bids
        q.row.offers (lines-alone bl ol el m held) board w.reserves made,
    told,
  )
