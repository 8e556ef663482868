-- Steps that leave orders and lines alone. Assumes nothing.
use Rattle.std.proofs.Common.{◌≡◌, sym, refl, ap, ◌∙◌}
use Rattle.line.specs.declared.lines.Line.{Ghosts}
use Rattle.market.specs.Ranks.{BidRank, OfferRank}
use Rattle.market.specs.declared.rank.EndTime.{EndTime}
use Rattle.rules.specs.Board.{Opening, State}
use Rattle.rules.specs.Standings.{standing}
use Rattle.rules.specs.Draws.{rests, rested_board, board_after, hidden_after}
use Rattle.memory.specs.declared.memory.Memory.{Memory}
use Rattle.memory.specs.Shown.{Shows}
use Rattle.memory.proofs.Showing.{Untouched, shows-still}
use Rattle.drawing.specs.Does.{after}

module _ {L B O E : Type 0} (bl : Ghosts B BidRank) (ol : Ghosts O OfferRank) (el : Ghosts E EndTime) where
  pub rested : (m m' : Memory L B O E) (k : Opening) (S : State) → Shows bl ol el m k S → Untouched bl ol el m m' → m'.reserves ≡ m.reserves →
      m'.board ≡ rested_board m.board → Shows bl ol el m' k (after S rests)
  unfolding board_after hidden_after rested_board standing
  rested m m' k S w u r e =
      shows-still bl ol el m m' k S (after S rests) w u (e ∙ ap rested_board w.board)
      (w.reserves ∙ sym (ap (λ x. x.items) r)) refl (λ p i. refl)
