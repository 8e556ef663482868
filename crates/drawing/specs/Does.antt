-- How a book in memory does a step of a draw. Assumes nothing.
use Rattle.std.specs.Prelude.{◌≡◌, ℕ, Ok}
use Rattle.line.specs.declared.lines.Line.{Ghosts}
use Rattle.market.specs.declared.order.Order.{Order}
use Rattle.market.specs.Ranks.{BidRank, OfferRank}
use Rattle.market.specs.declared.rank.EndTime.{EndTime}
use Rattle.market.specs.declared.record.Record.{Record}
use Rattle.market.specs.declared.call.Call.TheVariants.{Draw}
use Rattle.market.specs.declared.answer.Accepted.TheVariants.{Drawn}
use Rattle.rules.specs.Board.{State}
use Rattle.rules.specs.Draws.{Step, decided, record_of, board_after, hidden_after, removed_board}
use Rattle.rules.specs.Calls.{step}
use Rattle.rules.specs.Members.{In}
use Rattle.memory.specs.declared.memory.Memory.{Memory}
use Rattle.memory.specs.Shown.{Shows, Whenever}

-- the state after a step
abbrev pub after : State → Step → State
after S d = record { board = board_after S.hidden S.board d; hidden = hidden_after S.hidden d }

module _ {L B O E : Type 0} (bl : Ghosts B BidRank) (ol : Ghosts O OfferRank) (el : Ghosts E EndTime) where
  -- where this is the step that the rules decide on, the book shows the state after it, and tells the record that they define
  abbrev pub Does : Memory L B O E → Memory L B O E → Step → Record → Type 0
  Does m m' d r =
      Whenever bl ol el m (λ k S. decided k S.board ≡ d → Shows bl ol el m' k (after S d) × (r ≡ record_of S.hidden S.board d))

  -- where the order is live, the book shows the state without it, at that time
  abbrev pub Leaves : Memory L B O E → Memory L B O E → Order → ℕ → Type 0
  Leaves m m' o t =
      Whenever bl ol el m
      (λ k S. In o S.board.orders → Shows bl ol el m' k (record { board = removed_board S.board t o; hidden = S.hidden }))

  -- the book shows the state after a draw of the rules, and tells the record that they answer
  abbrev pub Draws : Memory L B O E → Memory L B O E → Record → Type 0
  Draws m m' r =
      Whenever bl ol el m (λ k S. Shows bl ol el m' k (step k S Draw).1 × (Ok (Drawn r) ≡ (step k S Draw).0))
