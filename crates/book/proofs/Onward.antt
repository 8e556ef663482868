-- From one state at which a book stands to the next. Assumes nothing.
use Rattle.std.proofs.Common.{[], ◌∷◌, sym, subst}
use Rattle.line.specs.declared.lines.Line.{Ghosts}
use Rattle.market.specs.Answers.{Answer}
use Rattle.market.specs.Ranks.{BidRank, OfferRank}
use Rattle.market.specs.declared.rank.EndTime.{EndTime}
use Rattle.market.specs.declared.call.Call.{Call}
use Rattle.rules.specs.Board.{State}
use Rattle.rules.specs.Calls.{run, opened}
use Rattle.invariants.proofs.Sounds.{sound}
use Rattle.lawful.proofs.Lawfully.{run-append}
use Rattle.memory.specs.declared.memory.Memory.{Memory}
use Rattle.memory.specs.Shown.{Shows}
use Rattle.calls.specs.Obeys.{Obeys}
use Rattle.book.specs.declared.book.Book.{Book}
use Rattle.book.specs.Stands.{Follows}

module _ {L B O E : Type 0} (bl : Ghosts B BidRank) (ol : Ghosts O OfferRank) (el : Ghosts E EndTime) where
  -- what is done in every sound state is done after any calls
  pub onward : (m m' : Book L B O E) (c : Call) (r : Answer) → Obeys bl ol el m.memory m'.memory c r → Follows bl ol el m m' c r
  unfolding run
  onward m m' c r f k cs w =
      let g = f k (run k opened cs) (sound k cs) w in
      (subst (λ (S : State). Shows bl ol el m'.memory k S) (sym (run-append k opened cs (c ∷ []))) g.0, g.1)

-- a book of this memory
abbrev pub whole : {L B O E : Type 0} → Memory L B O E → Book L B O E
whole m = record { memory = m }
