-- A book in memory with another board. Assumes nothing.
use Rattle.std.proofs.Common.{◌≡◌, refl, ap}
use Rattle.line.specs.declared.lines.Line.{Ghosts}
use Rattle.market.specs.Ranks.{BidRank, OfferRank}
use Rattle.market.specs.declared.rank.EndTime.{EndTime}
use Rattle.rules.specs.Board.{Board}
use Rattle.memory.specs.declared.memory.Memory.{Memory}
use Rattle.memory.proofs.Showing.{Untouched}

abbrev pub with_board : {L B O E : Type 0} → Memory L B O E → Board → Memory L B O E
with_board m held =
    record { settings = m.settings; board = held; reserves = m.reserves; bids = m.bids; offers = m.offers; ends = m.ends }

-- what is read of equal books
pub read : {X L B O E : Type 0} {m m' : Memory L B O E} (f : Memory L B O E → X) → m ≡ m' → f m ≡ f m'
read f e = ap f e

pub lines-alone : {L B O E : Type 0} (bl : Ghosts B BidRank) (ol : Ghosts O OfferRank) (el : Ghosts E EndTime) (m : Memory L B O E) (held : Board) →
    Untouched bl ol el m (with_board m held)
lines-alone bl ol el m held = record { settings = refl; bids = refl; offers = refl; ends = refl }
