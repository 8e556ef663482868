-- What a book is opened with. Assumes nothing.
use Rattle.line.specs.declared.lines.Line.{Ghosts}
use Rattle.market.specs.declared.settings.Settings.{Settings}
use Rattle.market.specs.Ranks.{BidRank, OfferRank}
use Rattle.market.specs.declared.rank.EndTime.{EndTime}
use Rattle.rules.specs.Board.{Opening}

-- settings, and the rooms of three lines
abbrev pub opening_with : {B O E : Type 0} → Ghosts B BidRank → Ghosts O OfferRank → Ghosts E EndTime → Settings → B → O → E → Opening
opening_with bl ol el s bids offers ends =
    record { settings = s; bids = bl.room bids; offers = ol.room offers; ends = el.room ends }
