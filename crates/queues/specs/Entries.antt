-- The entries that orders have in the lines of their sides. Assumes nothing.
use Rattle.std.specs.Prelude.{ℤ, Some, Option}
use Rattle.market.specs.declared.order.Side.{Side}
use Rattle.market.specs.declared.order.Side.TheVariants.{Bid, Offer}
use Rattle.market.specs.declared.order.Order.{Order}
use Rattle.market.specs.declared.rank.Rank.{Rank}
use Rattle.market.specs.Ranks.{BidRank, OfferRank}
use Rattle.rules.specs.Base.{only_if}
use Rattle.rules.specs.Board.{Board, on}
use Rattle.rules.specs.Standings.{rank_of, bid_rank, offer_rank}

abbrev pub bid_entry : Board → Order → Option BidRank
bid_entry b o = only_if (on Bid o) (Some (bid_rank b o))

abbrev pub offer_entry : Board → Order → Option OfferRank
offer_entry b o = only_if (on Offer o) (Some (offer_rank b o))

-- on a side whose prices are made from numbers of ticks: `bid_entry` on the side of the bids, `offer_entry` on that of the offers
abbrev pub side_entry : {P : Type 0} → Side → (ℤ → P) → Board → Order → Option (Rank P)
side_entry side of b o = only_if (on side o) (Some (rank_of (of o.price) b o))
