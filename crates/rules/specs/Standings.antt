-- Rank: better price, then class and place within it, then the lower order number. Assumes nothing.
use Rattle.std.specs.Prelude.{ℕ, Bool, cond, Some, None, Option, ◌==◌}
use Rattle.market.specs.Ranks.{BidRank, OfferRank, bid_ahead, offer_ahead}
use Rattle.market.specs.declared.order.Side.{Side}
use Rattle.market.specs.declared.order.Side.TheVariants.{Bid, Offer}
use Rattle.market.specs.declared.order.Order.{Order}
use Rattle.market.specs.declared.state.Phase.{Phase}
use Rattle.market.specs.declared.state.Phase.TheVariants.{Open, Timed, Rolling, Fbs}
use Rattle.market.specs.declared.state.Priority.{Priority}
use Rattle.market.specs.declared.state.Priority.TheVariants.{First as FirstPriority, Second as SecondPriority}
use Rattle.market.specs.declared.state.Carrier.{Carrier}
use Rattle.market.specs.declared.state.Carrier.TheVariants.{Free, Order as By, Gone}
use Rattle.market.specs.declared.state.Privilege.{Privilege}
use Rattle.market.specs.declared.standing.Standing.{Standing}
use Rattle.market.specs.declared.standing.Standing.TheVariants.{Last, First, Second, Plain}
use Rattle.market.specs.declared.rank.Rank.{Rank}
use Rattle.rules.specs.Base.{names}
use Rattle.rules.specs.Board.{Board, Table, lookup}

-- by its stamp alone
abbrev pub plain : Order → Standing
plain o = Plain o.stamp

-- by what it has earned
abbrev pub privileged : Priority → ℕ → Standing
privileged FirstPriority earned = First earned
privileged SecondPriority earned = Second (record { 0 = earned })

abbrev pub carrying : Carrier → Privilege → Order → Standing
carrying Free p o = plain o
carrying (By n) p o = cond (n == o.number) (privileged p.priority p.earned) (plain o)
carrying Gone p o = plain o

-- by its trader's privilege, if it carries that
abbrev pub favoured : Option Privilege → Order → Standing
favoured None o = plain o
favoured (Some p) o = carrying p.carrier p o

abbrev pub last_on : Side → Option ℕ → Option ℕ → Option ℕ
last_on Bid buyer seller = buyer
last_on Offer buyer seller = seller

-- all orders of the Last Buyer on the bid side and of the Last Seller on the offer side have the first class
abbrev pub standing_in : Phase → Option ℕ → Option ℕ → Table Privilege → Order → Standing
standing_in Open buyer seller ps o = plain o
standing_in Timed buyer seller ps o = plain o
standing_in Rolling buyer seller ps o = plain o
standing_in Fbs buyer seller ps o =
    cond (names (last_on o.side buyer seller) o.trader) (Last o.stamp) (favoured (lookup ps o.trader o.side) o)

unfoldable pub standing : Board → Order → Standing
standing b o = standing_in b.phase b.session.buyer b.session.seller b.privileges o

-- with its price as its side compares it
abbrev pub rank_of : {P : Type 0} → P → Board → Order → Rank P
rank_of p b o = record { price = p; standing = standing b o; number = o.number }

abbrev pub bid_rank : Board → Order → BidRank
bid_rank b o = rank_of (record { 0 = o.price }) b o

abbrev pub offer_rank : Board → Order → OfferRank
offer_rank b o = rank_of o.price b o

abbrev pub ahead_on : Side → Board → Order → Order → Bool
ahead_on Bid b o p = bid_ahead (bid_rank b o) (bid_rank b p)
ahead_on Offer b o p = offer_ahead (offer_rank b o) (offer_rank b p)

-- of two orders of one side, the first goes before the second
unfoldable pub ahead : Board → Order → Order → Bool
ahead b o p = ahead_on o.side b o p
