-- Which entry of a line is ahead. Assumes nothing.
use Rattle.std.specs.Prelude.{ℕ, Bool, ℤ, nat_lt}
use Rattle.std.specs.Ordering.{int_cmp}
use Rattle.std.specs.declared.cmp.Ordering.{Ordering}
use Rattle.std.specs.declared.cmp.Reverse.{Reverse}
use Rattle.line.specs.Order.{lower, lower_z}
use Rattle.market.specs.declared.order.Side.{Side}
use Rattle.market.specs.declared.order.Side.TheVariants.{Bid, Offer}
use Rattle.market.specs.declared.standing.Standing.{Standing}
use Rattle.market.specs.declared.standing.Standing.TheVariants.{Last, First, Second, Plain}
use Rattle.market.specs.declared.rank.Rank.{Rank}
use Rattle.market.specs.declared.rank.EndTime.{EndTime}

abbrev pub BidRank : Type 0
BidRank = Rank (Reverse ℤ)

abbrev pub OfferRank : Type 0
OfferRank = Rank ℤ

-- classes are numbered from 0, the lower first
abbrev pub class_number : Standing → ℕ
class_number (Last p) = 0
class_number (First p) = 1
class_number (Second p) = 2
class_number (Plain p) = 3

abbrev pub place : Standing → ℕ
place (Last p) = p
place (First p) = p
place (Second p) = p.0
place (Plain p) = p

-- within a class the lower place goes first, but within the class Second the higher; at equal places the rest decides
abbrev pub earlier : Standing → Standing → Bool → Bool
earlier (Last p) y rest = lower p (place y) rest
earlier (First p) y rest = lower p (place y) rest
earlier (Second p) y rest = lower (place y) p.0 rest
earlier (Plain p) y rest = lower p (place y) rest

-- at equal prices: by class, then by place within the class, then by order number
unfoldable pub sooner : {P : Type 0} → Rank P → Rank P → Bool
sooner a b =
    lower (class_number a.standing) (class_number b.standing) (earlier a.standing b.standing (nat_lt a.number b.number))

-- a bid is better if higher
abbrev pub bid_ahead : BidRank → BidRank → Bool
bid_ahead a b = lower_z b.price.0 a.price.0 (sooner a b)

-- an offer is better if lower
abbrev pub offer_ahead : OfferRank → OfferRank → Bool
offer_ahead a b = lower_z a.price b.price (sooner a b)

abbrev pub end_ahead : EndTime → EndTime → Bool
end_ahead a b = lower a.end b.end (nat_lt a.number b.number)

-- ---- on either side

abbrev pub lower_on : Side → ℤ → ℤ → Bool → Bool
lower_on Bid p q rest = lower_z q p rest
lower_on Offer p q rest = lower_z p q rest

-- the better price is the lesser
abbrev pub price_cmp : Side → ℤ → ℤ → Ordering
price_cmp Bid p q = int_cmp q p
price_cmp Offer p q = int_cmp p q

-- of two ranks of that side, the first goes before the second: `bid_ahead` for bids, `offer_ahead` for offers
abbrev pub rank_ahead : {P : Type 0} → Side → (P → ℤ) → Rank P → Rank P → Bool
rank_ahead side ticks a b = lower_on side (ticks a.price) (ticks b.price) (sooner a b)
