-- The seats by their numbers. Assumes nothing.
use Rattle.std.specs.Prelude.{ℕ, ◌/◌, ◌%◌, cond, min, ◌==◌}
use Rattle.market.specs.declared.order.Side.{Side}
use Rattle.market.specs.declared.order.Side.TheVariants.{Bid, Offer}

-- the trader and the side of the seat with that number, of two for each trader from 0 to 128
abbrev pub trader_at : ℕ → ℕ
trader_at n = min (n / 2) 128

abbrev pub side_at : ℕ → Side
side_at n = cond (n % 2 == 0) Bid Offer
