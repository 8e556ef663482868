-- No better price is behind. Assumes nothing.
use Rattle.std.proofs.Common.{◌≡◌, Bool, true, false, ℤ, arith}
use Rattle.std.proofs.lemmas.Int.{ints}
use Rattle.market.specs.Ranks.{lower_on, rank_ahead}
use Rattle.market.specs.declared.order.Side.{Side}
use Rattle.market.specs.declared.order.Side.TheVariants.{Bid, Offer}
use Rattle.market.specs.declared.rank.Rank.{Rank}
use Rattle.rules.specs.Board.{better}

cheaper : (side : Side) (p q : ℤ) (r : Bool) → lower_on side p q r ≡ true → better side q p ≡ false
unfolding better
cheaper Bid p q r h = grind (arith, ints)
cheaper Offer p q r h = grind (arith, ints)

pub rank-cheaper : {P : Type 0} (side : Side) (ticks : P → ℤ) (x y : Rank P) → rank_ahead side ticks x y ≡ true →
    better side (ticks y.price) (ticks x.price) ≡ false
rank-cheaper side ticks x y h = cheaper side (ticks x.price) (ticks y.price) _ h
