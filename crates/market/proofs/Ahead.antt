-- Ranks compare as the words say. Assumes nothing.
use Rattle.std.proofs.Common.{◌≡◌, ℕ, Bool, ℤ, Some, Option, refl, ap, ◌∙◌, ltb, arith}
use Rattle.std.proofs.lemmas.Bool.Decides.{nat_tests}
use Rattle.std.proofs.lemmas.Int.{ints}
use Rattle.std.specs.Ordering.{is_lt, is_some_and, partial_ordering_then, nat_cmp}
use Rattle.std.specs.declared.cmp.Ordering.{Ordering}
use Rattle.line.specs.Order.{lower}
use Rattle.market.specs.Ranks.{class_number, earlier, price_cmp, lower_on, rank_ahead, sooner}
use Rattle.market.specs.declared.order.Side.{Side}
use Rattle.market.specs.declared.order.Side.TheVariants.{Bid, Offer}
use Rattle.market.specs.declared.standing.Standing.{Standing}
use Rattle.market.specs.declared.standing.Standing.TheVariants.{Last, First, Second, Plain}
use Rattle.market.specs.declared.rank.Rank.{Rank}
use Rattle.market.specs.contracts.standing.StandingPartialOrd.TheImpl as standings

-- whether the first are less, or else the rest
less : Option Ordering → Option Ordering → Bool
less o rest = is_some_and is_lt (partial_ordering_then o rest)

by_place : (p q n m : ℕ) → less (Some (nat_cmp p q)) (Some (nat_cmp n m)) ≡ lower p q (ltb n m)
unfolding less
by_place p q n m = grind (arith, nat_tests)

by_standing : (x y : Standing) (n m : ℕ) →
    less ((standings.ghosts).partial_cmp x y) (Some (nat_cmp n m)) ≡ lower (class_number x) (class_number y) (earlier x y (ltb n m))
unfolding less
by_standing (Last p) (Last q) n m = by_place p q n m
by_standing (Last p) (First q) n m = refl
by_standing (Last p) (Second q) n m = refl
by_standing (Last p) (Plain q) n m = refl
by_standing (First p) (Last q) n m = refl
by_standing (First p) (First q) n m = by_place p q n m
by_standing (First p) (Second q) n m = refl
by_standing (First p) (Plain q) n m = refl
by_standing (Second p) (Last q) n m = refl
by_standing (Second p) (First q) n m = refl
by_standing (Second p) (Second q) n m = by_place q.0 p.0 n m
by_standing (Second p) (Plain q) n m = refl
by_standing (Plain p) (Last q) n m = refl
by_standing (Plain p) (First q) n m = refl
by_standing (Plain p) (Second q) n m = refl
by_standing (Plain p) (Plain q) n m = by_place p q n m

by_price : (side : Side) (p q : ℤ) (rest : Option Ordering) →
    less (Some (price_cmp side p q)) rest ≡ lower_on side p q (is_some_and is_lt rest)
unfolding less
by_price Bid p q rest = grind (arith, ints)
by_price Offer p q rest = grind (arith, ints)

-- as `<` compares ranks whose prices compare by their ticks
pub rank-less : {P : Type 0} (side : Side) (ticks : P → ℤ) (c : P → P → Option Ordering) →
    ((p q : P) → c p q ≡ Some (price_cmp side (ticks p) (ticks q))) → (x y : Rank P) →
    is_some_and is_lt (partial_ordering_then (c x.price y.price)
    (partial_ordering_then ((standings.ghosts).partial_cmp x.standing y.standing) (Some (nat_cmp x.number y.number)))) ≡
    rank_ahead side ticks x y
unfolding less sooner
rank-less side ticks c priced x y =
    let rest = partial_ordering_then ((standings.ghosts).partial_cmp x.standing y.standing) (Some (nat_cmp x.number y.number)) in
    ap (λ o. less o rest) (priced x.price y.price) ∙
    by_price side (ticks x.price) (ticks y.price) rest ∙
    ap (lower_on side (ticks x.price) (ticks y.price)) (by_standing x.standing y.standing x.number y.number)
