use Rattle.std.proofs.Common.{ℤ, Option, ap, ◌∙◌}
use Rattle.market.specs.declared.order.Side.TheVariants.{Bid}
use Rattle.rules.specs.Board.{best, cross, meet}
use Rattle.queues.proofs.best.prices_meet.Goals as goal

pub returns : goal.returns
unfolding meet
returns g c b os w v =
    c.crosses.ensures ∙ ap (λ (q : Option ℤ). cross q c.best_price-2.result) (c.best_price.ensures b os w) ∙
    ap (cross (best Bid os)) (c.best_price-2.ensures b os v)
