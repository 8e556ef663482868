-- Ranks compare as the words say. Assumes nothing.
use Rattle.std.proofs.Common.{◌∙◌, Some, ap}
use Rattle.market.proofs.Ahead.{rank-less}
use Rattle.market.proofs.rank.RankEntry.is_ahead.Goals as goal

pub returns : goal.returns
returns g c =
    c.lt.ensures ∙
    rank-less g.P.SidePrice.SIDE g.P.SidePrice.ticks g.P.PartialOrd.partial_cmp
    (λ p q. g.met.P.Ord.matches_partial_cmp p q ∙ ap Some (g.met.P.SidePrice.ordered p q))
    c.args.self.now c.args.other.now
