use Rattle.std.proofs.Common.{ap, ◌∙◌}
use Rattle.queues.specs.Walks.{price_of}
use Rattle.queues.proofs.Heads.{best-head}
use Rattle.queues.proofs.best.best_price.Goals as goal

pub returns : goal.returns
returns g c b os w =
    c.price_of.ensures ∙ ap (price_of g.T.Ranked.price) c.first.ensures ∙
    best-head g.T.Ranked.side (g.T.Listed.listing b) (λ o. g.met.T.Listed.has b o ∙ g.met.T.Ranked.sided o) g.T.Ranked.price (g.met.T.Ranked.priced b)
    g.met.T.Ranked.cheaper os (g.L.Line.entries c.args.line.now) w
