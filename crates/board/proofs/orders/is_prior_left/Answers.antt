use Rattle.std.proofs.Common.{Bool, rules}
use borrow.Author.Tests.{tests}
use Rattle.market.specs.declared.order.Order.{Order}
use Rattle.rules.specs.Entitlement.{prior_left}
use Rattle.board.proofs.Scans.{passes}
use Rattle.board.proofs.orders.is_prior_left.Goals as goal

abbrev test : Order → Bool
test o = o.prior

pub returns : goal.returns
unfolding prior_left
returns c =
    passes test _ _ c.args.orders.now c.iter.ensures.rest c.any.ensures.ran
    (λ x q k. search (rules, tests)) (λ x q k. search (rules, tests))
