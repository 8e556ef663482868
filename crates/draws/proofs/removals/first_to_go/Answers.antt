use Rattle.std.proofs.Common.{Bool, rules, ◌∙◌}
use borrow.Author.Tests.{tests}
use Rattle.market.specs.declared.order.Order.{Order}
use Rattle.rules.specs.Draws.{must_go}
use Rattle.board.proofs.Scans.{finds}
use Rattle.draws.proofs.removals.first_to_go.Goals as goal

abbrev test : Bool → Order → Bool
test session o = must_go session o.kind o.filled

pub returns : goal.returns
returns c =
    c.copied.ensures ∙
    finds (test c.args.session) _ _ c.args.orders.now c.iter.ensures.rest c.find.ensures.ran
    (λ x q k. search (rules, tests)) (λ x q k. search (rules, tests))
