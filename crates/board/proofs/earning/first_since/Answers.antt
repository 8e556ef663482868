use Rattle.std.proofs.Common.{ℕ, Bool, ◌&&◌, leb, rules, ◌∙◌}
use borrow.Author.Tests.{tests}
use Rattle.market.specs.declared.order.Order.{Order}
use Rattle.market.specs.declared.order.Side.{Side}
use Rattle.rules.specs.Board.{of_trader}
use Rattle.board.proofs.Scans.{finds}
use Rattle.board.proofs.earning.first_since.Goals as goal

abbrev test : ℕ → Side → ℕ → Order → Bool
test t s n o = of_trader t s o && leb n o.number

pub returns : goal.returns
returns c =
    c.copied.ensures ∙
    finds (test c.args.seat.trader c.args.seat.side c.args.number) _ _ c.args.orders.now c.iter.ensures.rest c.find.ensures.ran
    (λ x q k. search (rules, tests)) (λ x q k. search (rules, tests))
