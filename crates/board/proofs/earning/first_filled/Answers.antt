use Rattle.std.proofs.Common.{◌≡◌, ℕ, Bool, true, ◌&&◌, Option, None, reverse, filter, fold, rules, ◌∙◌}
use Rattle.market.specs.declared.order.Order.{Order}
use Rattle.market.specs.declared.order.Side.{Side}
use Rattle.rules.specs.Base.{contest}
use Rattle.rules.specs.Board.{of_trader}
use Rattle.rules.specs.Privileges.{in_part, filled_sooner}
use Rattle.board.proofs.Scans.{firsts}
use Rattle.board.proofs.earning.first_filled.Goals as goal

abbrev test : ℕ → Side → Order → Bool
test t s o = of_trader t s o && in_part o

abbrev better : Option Order → Order → Option Order
better r o = contest true filled_sooner o r

pub returns : goal.returns
returns c =
    let p = test c.args.seat.trader c.args.seat.side in
    let os = c.args.orders.now in
    let met : c.fold.result ≡ fold better None (filter p (reverse os)) = search rules in met ∙ firsts p filled_sooner os
