use Rattle.std.proofs.Common.{List, ap, ◌∙◌}
use Rattle.market.specs.declared.order.Order.{Order}
use Rattle.rules.specs.Board.{Board}
use Rattle.queues.specs.Walks.{ending_by}
use Rattle.queues.proofs.Ending.{ends-first}
use Rattle.queues.proofs.ends.first_ending.Goals as goal

pub returns : goal.returns
returns g c w =
    let b = c.args.board.now in
    let wished = c.args.wished in
    c.ending.ensures ∙ ap (λ (os : List Order). ending_by wished os c.first.result) (c.deref.ensures.0 ∙ ap (λ (x : Board). x.orders) c.board.view_is) ∙
    ap (ending_by wished b.orders) c.first.ensures ∙
    ends-first 1 w.below b.orders w.rising wished (g.L.Line.entries c.args.line.now) w.lists
