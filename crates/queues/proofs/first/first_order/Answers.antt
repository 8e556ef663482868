use Rattle.std.proofs.Common.{List, ap, ◌∙◌}
use Rattle.market.specs.declared.order.Order.{Order}
use Rattle.rules.specs.Board.{Board}
use Rattle.queues.specs.Walks.{order_of}
use Rattle.queues.proofs.Walked.{head_first}
use Rattle.queues.proofs.first.first_order.Goals as goal

pub returns : goal.returns
returns g c w =
    let b = c.args.board.now in
    let number = g.T.OfOrder.number in
    c.order_of.ensures ∙ ap (λ (os : List Order). order_of number os c.first.result) (c.deref.ensures.0 ∙ ap (λ (x : Board). x.orders) c.board.view_is) ∙
    ap (order_of number b.orders) c.first.ensures ∙
    head_first g.T.Ranked.side (g.T.Listed.listing b) (λ o. g.met.T.Listed.has b o ∙ g.met.T.Ranked.sided o) number (g.met.T.Listed.named b) g.T.Entry.ahead b
    (g.met.T.Ranked.agrees b) 1 w.below b.orders w.rising (g.L.Line.entries c.args.line.now) w.lists
