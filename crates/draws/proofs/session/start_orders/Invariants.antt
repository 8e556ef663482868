use Rattle.std.proofs.Common.{◌≡◌, ◌++◌, map, take, drop}
use Rattle.rules.specs.Draws.{started}
use Rattle.draws.proofs.session.start_orders.Given as goal

abbrev pub invariant-loop-order : goal.invariant-loop-order
invariant-loop-order l =
    l.order-items ≡
    map (started l.start.trigger l.start.passive l.start.price) (take l.order-index l.fn.orders.items) ++ drop l.order-index l.fn.orders.items
