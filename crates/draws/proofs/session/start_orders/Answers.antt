use Rattle.std.proofs.Common.{◌≡◌, ◌<◌, length, get_or, set, ap, ◌∙◌, arith}
use Rattle.std.proofs.lemmas.List.{get_or_default}
use Rattle.std.proofs.lemmas.List.Edits.{map_over_more}
use Rattle.arrayvec.proofs.ArrayVecLemmas.{items-with_items}
use Rattle.rules.specs.Draws.{started}
use Rattle.draws.proofs.Lists.{mapped}
use Rattle.draws.proofs.session.start_orders.Goals as goal

pub loop-order-preserved : goal.loop-order-preserved
loop-order-preserved c =
    let i = c.loop-order.order-index in
    let xs = c.args.orders.now.items in
    let ys = c.loop-order.order-items in
    let f = started c.args.start.trigger c.args.start.passive c.args.start.price in
    let len : length ys ≡ length xs = c.loop-order.auto.order-items ∙ ap length c.deref_mut-order-items.ensures.value in
    let inside : i < length xs = omega (arith, len, c.loop-order-test.true) in
    let within : i < length ys = omega (arith, c.loop-order-test.true) in
    ap (set ys i) c.started.ensures ∙ map_over_more f xs ys i (get_or ys i _) inside c.loop-order.invariant (get_or_default ys i _ _ within)

pub returns : goal.returns
returns c =
    let xs = c.args.orders.now.items in
    let ys = c.loop-order.order-items in
    let before = ap length c.deref_mut-order-items.ensures.value in
    let all = c.loop-order.invariant ∙ mapped _ xs c.loop-order.order-index (omega (arith, before, c.loop-order-test.false)) in
    items-with_items c.args.orders.now ys (c.loop-order.auto.order-items ∙ before) ∙ all
