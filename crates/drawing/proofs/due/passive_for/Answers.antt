use Rattle.market.specs.declared.order.Side.TheVariants.{Bid, Offer}
use Rattle.drawing.proofs.Dues.{bids-in-step, offers-in-step, passive}
use Rattle.drawing.proofs.due.passive_for.Goals as goal

pub returns-in-Bid : goal.returns-in-Bid
returns-in-Bid g c k S sound w =
    let m = c.args.memory.now in
    passive g.L.Bids.Line g.L.Offers.Line g.L.Ends.Line m k S c.args.trigger.now Bid c.first_order.result w c.in-Bid.is
    (c.first_order.ensures (offers-in-step g.L.Bids.Line g.L.Offers.Line g.L.Ends.Line m k S sound w))

pub returns-in-Offer : goal.returns-in-Offer
returns-in-Offer g c k S sound w =
    let m = c.args.memory.now in
    passive g.L.Bids.Line g.L.Offers.Line g.L.Ends.Line m k S c.args.trigger.now Offer c.first_order-in-Offer.result w c.in-Offer.is
    (c.first_order-in-Offer.ensures (bids-in-step g.L.Bids.Line g.L.Offers.Line g.L.Ends.Line m k S sound w))
