use Rattle.std.proofs.Common.{Some, None, refl, ap, ◌∙◌}
use Rattle.market.specs.declared.order.Side.TheVariants.{Offer}
use Rattle.rules.specs.Entitlement.{first_entitled}
use Rattle.rules.specs.Draws.{pairing}
use Rattle.drawing.specs.Due.{meant_of}
use Rattle.drawing.proofs.Dues.{paired, bids-in-step, offers-in-step, meets-there}
use Rattle.drawing.proofs.due.pair_due.Goals as goal

pub returns-in_err-bid : goal.returns-in_err-bid
returns-in_err-bid g c k S sound w e =
    let m = c.args.memory.now in
    let met = meets-there g.L.Bids.Line g.L.Offers.Line g.L.Ends.Line m k S c.args.meets w e in
    let bid = c.in_err-bid.ensures (bids-in-step g.L.Bids.Line g.L.Offers.Line g.L.Ends.Line m k S sound w) met in
    ap meant_of c.from_residual.ensures ∙ paired m.board None (first_entitled m.board Offer) bid refl ∙ ap pairing w.board

pub returns-in_err-offer : goal.returns-in_err-offer
returns-in_err-offer g c k S sound w e =
    let m = c.args.memory.now in
    let met = meets-there g.L.Bids.Line g.L.Offers.Line g.L.Ends.Line m k S c.args.meets w e in
    let bid = c.in_ok-bid.ensures (bids-in-step g.L.Bids.Line g.L.Offers.Line g.L.Ends.Line m k S sound w) met in
    let offer = c.in_err-offer.ensures (offers-in-step g.L.Bids.Line g.L.Offers.Line g.L.Ends.Line m k S sound w) met in
    ap meant_of c.from_residual-in_err-offer.ensures ∙ paired m.board (Some c.in_ok-bid.bid) None bid offer ∙ ap pairing w.board

pub returns : goal.returns
returns g c k S sound w e =
    let m = c.args.memory.now in
    let met = meets-there g.L.Bids.Line g.L.Offers.Line g.L.Ends.Line m k S c.args.meets w e in
    let bid = c.in_ok-bid.ensures (bids-in-step g.L.Bids.Line g.L.Offers.Line g.L.Ends.Line m k S sound w) met in
    let offer = c.in_ok-offer.ensures (offers-in-step g.L.Bids.Line g.L.Offers.Line g.L.Ends.Line m k S sound w) met in
    paired m.board (Some c.in_ok-bid.bid) (Some c.in_ok-offer.offer) bid offer ∙ ap pairing w.board
