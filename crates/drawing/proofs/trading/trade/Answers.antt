use Rattle.std.proofs.Common.{refl, ◌∙◌}
use Rattle.market.specs.declared.record.Record.TheVariants.{Fill}
use Rattle.drawing.proofs.Boards.{read}
use Rattle.drawing.proofs.Trades.{traded}
use Rattle.drawing.proofs.trading.trade.Goals as goal

pub returns : goal.returns
returns g c k S sound w d =
    let told = traded g.L.Bids.Line g.L.Offers.Line g.L.Ends.Line c.args.memory.now _ _ _ k S c.args.bid.now c.args.offer.now c.fill-filled.result _ _ _ _
    sound w d (record { settings = refl; bids = refl; offers = refl; ends = refl }) c.fill-filled.ensures
    c.of-bid_before.ensures c.after-bid_after.ensures c.of-offer_before.ensures c.after-offer_after.ensures c.relist.ensures c.relist-2.ensures in
    (told.0, read (λ m. Fill m.board.clock.time c.fill-filled.result.fill) c.memory.view_is ∙ told.1)
