use Rattle.std.proofs.Common.{refl}
use Rattle.calls.proofs.Opens.{opened-shown}
use Rattle.calls.proofs.opening.open.Goals as goal

pub returns : goal.returns
returns g c =
    opened-shown g.L.Bids.Line g.L.Offers.Line g.L.Ends.Line _ c.args.settings c.args.bids c.args.offers c.args.ends refl c.new.ensures
    c.new-2.ensures
    (record { entries = c.clear.ensures.entries; room = c.clear.ensures.room })
    (record { entries = c.clear-2.ensures.entries; room = c.clear-2.ensures.room })
    (record { entries = c.clear-3.ensures.entries; room = c.clear-3.ensures.room })
