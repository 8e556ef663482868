use Rattle.std.proofs.Common.{ap}
use Rattle.book.proofs.Onward.{onward, whole}
use Rattle.book.proofs.book.Book.cancel.Goals as goal

pub returns : goal.returns
returns g c =
    record {
      follows = onward g.L.Bids.Line g.L.Offers.Line g.L.Ends.Line c.args.self.now _ _ _ c.cancel.ensures.obeys;
      kept = λ h. ap whole (c.cancel.ensures.kept h);
    }
