use Rattle.book.proofs.Onward.{onward}
use Rattle.book.proofs.book.Book.draw.Goals as goal

pub returns : goal.returns
returns g c = onward g.L.Bids.Line g.L.Offers.Line g.L.Ends.Line c.args.self.now _ _ _ c.draw.ensures
