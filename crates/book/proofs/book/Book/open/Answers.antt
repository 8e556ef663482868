use Rattle.rules.specs.Calls.{run}
use Rattle.book.proofs.book.Book.open.Goals as goal

pub returns : goal.returns
unfolding run
returns g c = c.open.ensures
