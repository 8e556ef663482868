use Rattle.rules.specs.Calls.{run, opened}
use Rattle.invariants.proofs.Sounds.{sound}
use Rattle.book.proofs.book.Book.summary.Goals as goal

pub returns : goal.returns
returns g c k cs w = c.summary.ensures k (run k opened cs) (sound k cs) w
