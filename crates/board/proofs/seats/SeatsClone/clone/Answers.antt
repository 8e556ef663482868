use Rattle.std.proofs.Common.{rules, refl}
use Rattle.board.proofs.seats.SeatsClone.clone.Goals as goal

pub returns : goal.returns
returns g c = record { cases = (_, _, search rules, refl, c.in-Ok.ensures.cases) }
