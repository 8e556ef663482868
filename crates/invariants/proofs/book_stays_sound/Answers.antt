use Rattle.invariants.proofs.Sounds.{sound}
use Rattle.invariants.proofs.book_stays_sound.Goals as goal

pub returns : goal.returns
returns c = sound
