-- The run that needs all its draws, by computation. Assumes nothing.
use Rattle.std.proofs.Common.{refl}
use Rattle.rules.specs.Opened.{rules}
use Rattle.invariants.specs.Prompt.{lots, live}
use Rattle.invariants.specs.Tight.{Tight}

pub tight : Tight
unfolding rules lots live
tight = record { accepted = refl; allowed = refl; needed = refl }
