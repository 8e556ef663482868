-- The recorded runs, by computation. Assumes nothing.
use Rattle.std.proofs.Common.{refl}
use Rattle.rules.specs.Opened.{rules}
use Rattle.recorded.specs.Shorthand.{heard}
use Rattle.recorded.specs.Runs.{Recorded}

pub recorded : Recorded
unfolding rules heard
recorded = record { run0 = refl; run1 = refl; run2 = refl; run3 = refl }
