-- What is due, as the step that it is in the rules. Assumes nothing.
use Rattle.std.specs.Prelude.{Some, None, Option}
use Rattle.rules.specs.Draws.{Step, begins, fills, removes, turns, expires}
use Rattle.drawing.specs.declared.due.Due.{Due}
use Rattle.drawing.specs.declared.due.Due.TheVariants.{Session, Pair, Removal, PhaseEnd, Expiry}

abbrev pub meant : Due → Step
meant (Session trigger passive) = begins trigger passive
meant (Pair bid offer) = fills bid offer
meant (Removal order cause) = removes order cause
meant (PhaseEnd time) = turns time
meant (Expiry order time) = expires order time

abbrev pub meant_of : Option Due → Option Step
meant_of None = None
meant_of (Some d) = Some (meant d)
