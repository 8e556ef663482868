use Rattle.std.proofs.Common.{rules}
use Rattle.rules.specs.Privileges.{adjust}
use Rattle.board.proofs.privileges.Privileges.adjust.Goals as goal

pub returns-in-Some : goal.returns-in-Some
unfolding adjust
returns-in-Some g c = λ h p. let e = p _ _ c.change.ensures in search rules

pub returns-in_default : goal.returns-in_default
unfolding adjust
returns-in_default g c = λ h p. search rules
