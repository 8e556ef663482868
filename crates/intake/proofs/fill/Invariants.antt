use Rattle.std.proofs.Common.{◌-◌, vec_len}
use Rattle.intake.proofs.fill.Given as goal

abbrev pub decreases-loop-part : goal.decreases-loop-part
decreases-loop-part g l = l.size - vec_len l.held
