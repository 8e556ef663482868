use Rattle.std.proofs.Common.{rules}
use Rattle.rules.specs.Calls.{entered}
use Rattle.effects.proofs.effects.new_order.Goals as goal

pub returns : goal.returns
unfolding entered
returns c = search rules
