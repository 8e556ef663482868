use Rattle.std.proofs.Common.{rules}
use Rattle.rules.specs.Calls.{changed}
use Rattle.effects.proofs.effects.changed_order.Goals as goal

pub returns : goal.returns
unfolding changed
returns c = search rules
