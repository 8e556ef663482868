use Rattle.std.proofs.Common.{w32, SFits, rules}
use Rattle.std.proofs.lemmas.Int.{to_z-of_z}
use Rattle.rules.specs.Fills.{executed}
use Rattle.draws.proofs.edits.executed.Goals as goal

pub returns : goal.returns
unfolding executed
returns c =
    let fits : SFits w32 c.args.order.now.price = search rules in
    let p = to_z-of_z w32 c.args.order.now.price fits in
    cc
