use Rattle.std.proofs.Common.{w32, SFits, rules}
use Rattle.std.proofs.lemmas.Int.{to_z-of_z}
use Rattle.rules.specs.Draws.{started}
use Rattle.draws.proofs.start.Start.started.Goals as goal

pub returns : goal.returns
unfolding started
returns c =
    let fits : SFits w32 c.price_of.result = search rules in
    let p = to_z-of_z w32 c.price_of.result fits in
    cc
