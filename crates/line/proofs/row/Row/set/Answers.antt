use Rattle.std.proofs.Math.Seq.{take-set-lt}
use Rattle.line.proofs.row.Row.set.Goals as goal

pub returns-then-at-self-clause-held : goal.returns-then-at-self-clause-held
returns-then-at-self-clause-held g c =
    take-set-lt c.args.self.now.len c.args.self.now.places.now c.args.at c.args.entry c.if-at-self.true
