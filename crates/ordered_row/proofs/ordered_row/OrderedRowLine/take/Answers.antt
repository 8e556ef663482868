use Rattle.std.proofs.Common.{sym, ◌∙◌, subst}
use Rattle.line.specs.Held.{Ordered}
use Rattle.line.proofs.Chains.{ordered-without}
use Rattle.ordered_row.specs.Row.{entries_of}
use Rattle.ordered_row.proofs.ordered_row.OrderedRowLine.take.Goals as goal

pub invariant_of-self : goal.invariant_of-self
invariant_of-self g c =
    let ahead = g.T.Entry.ahead in
    let s = c.args.self.now in
    record { ordered = subst (Ordered ahead) (c.in-Ok.ensures.less ∙ sym c.remove.ensures.held) (ordered-without ahead c.args.entry (entries_of s) s.ordered) }
