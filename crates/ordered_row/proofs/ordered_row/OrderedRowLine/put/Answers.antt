use Rattle.std.proofs.Common.{is_ok, sym, subst}
use Rattle.std.proofs.lemmas.Bool.{cond_both}
use Rattle.line.specs.Order.{Order}
use Rattle.line.specs.Held.{Ordered}
use Rattle.line.proofs.Chains.{ordered-with}
use Rattle.ordered_row.specs.Row.{entries_of}
use Rattle.ordered_row.proofs.Same.{same-row}
use Rattle.ordered_row.proofs.ordered_row.OrderedRowLine.put.Goals as goal

pub invariant_of-self : goal.invariant_of-self
invariant_of-self g c =
    let ahead = g.T.Entry.ahead in
    let o : Order ahead = record { irreflexive = g.met.T.Entry.irreflexive; total = g.met.T.Entry.total; transitive = g.met.T.Entry.transitive } in
    let s = c.args.self.now in
    let more = subst (Ordered ahead) c.in-Err.ensures.more (ordered-with o c.args.entry (entries_of s) c.in-Err.ensures.free s.ordered) in
    record { ordered = subst (Ordered ahead) (sym c.insert.ensures.held) (cond_both (is_ok c.insert.result) _ _ (Ordered ahead) (λ _. more) (λ _. s.ordered)) }

pub returns-in-Err-clause-kept : goal.returns-in-Err-clause-kept
returns-in-Err-clause-kept g c = λ no. same-row c.args.self.now c.insert.new.self _ (c.insert.ensures.kept no)
