use Rattle.std.proofs.Common.{not, ◌||◌, rules, tests}
use Rattle.std.proofs.lemmas.Iterator.{YieldsList-from_slice}
use Rattle.std.proofs.lemmas.Iterator.Search.{position_from_yields_List}
use Rattle.line.specs.Order.{Order}
use Rattle.heap_row.proofs.Finds.{found-by}
use Rattle.heap_row.proofs.heap.find.Goals as goal

pub returns : goal.returns
returns g c =
    let o : Order g.T.Entry.ahead = record { irreflexive = g.met.T.Entry.irreflexive; total = g.met.T.Entry.total; transitive = g.met.T.Entry.transitive } in
    let e = c.args.sought.now in
    found-by o e c.args.held.now c.position.result
    (position_from_yields_List (λ x. not (g.T.Entry.ahead x e || g.T.Entry.ahead e x)) _ _ _ c.position.ensures.ran (YieldsList-from_slice c.args.held.now cc) (λ x b q k. search (rules, tests)))
