use Rattle.std.proofs.Common.{take, ◌∙◌, rules, arith}
use Rattle.std.specs.List.{prefix_len}
use Rattle.std.proofs.lemmas.Iterator.{YieldsList-from_take, YieldsList-from_map}
use Rattle.std.proofs.lemmas.Iterator.Adapters.{fits_from_length, at_most_from_yields_List}
use Rattle.std.proofs.lemmas.Iterator.Consumers.{YieldsList-at, YieldsList-from_first, sum_by_from_yields_List}
use Rattle.std.proofs.lemmas.Iterator.Search.{YieldsList-from_take_while}
use Rattle.rules.specs.Base.{eq_z}
use Rattle.queues.specs.declared.walking.Along.{Along}
use Rattle.queues.specs.Walking.{left_after}
use Rattle.queues.specs.Walks.{displayed_by}
use Rattle.queues.proofs.Summed.{first_at, summed, few}
use Rattle.queues.proofs.glance.displayed_at.Goals as goal

pub sum-requires-clause-fits : goal.sum-requires-clause-fits
sum-requires-clause-fits g c =
    let xs = g.L.Line.entries c.args.line.now in
    let rest = λ (s : Along g.row.T.Denot g.row.L.Denot). left_after g.T.Entry.ahead s.last (g.L.Line.entries s.line.now) in
    let test = λ (x : g.row.T.Denot). eq_z (g.T.Ranked.price x) c.args.price in
    let along = YieldsList-from_first (λ x. x) rest xs c.new.ensures in
    let taken = YieldsList-from_take 8 (YieldsList-at c.take.ensures.source along) c.take.ensures.count in
    fits_from_length _ _ 8 18446744073709551616 (at_most_from_yields_List (YieldsList-at c.map.ensures.source
    (YieldsList-from_take_while _ test (YieldsList-at c.take_while.ensures.source taken) c.take_while.ensures.closure c.take_while.ensures.done (λ x b q k. search rules)))
    (few 8 (prefix_len test (take 8 xs)) xs)) c.map.ensures.closure (omega arith) (λ x r q k. search rules)

pub returns : goal.returns
returns g c =
    let xs = g.L.Line.entries c.args.line.now in
    let rest = λ (s : Along g.row.T.Denot g.row.L.Denot). left_after g.T.Entry.ahead s.last (g.L.Line.entries s.line.now) in
    let shown = displayed_by g.T.OfOrder.number c.args.orders.now in
    let test = λ (x : g.row.T.Denot). eq_z (g.T.Ranked.price x) c.args.price in
    let along = YieldsList-from_first (λ x. x) rest xs c.new.ensures in
    let taken = YieldsList-from_take 8 (YieldsList-at c.take.ensures.source along) c.take.ensures.count in
    sum_by_from_yields_List shown (first_at g.T.Ranked.price shown c.args.price 8 xs) c.map.result c.sum.result c.sum.ensures.ran
    (YieldsList-from_map _ shown (YieldsList-at c.map.ensures.source
    (YieldsList-from_take_while _ test (YieldsList-at c.take_while.ensures.source taken) c.take_while.ensures.closure c.take_while.ensures.done (λ x b q k. search rules)))
    c.map.ensures.closure (λ x r q k. search rules)) ∙ summed g.T.Ranked.price shown c.args.price 8 xs
