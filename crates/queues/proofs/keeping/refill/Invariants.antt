use Rattle.std.proofs.Common.{◌≡◌, [], drop}
use Rattle.rules.specs.Base.{each}
use Rattle.queues.specs.Changes.{filled}
use Rattle.queues.proofs.keeping.refill.Given as goal

-- what is left of the orders fills the line as all do from the start
abbrev pub invariant-loop-order : goal.invariant-loop-order
invariant-loop-order g l =
    let fill = filled g.T.Entry.ahead (g.L.Line.room l.initial.line) in
    let e = g.T.Listed.listing l.board in
    (g.L.Line.room l.line ≡ g.L.Line.room l.initial.line) ×
    (fill (each e (drop l.order-index l.order-items)) (g.L.Line.entries l.line) ≡ fill (each e l.order-items) [])
