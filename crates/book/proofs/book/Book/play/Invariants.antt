use Rattle.std.proofs.Common.{◌≡◌, List, ◌++◌, take, drop}
use Rattle.market.specs.declared.call.Call.{Call}
use Rattle.rules.specs.Board.{Opening}
use Rattle.rules.specs.Calls.{run, answers, opened}
use Rattle.book.specs.Stands.{Stands}
use Rattle.book.proofs.book.Book.play.Given as goal

abbrev pub invariant-loop-i : goal.invariant-loop-i
invariant-loop-i g l =
    ((k : Opening) (earlier : List Call) → Stands g.L.Bids.Line g.L.Offers.Line g.L.Ends.Line l.initial.self k earlier →
    Stands g.L.Bids.Line g.L.Offers.Line g.L.Ends.Line l.self k (earlier ++ take l.i l.calls) ×
    (take l.i l.room ≡ answers k (run k opened earlier) (take l.i l.calls))) ×
    (drop l.i l.room ≡ drop l.i l.initial.room)
