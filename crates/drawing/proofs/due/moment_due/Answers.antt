use Rattle.std.proofs.Common.{sym, ap, ◌∙◌, subst}
use Rattle.rules.specs.Board.{Board}
use Rattle.board.specs.Memory.{Bounded}
use Rattle.memory.proofs.Bounds.{bounded}
use Rattle.drawing.proofs.Dues.{ends-in-step, comes}
use Rattle.drawing.proofs.due.moment_due.Goals as goal

pub returns : goal.returns
returns g c k S sound w =
    let m = c.args.memory.now in
    c.earlier.ensures ∙
    comes g.L.Bids.Line g.L.Offers.Line g.L.Ends.Line m k S _ c.phase_end-turn.result c.first_ending-ending.result w
    (ap (λ (b : Board). b.clock.wished) c.board.view_is)
    (c.phase_end-turn.ensures (subst Bounded (sym w.board) (bounded k S sound)))
    (c.first_ending-ending.ensures (ends-in-step g.L.Bids.Line g.L.Offers.Line g.L.Ends.Line m k S sound w))
