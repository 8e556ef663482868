use Rattle.std.proofs.Common.{Some, None, sym, refl, ap, ◌∙◌}
use Rattle.rules.specs.Board.{Board}
use Rattle.rules.specs.Draws.{passive_for, opening}
use Rattle.drawing.specs.Due.{meant_of}
use Rattle.drawing.proofs.Boards.{read}
use Rattle.drawing.proofs.Dues.{closed, apart, met, meets-there}
use Rattle.drawing.proofs.due.session_due.Goals as goal

pub returns-in_default : goal.returns-in_default
returns-in_default g c k S sound w e = closed c.args.memory.now.board (λ o. c.in_default.not-Open (read (λ m. m.board.phase) c.memory.view_is ∙ o)) ∙ ap opening w.board

pub returns-then-not-meets : goal.returns-then-not-meets
returns-then-not-meets g c k S sound w e =
    let m = c.args.memory.now in
    apart m.board (sym (read (λ m. m.board.phase) c.memory.view_is) ∙ c.in-Open.is)
    (sym c.if-not-meets.true ∙ meets-there g.L.Bids.Line g.L.Offers.Line g.L.Ends.Line m k S c.args.meets w e) ∙ ap opening w.board

pub returns-in_err-trigger : goal.returns-in_err-trigger
returns-in_err-trigger g c k S sound w e =
    let m = c.args.memory.now in
    let meets = sym c.if-not-meets.false ∙ meets-there g.L.Bids.Line g.L.Offers.Line g.L.Ends.Line m k S c.args.meets w e in
    ap meant_of c.from_residual.ensures ∙ met m.board None None (sym (read (λ m. m.board.phase) c.memory.view_is) ∙ c.in-Open.is) meets c.in_err-trigger.ensures refl ∙
    ap opening w.board

pub returns-in_err-passive : goal.returns-in_err-passive
returns-in_err-passive g c k S sound w e =
    let m = c.args.memory.now in
    let meets = sym c.if-not-meets.false ∙ meets-there g.L.Bids.Line g.L.Offers.Line g.L.Ends.Line m k S c.args.meets w e in
    let trigger = Some c.in_ok-trigger.trigger in
    ap meant_of c.from_residual-in_err-passive.ensures ∙
    met m.board trigger None (sym (read (λ m. m.board.phase) c.memory.view_is) ∙ c.in-Open.is) meets c.in_ok-trigger.ensures
    (c.in_err-passive.ensures k S sound w ∙ ap (λ (b : Board). passive_for b trigger) (sym w.board)) ∙ ap opening w.board

pub returns : goal.returns
returns g c k S sound w e =
    let m = c.args.memory.now in
    let meets = sym c.if-not-meets.false ∙ meets-there g.L.Bids.Line g.L.Offers.Line g.L.Ends.Line m k S c.args.meets w e in
    let trigger = Some c.in_ok-trigger.trigger in
    met m.board trigger (Some c.in_ok-passive.passive) (sym (read (λ m. m.board.phase) c.memory.view_is) ∙ c.in-Open.is) meets c.in_ok-trigger.ensures
    (c.in_ok-passive.ensures k S sound w ∙ ap (λ (b : Board). passive_for b trigger) (sym w.board)) ∙ ap opening w.board
