use Rattle.std.proofs.Common.{◌≡◌, Bool, List, Some, Option, sym, ap, ◌∙◌}
use Rattle.market.specs.declared.order.Order.{Order}
use Rattle.market.specs.declared.record.Cause.{Cause}
use Rattle.rules.specs.Base.{find}
use Rattle.rules.specs.Board.{Board, in_session}
use Rattle.rules.specs.Draws.{must_go, goes}
use Rattle.board.specs.Memory.{board_of}
use Rattle.draws.specs.Removals.{with_cause}
use Rattle.draws.proofs.removals.removal_due.Goals as goal

first_goes : (b : Board) (s : Bool) (os : List Order) (r x : Option Order) → r ≡ x → s ≡ in_session b.phase → os ≡ b.orders → r ≡ find (λ o. must_go s o.kind o.filled) os → x ≡ find (goes b) b.orders
unfolding goes
first_goes b s os r x w e f h = sym w ∙ h ∙ ap (λ t. find (λ o. must_go t o.kind o.filled) os) e ∙ ap (find (goes b)) f

pub returns-in_err-order : goal.returns-in_err-order
returns-in_err-order c =
    rw (← c.board.view_is) (c.from_residual.ensures ∙
    ap with_cause (first_goes (board_of c.board.inside) c.in_session.result c.deref.result.now c.first_to_go.result _ c.in_err-order.was c.in_session.ensures c.deref.ensures.0 c.first_to_go.ensures))

pub returns : goal.returns
returns c =
    rw (← c.board.view_is) (ap (λ (w : Cause). Some (c.in_ok-order.order, w)) c.cause_of.ensures ∙
    ap with_cause (first_goes (board_of c.board.inside) c.in_session.result c.deref.result.now c.first_to_go.result _ c.in_ok-order.was c.in_session.ensures c.deref.ensures.0 c.first_to_go.ensures))
