use Rattle.std.proofs.Common.{Some, None, ap, ◌∙◌}
use Rattle.drawing.specs.Due.{meant_of}
use Rattle.drawing.proofs.Dues.{gone}
use Rattle.drawing.proofs.due.removal_due.Goals as goal

pub returns-in_err-order : goal.returns-in_err-order
returns-in_err-order c = ap meant_of c.from_residual.ensures ∙ gone c.args.board.now None c.in_err-order.ensures

pub returns : goal.returns
returns c = gone c.args.board.now (Some (c.in_ok-order.order, c.in_ok-order.cause)) c.in_ok-order.ensures
