use Rattle.std.proofs.Common.{sym, ◌∙◌}
use Rattle.rules.specs.Refusing.{cancel_refusal}
use Rattle.admission.proofs.Refused.{passed, failed, found, missing, finds}
use Rattle.admission.proofs.calls.check_cancel.Goals as goal

pub returns-in_err-check_quiet : goal.returns-in_err-check_quiet
unfolding cancel_refusal
returns-in_err-check_quiet c =
    let f = failed _ _ c.in_err-check_quiet.ensures in
    finds _ _ c.from_residual.ensures.1 (simp (f.0, f.1))

pub returns-in_err-check_trader : goal.returns-in_err-check_trader
unfolding cancel_refusal
returns-in_err-check_trader c =
    let f = failed _ _ c.in_err-check_trader.ensures in
    let quiet = passed _ _ c.in_ok-check_quiet.ensures in
    finds _ _ c.from_residual-in_err-check_trader.ensures.1 (simp (quiet, f.0, f.1))

pub returns-in_err-order : goal.returns-in_err-order
unfolding cancel_refusal
returns-in_err-order c =
    let f = missing _ _ c.in_err-order.ensures.value in
    let quiet = passed _ _ c.in_ok-check_quiet.ensures in
    let trader = passed _ _ c.in_ok-check_trader.ensures in
    let o = sym c.owned_by.ensures ∙ f.0 in
    finds _ _ c.from_residual-in_err-order.ensures.1 (simp (quiet, trader, o, f.1))

pub returns : goal.returns
unfolding cancel_refusal
returns c =
    let quiet = passed _ _ c.in_ok-check_quiet.ensures in
    let trader = passed _ _ c.in_ok-check_trader.ensures in
    let order = sym c.owned_by.ensures ∙ found _ _ c.in_ok-order.ensures.value in
    (simp (quiet, trader, order), order)
