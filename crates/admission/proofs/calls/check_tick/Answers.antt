use Rattle.rules.specs.Refusing.{tick_refusal}
use Rattle.admission.proofs.Refused.{passed, failed, answers}
use Rattle.admission.proofs.calls.check_tick.Goals as goal

pub returns-in_err-check_quiet : goal.returns-in_err-check_quiet
unfolding tick_refusal
returns-in_err-check_quiet c =
    let f = failed _ _ c.in_err-check_quiet.ensures in answers _ c.from_residual.ensures.1 (simp (f.0, f.1))

pub returns-in_err-check_time : goal.returns-in_err-check_time
unfolding tick_refusal
returns-in_err-check_time c =
    let f = failed _ _ c.in_err-check_time.ensures in
    answers _ c.from_residual-in_err-check_time.ensures.1 (simp (passed _ _ c.in_ok-check_quiet.ensures, f.0, f.1))

pub returns : goal.returns
unfolding tick_refusal
returns c = simp (passed _ _ c.in_ok-check_quiet.ensures, passed _ _ c.in_ok-check_time.ensures)
