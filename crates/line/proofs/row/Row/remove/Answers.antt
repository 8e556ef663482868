use Rattle.std.proofs.Common.{◌≡◌, ◌+◌, ◌-◌, get_or, ap, ◌∙◌, arith}
use Rattle.line.proofs.Shifted.{closed}
use Rattle.line.proofs.row.Row.remove.Goals as goal

pub returns-then-at-self-clause-held : goal.returns-then-at-self-clause-held
returns-then-at-self-clause-held g c =
    let s = c.args.self.now in
    let at = c.args.at in
    closed s.places.now c.copy_within.new.self s.len at (omega arith) c.copy_within.ensures.len c.if-at-self.true
    (λ k d l. c.copy_within.ensures.by_index.1 k d l)
    (λ k d le l.
    let e : at + 1 + (k - at) ≡ k + 1 = omega arith in
    c.copy_within.ensures.by_index.0 k d le (omega arith) ∙ ap (λ j. get_or s.places.now j d) e)
