use Rattle.std.proofs.Common.{◌≡◌, ◌+◌, ◌-◌, get_or, take, ap, ◌∙◌, arith}
use Rattle.std.proofs.lemmas.List.{length-take-le}
use Rattle.line.proofs.Shifted.{opened, insert_min}
use Rattle.line.proofs.row.Row.insert.Goals as goal

pub returns-clause-held : goal.returns-clause-held
returns-clause-held g c =
    let s = c.args.self.now in
    let old = s.places.now in
    let at = c.min-at.result in
    let fits = length-take-le s.len old (omega arith) in
    opened old c.copy_within.new.self s.len at (omega arith) c.copy_within.ensures.len c.args.entry (omega arith) (omega arith)
    (λ k d l. c.copy_within.ensures.by_index.1 k d (omega arith))
    (λ k d l le.
    let e : at + (k - (at + 1)) ≡ k - 1 = omega arith in
    c.copy_within.ensures.by_index.0 k d (omega arith) (omega arith) ∙ ap (λ j. get_or old j d) e) ∙
    insert_min (take s.len old) c.args.at at c.args.entry (omega arith)
