use Rattle.std.proofs.Common.{Some, None, rules, refl, ap, ◌∙◌}
use Rattle.rules.specs.Draws.{pairing, removing, coming}
use Rattle.drawing.specs.Due.{meant}
use Rattle.drawing.proofs.Dues.{first-due}
use Rattle.drawing.proofs.due.next_step.Goals as goal

pub returns-in-Some : goal.returns-in-Some
returns-in-Some g c k S sound w =
    let b = S.board in
    let meets = c.prices_meet-meets.ensures b b.orders w.queued.bids w.queued.offers in
    first-due k b (Some (meant c.in-Some.due)) (pairing b) (removing b) (coming k b) (c.in-Some.ensures k S sound w meets) refl refl refl

pub returns-in-Some-pair_due : goal.returns-in-Some-pair_due
returns-in-Some-pair_due g c k S sound w =
    let b = S.board in
    let meets = c.prices_meet-meets.ensures b b.orders w.queued.bids w.queued.offers in
    first-due k b None (Some (meant c.in-Some-pair_due.due)) (removing b) (coming k b) (c.in_default.ensures k S sound w meets)
    (c.in-Some-pair_due.ensures k S sound w meets) refl refl

pub returns-in-Some-removal_due : goal.returns-in-Some-removal_due
returns-in-Some-removal_due g c k S sound w =
    let b = S.board in
    let meets = c.prices_meet-meets.ensures b b.orders w.queued.bids w.queued.offers in
    first-due k b None None (Some (meant c.in-Some-removal_due.due)) (coming k b) (c.in_default.ensures k S sound w meets)
    (c.in_default-pair_due.ensures k S sound w meets) (c.in-Some-removal_due.ensures ∙ ap removing w.board) refl

pub returns-in-Some-moment_due : goal.returns-in-Some-moment_due
returns-in-Some-moment_due g c k S sound w =
    let b = S.board in
    let meets = c.prices_meet-meets.ensures b b.orders w.queued.bids w.queued.offers in
    first-due k b None None None (Some (meant c.in-Some-moment_due.due)) (c.in_default.ensures k S sound w meets)
    (c.in_default-pair_due.ensures k S sound w meets) (c.in_default-removal_due.ensures ∙ ap removing w.board) (c.in-Some-moment_due.ensures k S sound w)

pub returns : goal.returns
returns g c k S sound w =
    let b = S.board in
    let meets = c.prices_meet-meets.ensures b b.orders w.queued.bids w.queued.offers in
    first-due k b None None None None (c.in_default.ensures k S sound w meets)
    (c.in_default-pair_due.ensures k S sound w meets) (c.in_default-removal_due.ensures ∙ ap removing w.board) (c.in_default-moment_due.ensures k S sound w)
