use Rattle.std.proofs.Common.{◌≡◌, ℕ, ◌&&◌, leb, Ok, Option, Result, sym, refl, ap, ◌∙◌, subst}
use Rattle.line.specs.declared.lines.LineFault.{LineFault}
use Rattle.line.specs.declared.lines.LineFault.TheVariants.{Full}
use Rattle.rules.specs.Base.{is_some, count}
use Rattle.rules.specs.Board.{Opening}
use Rattle.rules.specs.Refusing.{ending}
use Rattle.admission.specs.Checks.{refused_if}
use Rattle.queues.specs.Changes.{room_answer}
use Rattle.calls.proofs.Screens.{room-told}
use Rattle.calls.proofs.rooms.check_end_line.Goals as goal

pub returns-in-Some : goal.returns-in-Some
returns-in-Some g c k S sound w =
    let os = S.board.orders in
    subst (λ (t : Option ℕ). c.check_room.result ≡ refused_if (is_some t && leb k.ends (count ending os)) Full) (sym c.in-Some.is)
    (c.check_room.ensures.listed S.board os S.board.counters.number sound.row.rising w.queued.ends ∙
    ap (λ (x : Opening). room_answer x.ends (count ending os)) w.opening ∙ room-told k.ends (count ending os))

pub returns-in-None : goal.returns-in-None
returns-in-None g c k S sound w =
    let fine : Result (Unit {0}) LineFault = Ok tt in
    subst (λ (t : Option ℕ). fine ≡ refused_if (is_some t && leb k.ends (count ending S.board.orders)) Full) (sym c.in-None.is) refl
