use Rattle.std.proofs.Common.{◌≡◌, leb, sym, ap, ◌∙◌, subst}
use Rattle.line.specs.declared.lines.LineFault.TheVariants.{Full}
use Rattle.market.specs.declared.order.Side.{Side}
use Rattle.market.specs.declared.order.Side.TheVariants.{Bid, Offer}
use Rattle.rules.specs.Base.{count}
use Rattle.rules.specs.Board.{Opening, on}
use Rattle.rules.specs.Refusing.{room_for}
use Rattle.admission.specs.Checks.{refused_if}
use Rattle.queues.specs.Changes.{room_answer}
use Rattle.calls.proofs.Screens.{room-told}
use Rattle.calls.proofs.rooms.check_side_line.Goals as goal

pub returns-in-Bid : goal.returns-in-Bid
returns-in-Bid g c k S sound w =
    let os = S.board.orders in
    subst (λ (s : Side). c.check_room.result ≡ refused_if (leb (room_for k s) (count (on s) os)) Full) (sym c.in-Bid.is)
    (c.check_room.ensures.listed S.board os S.board.counters.number sound.row.rising w.queued.bids ∙
    ap (λ (x : Opening). room_answer x.bids (count (on Bid) os)) w.opening ∙ room-told k.bids (count (on Bid) os))

pub returns-in-Offer : goal.returns-in-Offer
returns-in-Offer g c k S sound w =
    let os = S.board.orders in
    subst (λ (s : Side). c.check_room-in-Offer.result ≡ refused_if (leb (room_for k s) (count (on s) os)) Full) (sym c.in-Offer.is)
    (c.check_room-in-Offer.ensures.listed S.board os S.board.counters.number sound.row.rising w.queued.offers ∙
    ap (λ (x : Opening). room_answer x.offers (count (on Offer) os)) w.opening ∙ room-told k.offers (count (on Offer) os))
