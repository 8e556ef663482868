-- What is told of the board says who is entitled. Assumes nothing.
use Rattle.std.proofs.Common.{◌≡◌, Bool, true, false, ◌&&◌, sym, refl, ap, ◌∙◌}
use Rattle.rules.proofs.Tests.{same_true}
use Rattle.market.specs.declared.order.Side.{Side}
use Rattle.market.specs.declared.order.Order.{Order}
use Rattle.market.specs.declared.state.Phase.{Phase}
use Rattle.market.specs.declared.state.Phase.TheVariants.{Open, Timed, Rolling, Fbs}
use Rattle.rules.specs.Board.{Board, on, same, best, meet}
use Rattle.rules.specs.Entitlement.{prior_left, in_timed, entitled_in, entitled}
use Rattle.board.specs.Entitlements.{entitlement_of, timedly, allowed_in, allowed}

timed : (q : Bool) (b : Board) (o : Order) → timedly q (prior_left b.orders) b.session o ≡ in_timed q b o
timed true b o = refl
timed false b o = refl

within : (p : Phase) (b : Board) (o : Order) →
    allowed_in p b.session (prior_left b.orders) (meet b.orders) (best o.side b.orders) o ≡ entitled_in p b o
within Open b o = refl
within Timed b o = timed (same o.side b.session.passive) b o
within Rolling b o = refl
within Fbs b o = refl

-- told whether prices meet, and its side's best price, an order is allowed to trade exactly if it is entitled
pub entitles : (b : Board) (s : Side) (o : Order) → on s o ≡ true →
    allowed (entitlement_of b (meet b.orders) (best s b.orders)) o ≡ entitled b s o
unfolding entitled
entitles b s o h =
    ap (λ (t : Side). allowed_in b.phase b.session (prior_left b.orders) (meet b.orders) (best t b.orders) o)
    (sym (same_true s o.side h)) ∙
    within b.phase b o ∙ ap (λ q. q && entitled_in b.phase b o) (sym h)
