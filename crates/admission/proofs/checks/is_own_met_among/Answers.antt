use Rattle.std.proofs.Common.{ℕ, ℤ, Bool, ◌&&◌, eqb, rules}
use borrow.Author.Tests.{tests}
use Rattle.market.specs.declared.order.Side.{Side}
use Rattle.market.specs.declared.order.Order.{Order}
use Rattle.rules.specs.Board.{on, other}
use Rattle.rules.specs.Refusing.{would_meet, own_meets}
use Rattle.board.proofs.Scans.{passes}
use Rattle.admission.proofs.checks.is_own_met_among.Goals as goal

abbrev test : ℕ → Side → ℤ → Order → Bool
test t s p o = eqb o.trader t && (on (other s) o && would_meet s p o.price)

pub returns : goal.returns
unfolding own_meets
returns c =
    let seat = c.args.seat in
    let os = c.args.orders.now in
    passes (test seat.trader seat.side c.args.price) _ _ os c.iter.ensures.rest c.any.ensures.ran
    (λ x q k. search (rules, tests)) (λ x q k. search (rules, tests))
