use Rattle.std.proofs.Common.{ℕ, Bool, ◌&&◌, eqb, rules, ◌∙◌}
use borrow.Author.Tests.{tests}
use Rattle.market.specs.declared.order.Order.{Order}
use Rattle.rules.specs.Board.{numbered}
use Rattle.rules.specs.Refusing.{owned}
use Rattle.board.proofs.Scans.{finds}
use Rattle.board.proofs.board.Board.owned_by.Goals as goal

abbrev test : ℕ → ℕ → Order → Bool
test t n o = numbered n o && eqb o.trader t

pub returns : goal.returns
unfolding owned
returns c =
    rw (← c.self.view_is) (
    c.copied.ensures ∙
    finds (test c.args.trader c.args.number) _ _ c.self.inside.orders.items (c.iter.ensures.rest ∙ c.deref.ensures.0) c.find.ensures.ran
    (λ x q k. search (rules, tests)) (λ x q k. search (rules, tests)))
