use Rattle.std.proofs.Common.{rules, ◌∙◌}
use borrow.Author.Tests.{tests}
use Rattle.rules.specs.Board.{numbered, ordered}
use Rattle.board.proofs.Scans.{finds}
use Rattle.board.proofs.orders.numbered.Goals as goal

pub returns : goal.returns
unfolding ordered
returns c =
    c.copied.ensures ∙
    finds (numbered c.args.number) _ _ c.args.orders.now c.iter.ensures.rest c.find.ensures.ran
    (λ x q k. search (rules, tests)) (λ x q k. search (rules, tests))
