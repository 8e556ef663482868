use Rattle.std.proofs.Common.{rules, length, sym, ap, arith}
use Rattle.std.proofs.lemmas.List.{set_past}
use Rattle.rules.specs.Board.{place}
use Rattle.board.proofs.seats.Seats.put.Goals as goal

pub returns-then-number-lt258 : goal.returns-then-number-lt258
unfolding place
returns-then-number-lt258 g c = search rules

pub returns-else-number-lt258 : goal.returns-else-number-lt258
unfolding place
returns-else-number-lt258 g c = sym (set_past c.args.self.now _ _ (omega (arith, ap length c.self.view_is, c.self.invariant, c.number-number.ensures, c.if-number-lt258.false)))
