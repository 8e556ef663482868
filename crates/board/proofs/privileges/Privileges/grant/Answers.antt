use Rattle.std.proofs.Common.{◌≡◌, rules, ◌∙◌, arith}
use Rattle.rules.specs.Privileges.{earned, granted}
use Rattle.board.specs.Seats.{trader_at, side_at}
use Rattle.board.proofs.Tables.{tabled, made_of}
use Rattle.board.proofs.privileges.Privileges.grant.Goals as goal

pub returns : goal.returns
unfolding granted
returns c =
    let f = earned c.args.orders.now c.args.completions.now in
    let made = c.from_fn.ensures.items in
    c.filled-self.ensures ∙
    tabled f c.from_fn.result made.long (λ i d l.
    made_of _ _ (λ x r. r ≡ f (trader_at x) (side_at x)) c.from_fn.result 0 258 (λ x r q k. search rules) made.each i d (omega arith) (omega (arith, l)))
