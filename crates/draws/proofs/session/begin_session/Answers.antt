use Rattle.std.proofs.Common.{refl, ap, ◌∙◌, w32, SFits, rules}
use Rattle.std.proofs.lemmas.Int.{to_z-of_z}
use Rattle.rules.specs.Base.{each}
use Rattle.rules.specs.Draws.{started, begun_board}
use Rattle.draws.proofs.Boards.{same-board}
use Rattle.draws.proofs.session.begin_session.Goals as goal

pub returns : goal.returns
unfolding begun_board
returns c =
    let fits : SFits w32 c.args.passive.now.price = search rules in
    let p = to_z-of_z w32 c.args.passive.now.price fits in
    let os = c.board.inside.orders.items in
    rw (← c.board.view_is) (same-board
    (c.start_orders.ensures ∙
    ap (λ n. each (started n c.new.result.passive c.new.result.price) os) c.new.ensures.trigger ∙
    ap (λ s. each (started c.args.trigger.now.number s c.new.result.price) os) c.new.ensures.side ∙
    ap (λ q. each (started c.args.trigger.now.number c.args.passive.now.side q) os) c.new.ensures.price)
    refl (rw p) c.new-board-inside.ensures c.clear.ensures)
