use Rattle.std.proofs.Common.{◌≡◌, sym, ap, ◌∙◌, w32, to_z, of_z, SFits, rules}
use Rattle.std.proofs.lemmas.Int.{to_z-of_z}
use Rattle.market.specs.declared.record.Record.TheVariants.{Session}
use Rattle.rules.specs.Draws.{started}
use Rattle.drawing.proofs.Boards.{read}
use Rattle.drawing.proofs.Begun.{begun}
use Rattle.drawing.proofs.beginning.begin.Goals as goal

pub returns : goal.returns
returns g c k S sound w d =
    let x = c.args.trigger.now in
    let y = c.args.passive.now in
    let fits : SFits w32 y.price = search rules in
    let price = to_z w32 (of_z w32 y.price) in
    let same : price ≡ y.price = to_z-of_z w32 y.price fits in
    let s = c.new.result in
    let starts : c.started-started.result ≡ started x.number y.side price x =
    c.started-started.ensures ∙ ap (λ n. started n s.passive s.price x) c.new.ensures.trigger ∙
    ap (λ p. started x.number p s.price x) c.new.ensures.side ∙ ap (λ p. started x.number y.side p x) (c.new.ensures.price ∙ sym same) in
    let begins = begun g.L.Bids.Line g.L.Offers.Line g.L.Ends.Line c.args.memory.now c.relist.new.self c.begin_session.new.board k S x
    y c.started-started.result _ c.of-old.result c.of-new.result sound w d c.begin_session.ensures
    same starts c.of-old.ensures c.of-new.ensures c.relist.ensures in
    (begins.0, read (λ m. Session m.board.clock.time price y.number) c.memory.view_is ∙ begins.1)
