use Rattle.std.proofs.Common.{◌≡◌, ◌+◌, ◌^◌, ◌<◌, refl, ap, ◌∙◌, arith, w32, SFits, rules}
use Rattle.std.proofs.lemmas.Int.{to_z-of_z}
use Rattle.rules.specs.Board.{Board}
use Rattle.rules.specs.Fills.{size_of}
use Rattle.draws.proofs.Boards.{same-board}
use Rattle.draws.proofs.Filling.{between, finished, onward, filled}
use Rattle.draws.proofs.fills.fill.Goals as goal

pub returns : goal.returns
unfolding size_of
returns c k m h w a i j d e =
    let b = c.args.board.now in
    let bid = c.args.bid.now in
    let offer = c.args.offer.now in
    let size = c.min-size.result in
    let n = c.saturating_add-number.result in
    let b' = c.settle-bid_left.new.board in
    let b'' = c.settle-offer_left.new.board in
    let counted : n ≡ b.counters.fills + 1 = omega (arith, c.saturating_add-number.ensures, w.fills, ap (λ (x : Board). x.counters.fills) c.board.view_is) in
    let room : b.counters.stamp + 1 < 2 ^ 64 = omega (arith, w.stamp) in
    let one = c.settle-bid_left.ensures k m h room a i e in
    let on = onward h b bid offer size n d k m b' one.board w a j in
    let two = c.settle-offer_left.ensures k m (between h b bid offer size n d) on.0 on.1 on.2 one.reserves in
    let fits : SFits w32 c.fill_price-price.result = search rules in
    let x = c.settle-bid_left.result in
    let y = c.settle-offer_left.result in
    let told = c.session_after-board-inside.ensures in
    filled h b bid offer size n d b' b'' c.settle-bid_left.new.reserves.items c.settle-offer_left.new.reserves.items x y one two counted
    c.min-size.ensures _ (to_z-of_z w32 c.fill_price-price.result fits ∙ c.fill_price-price.ensures) _ _ c.displayed_of.ensures
    c.displayed_of-2.ensures _ (same-board refl refl told refl refl ∙ ap (finished n bid offer) c.board-2.view_is) _ refl
