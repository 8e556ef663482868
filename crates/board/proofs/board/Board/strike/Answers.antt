use Rattle.std.proofs.Common.{◌≡◌, None, sym, refl, ap, ◌∙◌}
use Rattle.market.specs.declared.order.Order.{Order}
use Rattle.rules.specs.Base.{each}
use Rattle.rules.specs.Privileges.{freed, adjust}
use Rattle.board.specs.Positions.{position_of}
use Rattle.board.specs.Rows.{put_at}
use Rattle.board.specs.Struck.{struck_board}
use Rattle.board.proofs.Boards.{same-board}
use Rattle.board.proofs.Placed.{put-position, reserves-less}
use Rattle.board.proofs.board.Board.strike.Goals as goal

pub returns : goal.returns
unfolding struck_board
returns c =
    let n = c.args.order.now.number in
    let os = c.self.inside.orders.items in
    let rs = c.args.reserves.now.items in
    let at : c.position-row.result ≡ position_of n os = c.position-row.ensures ∙ ap (position_of n) c.deref.ensures.0 in
    let orders : c.put.new.rows.items ≡ put_at (position_of n os) None os = c.put.ensures ∙ ap (λ s. put_at s None os) at in
    let reserves : c.put-2.new.rows.items ≡ put_at (position_of n os) None rs = c.put-2.ensures ∙ ap (λ s. put_at s None rs) at in
    let o = c.args.order.now in
    let ps = c.self.inside.privileges.slots in
    let carried : c.free.new.self.slots ≡ adjust (freed n) o.trader o.side ps =
    c.free.ensures ∙ ap (λ t. adjust (freed n) t c.from.result.side ps) c.from.ensures.0 ∙
    ap (λ s. adjust (freed n) o.trader s ps) c.from.ensures.1 in
    rw (← c.self.view_is) (record {
      board = λ k m a. same-board (orders ∙ put-position n None k m os a) refl refl refl refl carried;
      reserves = λ k m h a e.
          ap (each (λ (o : Order). h o.number)) (orders ∙ put-position n None k m os a) ∙ reserves-less n h k m os a ∙
          ap (put_at (position_of n os) None) e ∙ sym reserves;
    })
