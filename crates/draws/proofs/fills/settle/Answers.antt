use Rattle.std.proofs.Common.{◌≡◌, ℕ, ◌-◌, sym, refl, ap, ◌∙◌}
use Rattle.market.specs.declared.state.Counters.{Counters}
use Rattle.market.specs.declared.state.Completion.{Completion}
use Rattle.rules.specs.Base.{each}
use Rattle.rules.specs.Board.{in_session}
use Rattle.rules.specs.Fills.{remainder, remainder_of, executed, left, stamp_after, replace, completions_after, privileges_after, drawn_from}
use Rattle.board.specs.Memory.{board_of}
use Rattle.draws.specs.Remainders.{meant, reserve_after}
use Rattle.board.specs.Positions.{position_of}
use Rattle.board.specs.Rows.{put_at}
use Rattle.draws.specs.Rows.{reserve_at}
use Rattle.draws.specs.Settled.{left_of, settled_board}
use Rattle.draws.proofs.Boards.{same-board}
use Rattle.board.proofs.Placed.{reserve_of, put-position}
use Rattle.draws.proofs.Reserves.{reserve-position}
use Rattle.draws.proofs.Settling.{reserves-left}
use Rattle.draws.proofs.fills.settle.Goals as goal

pub returns : goal.returns
unfolding remainder_of settled_board
returns c = rw (← c.board.view_is) (λ k m h room a i e.
    let b = board_of c.board.inside in
    let o = c.args.order.now in
    let n = o.number in
    let size = c.args.size in
    let fill = c.args.fill in
    let os = b.orders in
    let stamp = b.counters.stamp in
    let f = remainder_of h size o in
    let rs = each (reserve_of h) os in
    let at : c.position-row.result ≡ position_of n os = c.position-row.ensures ∙ ap (position_of n) c.deref.ensures.0 in
    let reserve : c.reserve_at-reserve.result ≡ h n =
    c.reserve_at-reserve.ensures ∙ ap (reserve_at c.position-row.result) (c.deref-2.ensures.0 ∙ sym e) ∙
    ap (λ t. reserve_at t rs) at ∙ reserve-position h os o i in
    let is : meant c.of-remainder.result ≡ f =
    c.of-remainder.ensures ∙ ap (λ x. remainder x o.shown c.reserve_at-reserve.result) c.saturating_sub.ensures ∙
    ap (remainder (o.displayed - size) o.shown) reserve in
    let after : c.order_after-after.result ≡ left_of b o size fill f =
    c.order_after-after.ensures ∙ ap (λ g. left g stamp c.executed.result) is ∙
    ap (left f stamp) (c.executed.ensures ∙ ap (λ t. executed t fill size o) c.in_session-session.ensures) in
    let orders : c.put.new.rows.items ≡ replace n (left_of b o size fill f) os =
    c.put.ensures ∙ ap (λ t. put_at t c.order_after-after.result os) at ∙ ap (λ r. put_at (position_of n os) r os) after ∙
    put-position n (left_of b o size fill f) k m os a in
    let reserves : c.put-2.new.rows.items ≡ put_at (position_of n os) (reserve_after f (h n)) rs =
    c.put-2.ensures ∙ ap (λ t. put_at t c.reserve_after.result c.args.reserves.now.items) at ∙
    ap (λ r. put_at (position_of n os) r c.args.reserves.now.items)
    (c.reserve_after.ensures ∙ ap (λ g. reserve_after g c.reserve_at-reserve.result) is ∙ ap (reserve_after f) reserve) ∙
    ap (put_at (position_of n os) (reserve_after f (h n))) (sym e) in
    let counters : ℕ → Counters = λ x. record {
      number = b.counters.number;
      stamp = x;
      fills = b.counters.fills;
      writes = b.counters.writes;
      incoming = b.counters.incoming;
    } in
    let completion : Completion = record { fill = fill; number = b.counters.number } in
    record {
      board =
          same-board orders (ap counters (c.stamp_after-board-inside.ensures room ∙ ap (λ g. stamp_after g stamp) is)) refl
          (c.note_completion.ensures ∙
          ap (λ g. completions_after g c.in_session-session.result o.trader o.side completion b.completions) is ∙
          ap (λ t. completions_after f t o.trader o.side completion b.completions) c.in_session-session.ensures)
          (c.end_privilege.ensures ∙ ap (λ g. privileges_after g o b.privileges) is);
      order = after;
      reserves = ap (each (reserve_of (drawn_from h o f))) orders ∙
          reserves-left h f stamp (in_session b.phase) fill size o k m os a ∙ sym reserves;
    })
