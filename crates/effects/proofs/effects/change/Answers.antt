use Rattle.std.proofs.Common.{◌≡◌, ℕ, ◌+◌, Bool, cond, List, Some, Option, sym, refl, ap, ◌∙◌, arith, w32, SFits, rules}
use Rattle.std.proofs.lemmas.Int.{to_z-of_z}
use Rattle.market.specs.declared.order.Order.{Order}
use Rattle.market.specs.declared.state.Counters.{Counters}
use Rattle.rules.specs.Base.{each, write}
use Rattle.rules.specs.Board.{Board}
use Rattle.rules.specs.Fills.{replace}
use Rattle.rules.specs.Rising.{Ascends}
use Rattle.rules.specs.Calls.{takes_stamp, changed}
use Rattle.board.specs.Memory.{board_of}
use Rattle.board.specs.Positions.{position_of}
use Rattle.board.specs.Rows.{put_at}
use Rattle.effects.specs.Effects.{forfeited_board}
use Rattle.board.proofs.Boards.{same-board}
use Rattle.board.proofs.Placed.{reserve_of, put-position, reserves-put}
use Rattle.effects.proofs.Written.{one_more, same-counts, with_orders, changed-board, changed-number}
use Rattle.effects.proofs.effects.change.Goals as goal

pub returns : goal.returns
returns c =
    let b = board_of c.board.inside in
    let x = board_of c.board-2.inside in
    let d = c.args.change.now in
    let o = c.args.order.now in
    let n = o.number in
    let s = b.counters.stamp in
    let os = b.orders in
    let rs = c.args.reserves.now.items in
    let after = c.changed_order-after.result in
    let fits : SFits w32 d.price = search rules in
    let written : List Order = c.put.new.rows.items in
    let is : after ≡ changed d (takes_stamp d o) s o =
    c.changed_order-after.ensures ∙ ap (λ (q : Bool). changed d q s o) c.takes_stamp-anew.ensures in
    let at : c.position-row.result ≡ position_of n os = c.position-row.ensures ∙ ap (position_of n) c.deref.ensures.0 in
    let placed : (k m : ℕ) → Ascends k m os → written ≡ replace n (Some after) os =
    λ k m a. c.put.ensures ∙ ap (λ (r : Option ℕ). put_at r (Some after) os) at ∙ put-position n (Some after) k m os a in
    let forfeited : x ≡ forfeited_board (with_orders written b) o d.price =
    c.board-2.view_is ∙ c.forfeit.ensures ∙ ap (forfeited_board (with_orders written b) o) (to_z-of_z w32 d.price fits) in
    let same : x.counters ≡ b.counters = ap (λ (y : Board). y.counters) forfeited in
    rw (← c.board.view_is) (record {
      order = is;
      board = λ k m bounds a.
          let more = one_more s 18446744073709551615 c.saturating_add.ensures (omega (arith, bounds.stamp)) in
          let stamp : c.stamp_of.result ≡ cond (takes_stamp d o) (s + 1) s =
          c.stamp_of.ensures ∙ ap (λ (t : ℕ). cond c.takes_stamp-anew.result t s) more ∙ ap (λ (q : Bool). cond q (s + 1) s) c.takes_stamp-anew.ensures in
          let writes = one_more x.counters.writes 4294967295 c.saturating_add-2.ensures (omega (arith, bounds.writes, ap (λ (y : Counters). y.writes) same)) in
          same-board refl c.await_draws_now.ensures (same-counts refl stamp writes refl) refl refl refl ∙
          changed-board b x d o written (placed k m a ∙ ap (λ (p : Order). replace n (Some p) os) is) forfeited;
      reserves = λ k m h a e.
          ap (each (reserve_of (write n d.reserve h))) (ap (λ (y : Board). y.orders) forfeited ∙ placed k m a) ∙
          reserves-put n d.reserve h (Some after) k m os (ap (λ (p : Order). p.number) is ∙ changed-number d (takes_stamp d o) s o) a ∙
          ap (put_at (position_of n os) (Some d.reserve)) e ∙
          sym (c.put-2.ensures ∙ ap (λ (r : Option ℕ). put_at r (Some d.reserve) rs) at);
    })
