use Rattle.std.proofs.Common.{◌≡◌, ℕ, ◌<◌, List, [], ◌∷◌, ◌++◌, length, sym, refl, ap, ◌∙◌, arith}
use Rattle.market.specs.declared.order.Order.{Order}
use Rattle.market.specs.declared.state.Counters.{Counters}
use Rattle.rules.specs.Base.{each, write}
use Rattle.rules.specs.Board.{Board}
use Rattle.board.specs.Memory.{board_of}
use Rattle.effects.specs.Effects.{claimed_board}
use Rattle.board.proofs.Boards.{same-board}
use Rattle.board.proofs.Placed.{reserve_of}
use Rattle.effects.proofs.Written.{one_more, same-counts, pushed, entered-board, entered-number, reserves-more, each-length}
use Rattle.effects.proofs.effects.enter.Goals as goal

pub returns : goal.returns
returns c =
    let b = c.args.board.now in
    let x = board_of c.board.inside in
    let o = c.new_order-order.result in
    let w = c.args.wanted.now in
    let claimed : x ≡ claimed_board b w o = c.board.view_is ∙ c.claim.ensures in
    let rs = c.args.reserves.now.items in
    let kept : x.orders ≡ b.orders = ap (λ (y : Board). y.orders) claimed in
    let same : x.counters ≡ b.counters = ap (λ (y : Board). y.counters) claimed in
    let grown : length b.orders < 128 → c.try_push.new.self.items ≡ x.orders ++ (o ∷ []) =
    λ l. pushed c.try_push.result c.try_push.ensures.variant c.try_push.ensures.ok (omega (arith, ap length kept)) in
    record {
      order = c.new_order-order.ensures;
      board = λ bounds l.
          let number = one_more x.counters.number 4294967295 c.saturating_add.ensures (omega (arith, bounds.number, ap (λ (y : Counters). y.number) same)) in
          let stamp = one_more x.counters.stamp 18446744073709551615 c.saturating_add-2.ensures (omega (arith, bounds.stamp, ap (λ (y : Counters). y.stamp) same)) in
          let writes = one_more x.counters.writes 4294967295 c.saturating_add-3.ensures (omega (arith, bounds.writes, ap (λ (y : Counters). y.writes) same)) in
          same-board (grown l) c.await_draws_now.ensures (same-counts number stamp writes refl) refl refl refl ∙
          entered-board b x w o c.new_order-order.ensures claimed;
      reserves = λ k h l a e.
          let n = b.counters.number in
          let few : length rs < 128 = omega (arith, ap length e, each-length (reserve_of h) b.orders) in
          ap (each (reserve_of (write n w.reserve h))) (grown l ∙ ap (λ (os : List Order). os ++ (o ∷ [])) kept) ∙
          reserves-more n w.reserve h k b.orders o (entered-number w n b.counters.stamp b c.new_order-order.ensures) a ∙
          ap (λ (ys : List ℕ). ys ++ (w.reserve ∷ [])) e ∙ sym (pushed c.try_push-2.result c.try_push-2.ensures.variant c.try_push-2.ensures.ok few);
    }
