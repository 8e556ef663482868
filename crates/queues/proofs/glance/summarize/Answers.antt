use Rattle.std.proofs.Common.{◌≡◌, ℕ, List, ℤ, Some, Option, sym, ap, ◌∙◌, w32, SFits, to_z, of_z, rules}
use Rattle.std.proofs.lemmas.Int.{to_z-of_z}
use Rattle.line.specs.Order.{Order as TotalOrder}
use Rattle.market.specs.declared.answer.Summary.{Summary}
use Rattle.market.specs.declared.order.Order.{Order}
use Rattle.rules.specs.Board.{Board, best}
use Rattle.rules.specs.Summaries.{summary_at, summary}
use Rattle.queues.specs.Walks.{shown_at, displayed_by}
use Rattle.queues.proofs.Totals.{summary-along}
use Rattle.queues.proofs.glance.summarize.Goals as goal

pub returns-in_err-price : goal.returns-in_err-price
unfolding summary
returns-in_err-price g c w =
    let b = c.args.board.now in
    let s = g.T.Ranked.side in
    c.from_residual.ensures ∙ ap (summary_at b s) (sym c.in_err-price.was ∙ c.best_price.ensures b b.orders w.lists)

pub returns : goal.returns
returns g c w =
    let t : TotalOrder g.T.Entry.ahead = record { irreflexive = g.met.T.Entry.irreflexive; total = g.met.T.Entry.total; transitive = g.met.T.Entry.transitive } in
    let b = c.args.board.now in
    let s = g.T.Ranked.side in
    let xs = g.L.Line.entries c.args.line.now in
    let p = c.in_ok-price.price in
    let f : SFits w32 p = search rules in
    let z = to_z w32 (of_z w32 p) in
    let number = g.T.OfOrder.number in
    let price = g.T.Ranked.price in
    let made : ℤ → ℕ → Option Summary = λ q n. Some (record { price = q; size = n }) in
    let is : best s b.orders ≡ Some p = sym (c.best_price.ensures b b.orders w.lists) ∙ c.in_ok-price.was in
    ap (made z) (c.displayed_at-size.ensures ∙ ap (λ (os : List Order). shown_at price (displayed_by number os) 8 z xs) (c.deref.ensures.0 ∙ ap (λ (x : Board). x.orders) c.board.view_is)) ∙
    ap (λ (q : ℤ). made q (shown_at price (displayed_by number b.orders) 8 q xs)) (to_z-of_z w32 p f) ∙
    summary-along t s (g.T.Listed.listing b) (λ o. g.met.T.Listed.has b o ∙ g.met.T.Ranked.sided o) number (g.met.T.Listed.named b) b (g.met.T.Ranked.agrees b)
    price (g.met.T.Ranked.priced b) g.met.T.Ranked.cheaper 1 w.below w.rising xs w.lists p is
