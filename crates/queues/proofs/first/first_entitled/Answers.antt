use Rattle.std.proofs.Common.{◌≡◌, Bool, List, ℤ, Option, ap, ◌∙◌}
use Rattle.std.proofs.lemmas.Bool.{and_parts}
use Rattle.market.specs.declared.order.Order.{Order}
use Rattle.rules.specs.Board.{Board, on, best, meet}
use Rattle.rules.specs.Entitlement.{entitled_in, entitled, first_entitled}
use Rattle.rules.proofs.Tests.{same_true, eq-same}
use Rattle.board.specs.Entitlements.{entitlement_of, allowed}
use Rattle.board.specs.declared.entitlement.Entitlement.{Entitlement}
use Rattle.board.proofs.Entitles.{entitles}
use Rattle.queues.specs.Walks.{choice, walk}
use Rattle.queues.proofs.Walked.{walk_first}
use Rattle.queues.proofs.first.first_entitled.Goals as goal

pub returns : goal.returns
unfolding first_entitled entitled
returns g c w meets =
    let b = c.args.board.now in
    let s = g.T.Ranked.side in
    let number = g.T.OfOrder.number in
    let xs = g.L.Line.entries c.args.line.now in
    let told = entitlement_of b (meet b.orders) (best s b.orders) in
    let is : c.new-entitlement.result ≡ told =
    c.new-entitlement.ensures ∙ ap (λ (q : Bool). entitlement_of b q c.best_price.result) meets ∙
    ap (λ (p : Option ℤ). entitlement_of b (meet b.orders) p) (c.best_price.ensures b b.orders w.lists) in
    c.first_allowed.ensures ∙
    ap (λ (os : List Order). walk (choice (allowed c.new-entitlement.result) number os) xs) (c.deref.ensures.0 ∙ ap (λ (x : Board). x.orders) c.board.view_is) ∙
    ap (λ (e : Entitlement). walk (choice (allowed e) number b.orders) xs) is ∙
    walk_first s (g.T.Listed.listing b) (λ o. g.met.T.Listed.has b o ∙ g.met.T.Ranked.sided o) number (g.met.T.Listed.named b) g.T.Entry.ahead b (g.met.T.Ranked.agrees b)
    1 w.below b.orders w.rising (allowed told) (entitled b s) (λ o h. same_true s o.side (and_parts (on s o) (entitled_in b.phase b o) h).0)
    (λ o h. entitles b s o (eq-same s o.side h)) xs w.lists
