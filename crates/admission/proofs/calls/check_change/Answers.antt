use Rattle.std.proofs.Common.{◌≡◌, Bool, not, ◌&&◌, List, ◌∷◌, ℤ, Some, None, Option, sym, refl, ap, ◌∙◌, subst, w32, SFits, rules}
use Rattle.market.specs.declared.order.Side.{Side}
use Rattle.market.specs.declared.order.Order.{Order}
use Rattle.market.specs.declared.call.OrderChange.{OrderChange}
use Rattle.market.specs.declared.refusal.BookFault.TheVariants.{NotQuiet, Trader}
use Rattle.market.specs.declared.refusal.Refusal.{Refusal}
use Rattle.market.specs.declared.refusal.Refusal.TheVariants.{Book}
use Rattle.rules.specs.Base.{Fails}
use Rattle.rules.specs.Board.{Opening, Board, in_session, better}
use Rattle.rules.specs.Refusing.{is_trader, is_price, is_size, own_meets, owned, change_tests, change_of, change_refusal}
use Rattle.admission.proofs.Refused.{passed, failed, passed-at, failed-at, Upto, upto, none_left, found, missing, finds}
use Rattle.admission.proofs.calls.check_change.Goals as goal

abbrev beats : Board → Side → ℤ → Bool
beats b s z = in_session b.phase && better s z b.session.price

abbrev tests : Opening → Board → OrderChange → List (Bool × Refusal)
tests k b x =
    (not b.clock.quiet, Book NotQuiet) ∷ (not (is_trader x.trader), Book Trader) ∷
    change_of (owned b x.trader x.number) k b x (is_size k x.reserve)

-- what is found says which tests follow
so : (k : Opening) (b : Board) (x : OrderChange) (o : Option Order) (P : List (Bool × Refusal) → Type 0) →
    owned b x.trader x.number ≡ o → P (change_of o k b x (is_size k x.reserve)) →
    P (change_of (owned b x.trader x.number) k b x (is_size k x.reserve))
so k b x o P e h = subst (λ (r : Option Order). P (change_of r k b x (is_size k x.reserve))) (sym e) h

pub returns-in_err-check_quiet : goal.returns-in_err-check_quiet
unfolding change_refusal change_tests
returns-in_err-check_quiet c = λ k e.
    let b = c.args.board.now in
    let x = c.args.change.now in
    let f = failed _ _ c.in_err-check_quiet.ensures in
    finds _ _ c.from_residual.ensures.1
    (upto 0 (tests k b x) _ (f.0, ap Book f.1))

pub returns-in_err-check_trader : goal.returns-in_err-check_trader
unfolding change_refusal change_tests
returns-in_err-check_trader c = λ k e.
    let b = c.args.board.now in
    let x = c.args.change.now in
    let quiet = passed _ _ c.in_ok-check_quiet.ensures in
    let f = failed _ _ c.in_err-check_trader.ensures in
    finds _ _ c.from_residual-in_err-check_trader.ensures.1
    (upto 1 (tests k b x) _ (quiet, (f.0, ap Book f.1)))

pub returns-in_err-order : goal.returns-in_err-order
unfolding change_refusal change_tests
returns-in_err-order c = λ k e.
    let b = c.args.board.now in
    let x = c.args.change.now in
    let quiet = passed _ _ c.in_ok-check_quiet.ensures in
    let trader = passed _ _ c.in_ok-check_trader.ensures in
    let f = missing _ _ c.in_err-order.ensures.value in
    finds _ _ c.from_residual-in_err-order.ensures.1
    (upto 2 (tests k b x) _ (quiet, (trader, so k b x None (λ cs. Upto 0 cs (Book c.in_err-order.field-0.0)) (sym c.owned_by.ensures ∙ f.0) (refl, ap Book f.1))))

pub returns-in_err-check_price : goal.returns-in_err-check_price
unfolding change_refusal change_tests
returns-in_err-check_price c = λ k e.
    let b = c.args.board.now in
    let x = c.args.change.now in
    let fits : SFits w32 x.price = search rules in
    let quiet = passed _ _ c.in_ok-check_quiet.ensures in
    let trader = passed _ _ c.in_ok-check_trader.ensures in
    let order = sym c.owned_by.ensures ∙ found _ _ c.in_ok-order.ensures.value in
    let f = failed-at (λ z. not (is_price z)) _ _ fits c.in_err-check_price.ensures in
    finds _ _ c.from_residual-in_err-check_price.ensures.1
    (upto 2 (tests k b x) _ (quiet, (trader, so k b x (Some c.in_ok-order.order) (λ cs. Upto 0 cs (Book c.in_err-check_price.field-0.0)) order (f.0, ap Book f.1))))

pub returns-in_err-check_sizes : goal.returns-in_err-check_sizes
unfolding change_refusal change_tests
returns-in_err-check_sizes c = λ k e.
    let b = c.args.board.now in
    let x = c.args.change.now in
    let fits : SFits w32 x.price = search rules in
    let quiet = passed _ _ c.in_ok-check_quiet.ensures in
    let trader = passed _ _ c.in_ok-check_trader.ensures in
    let order = sym c.owned_by.ensures ∙ found _ _ c.in_ok-order.ensures.value in
    let price = passed-at (λ z. not (is_price z)) _ _ fits c.in_ok-check_price.ensures in
    let f = failed _ _ (c.in_err-check_sizes.ensures k e) in
    finds _ _ c.from_residual-in_err-check_sizes.ensures.1
    (upto 3 (tests k b x) _ (quiet, (trader, so k b x (Some c.in_ok-order.order) (λ cs. Upto 1 cs (Book c.in_err-check_sizes.field-0.0)) order (price, (f.0, ap Book f.1)))))

pub returns-in_err-check_better : goal.returns-in_err-check_better
unfolding change_refusal change_tests
returns-in_err-check_better c = λ k e.
    let b = c.args.board.now in
    let x = c.args.change.now in
    let fits : SFits w32 x.price = search rules in
    let quiet = passed _ _ c.in_ok-check_quiet.ensures in
    let trader = passed _ _ c.in_ok-check_trader.ensures in
    let order = sym c.owned_by.ensures ∙ found _ _ c.in_ok-order.ensures.value in
    let price = passed-at (λ z. not (is_price z)) _ _ fits c.in_ok-check_price.ensures in
    let sizes = passed _ _ (c.in_ok-check_sizes.ensures k e) in
    let f = failed-at (beats b c.in_ok-order.order.side) _ _ fits c.in_err-check_better.ensures in
    finds _ _ c.from_residual-in_err-check_better.ensures.1
    (upto 4 (tests k b x) _ (quiet, (trader, so k b x (Some c.in_ok-order.order) (λ cs. Upto 2 cs (Book c.in_err-check_better.field-0.0)) order (price, (sizes, (f.0, ap Book f.1))))))

pub returns-in_err-check_own : goal.returns-in_err-check_own
unfolding change_refusal change_tests
returns-in_err-check_own c = λ k e.
    let b = c.args.board.now in
    let x = c.args.change.now in
    let fits : SFits w32 x.price = search rules in
    let quiet = passed _ _ c.in_ok-check_quiet.ensures in
    let trader = passed _ _ c.in_ok-check_trader.ensures in
    let order = sym c.owned_by.ensures ∙ found _ _ c.in_ok-order.ensures.value in
    let price = passed-at (λ z. not (is_price z)) _ _ fits c.in_ok-check_price.ensures in
    let sizes = passed _ _ (c.in_ok-check_sizes.ensures k e) in
    let better = passed-at (beats b c.in_ok-order.order.side) _ _ fits c.in_ok-check_better.ensures in
    let f = failed-at (own_meets b.orders x.trader c.in_ok-order.order.side) _ _ fits c.in_err-check_own.ensures in
    finds _ _ c.from_residual-in_err-check_own.ensures.1
    (upto 5 (tests k b x) _ (quiet, (trader, so k b x (Some c.in_ok-order.order) (λ cs. Upto 3 cs (Book c.in_err-check_own.field-0.0)) order (price, (sizes, (better, (f.0, ap Book f.1)))))))

pub returns-in_err-check_writes : goal.returns-in_err-check_writes
unfolding change_refusal change_tests
returns-in_err-check_writes c = λ k e.
    let b = c.args.board.now in
    let x = c.args.change.now in
    let fits : SFits w32 x.price = search rules in
    let quiet = passed _ _ c.in_ok-check_quiet.ensures in
    let trader = passed _ _ c.in_ok-check_trader.ensures in
    let order = sym c.owned_by.ensures ∙ found _ _ c.in_ok-order.ensures.value in
    let price = passed-at (λ z. not (is_price z)) _ _ fits c.in_ok-check_price.ensures in
    let sizes = passed _ _ (c.in_ok-check_sizes.ensures k e) in
    let better = passed-at (beats b c.in_ok-order.order.side) _ _ fits c.in_ok-check_better.ensures in
    let own = passed-at (own_meets b.orders x.trader c.in_ok-order.order.side) _ _ fits c.in_ok-check_own.ensures in
    let f = failed _ _ c.in_err-check_writes.ensures in
    finds _ _ c.from_residual-in_err-check_writes.ensures.1
    (upto 6 (tests k b x) _ (quiet, (trader, so k b x (Some c.in_ok-order.order) (λ cs. Upto 4 cs (Book c.in_err-check_writes.field-0.0)) order (price, (sizes, (better, (own, (f.0, ap Book f.1))))))))

pub returns : goal.returns
unfolding change_refusal change_tests
returns c = λ k e.
    let b = c.args.board.now in
    let x = c.args.change.now in
    let fits : SFits w32 x.price = search rules in
    let quiet = passed _ _ c.in_ok-check_quiet.ensures in
    let trader = passed _ _ c.in_ok-check_trader.ensures in
    let order = sym c.owned_by.ensures ∙ found _ _ c.in_ok-order.ensures.value in
    let price = passed-at (λ z. not (is_price z)) _ _ fits c.in_ok-check_price.ensures in
    let sizes = passed _ _ (c.in_ok-check_sizes.ensures k e) in
    let better = passed-at (beats b c.in_ok-order.order.side) _ _ fits c.in_ok-check_better.ensures in
    let own = passed-at (own_meets b.orders x.trader c.in_ok-order.order.side) _ _ fits c.in_ok-check_own.ensures in
    let writes = passed _ _ c.in_ok-check_writes.ensures in
    (none_left (tests k b x) (quiet, (trader, so k b x (Some c.in_ok-order.order) Fails order (price, (sizes, (better, (own, (writes, tt))))))), order)
