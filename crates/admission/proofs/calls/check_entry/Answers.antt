use Rattle.std.proofs.Common.{not, sym, ap, ◌∙◌, w32, SFits, rules}
use Rattle.std.proofs.lemmas.Int.{to_z-of_z}
use Rattle.market.specs.declared.refusal.Refusal.TheVariants.{Book, Line}
use Rattle.rules.specs.Refusing.{is_price, is_size, own_meets, entry_price, entry_tests, entry_refusal}
use Rattle.admission.proofs.Refused.{passed, failed, passed-at, failed-at, upto, none_left, answers}
use Rattle.admission.proofs.calls.check_entry.Goals as goal

pub returns-in_err-check_quiet : goal.returns-in_err-check_quiet
unfolding entry_refusal entry_tests
returns-in_err-check_quiet c = λ k e l.
    let b = c.args.board.now in
    let x = c.args.order.now in
    let f = failed _ _ c.in_err-check_quiet.ensures in
    answers _ c.from_residual.ensures.1
    (upto 0 (entry_tests k b x (is_size k x.reserve)) _ (f.0, ap Book f.1))

pub returns-in_err-check_trader : goal.returns-in_err-check_trader
unfolding entry_refusal entry_tests
returns-in_err-check_trader c = λ k e l.
    let b = c.args.board.now in
    let x = c.args.order.now in
    let quiet = passed _ _ c.in_ok-check_quiet.ensures in
    let f = failed _ _ c.in_err-check_trader.ensures in
    answers _ c.from_residual-in_err-check_trader.ensures.1
    (upto 1 (entry_tests k b x (is_size k x.reserve)) _ (quiet, (f.0, ap Book f.1)))

pub returns-in_err-check_price : goal.returns-in_err-check_price
unfolding entry_refusal entry_tests
returns-in_err-check_price c = λ k e l.
    let b = c.args.board.now in
    let x = c.args.order.now in
    let fits : SFits w32 x.price = search rules in
    let quiet = passed _ _ c.in_ok-check_quiet.ensures in
    let trader = passed _ _ c.in_ok-check_trader.ensures in
    let f = failed-at (λ z. not (is_price z)) _ _ fits c.in_err-check_price.ensures in
    answers _ c.from_residual-in_err-check_price.ensures.1
    (upto 2 (entry_tests k b x (is_size k x.reserve)) _ (quiet, (trader, (f.0, ap Book f.1))))

pub returns-in_err-check_sizes : goal.returns-in_err-check_sizes
unfolding entry_refusal entry_tests
returns-in_err-check_sizes c = λ k e l.
    let b = c.args.board.now in
    let x = c.args.order.now in
    let fits : SFits w32 x.price = search rules in
    let quiet = passed _ _ c.in_ok-check_quiet.ensures in
    let trader = passed _ _ c.in_ok-check_trader.ensures in
    let price = passed-at (λ z. not (is_price z)) _ _ fits c.in_ok-check_price.ensures in
    let f = failed _ _ (c.in_err-check_sizes.ensures k e) in
    answers _ c.from_residual-in_err-check_sizes.ensures.1
    (upto 3 (entry_tests k b x (is_size k x.reserve)) _ (quiet, (trader, (price, (f.0, ap Book f.1)))))

pub returns-in_err-check_end : goal.returns-in_err-check_end
unfolding entry_refusal entry_tests
returns-in_err-check_end c = λ k e l.
    let b = c.args.board.now in
    let x = c.args.order.now in
    let fits : SFits w32 x.price = search rules in
    let quiet = passed _ _ c.in_ok-check_quiet.ensures in
    let trader = passed _ _ c.in_ok-check_trader.ensures in
    let price = passed-at (λ z. not (is_price z)) _ _ fits c.in_ok-check_price.ensures in
    let sizes = passed _ _ (c.in_ok-check_sizes.ensures k e) in
    let f = failed _ _ c.in_err-check_end.ensures in
    answers _ c.from_residual-in_err-check_end.ensures.1
    (upto 4 (entry_tests k b x (is_size k x.reserve)) _ (quiet, (trader, (price, (sizes, (f.0, ap Book f.1))))))

pub returns-in_err-check_own : goal.returns-in_err-check_own
unfolding entry_refusal entry_tests
returns-in_err-check_own c = λ k e l.
    let b = c.args.board.now in
    let x = c.args.order.now in
    let fits : SFits w32 x.price = search rules in
    let fits' : SFits w32 c.entry_price-price.result = search rules in
    let paid = sym (c.entry_price-price.ensures ∙ ap (entry_price b x.side) (to_z-of_z w32 x.price fits)) in
    let quiet = passed _ _ c.in_ok-check_quiet.ensures in
    let trader = passed _ _ c.in_ok-check_trader.ensures in
    let price = passed-at (λ z. not (is_price z)) _ _ fits c.in_ok-check_price.ensures in
    let sizes = passed _ _ (c.in_ok-check_sizes.ensures k e) in
    let end = passed _ _ c.in_ok-check_end.ensures in
    let f = failed-at (own_meets b.orders x.trader x.side) _ _ fits' c.in_err-check_own.ensures in
    answers _ c.from_residual-in_err-check_own.ensures.1
    (upto 5 (entry_tests k b x (is_size k x.reserve)) _ (quiet, (trader, (price, (sizes, (end, (ap (own_meets b.orders x.trader x.side) paid ∙ f.0, ap Book f.1)))))))

pub returns-in_err-check_writes : goal.returns-in_err-check_writes
unfolding entry_refusal entry_tests
returns-in_err-check_writes c = λ k e l.
    let b = c.args.board.now in
    let x = c.args.order.now in
    let fits : SFits w32 x.price = search rules in
    let fits' : SFits w32 c.entry_price-price.result = search rules in
    let paid = sym (c.entry_price-price.ensures ∙ ap (entry_price b x.side) (to_z-of_z w32 x.price fits)) in
    let quiet = passed _ _ c.in_ok-check_quiet.ensures in
    let trader = passed _ _ c.in_ok-check_trader.ensures in
    let price = passed-at (λ z. not (is_price z)) _ _ fits c.in_ok-check_price.ensures in
    let sizes = passed _ _ (c.in_ok-check_sizes.ensures k e) in
    let end = passed _ _ c.in_ok-check_end.ensures in
    let own = ap (own_meets b.orders x.trader x.side) paid ∙ passed-at (own_meets b.orders x.trader x.side) _ _ fits' c.in_ok-check_own.ensures in
    let f = failed _ _ c.in_err-check_writes.ensures in
    answers _ c.from_residual-in_err-check_writes.ensures.1
    (upto 6 (entry_tests k b x (is_size k x.reserve)) _ (quiet, (trader, (price, (sizes, (end, (own, (f.0, ap Book f.1))))))))

pub returns-in_err-check_orders : goal.returns-in_err-check_orders
unfolding entry_refusal entry_tests
returns-in_err-check_orders c = λ k e l.
    let b = c.args.board.now in
    let x = c.args.order.now in
    let fits : SFits w32 x.price = search rules in
    let fits' : SFits w32 c.entry_price-price.result = search rules in
    let paid = sym (c.entry_price-price.ensures ∙ ap (entry_price b x.side) (to_z-of_z w32 x.price fits)) in
    let quiet = passed _ _ c.in_ok-check_quiet.ensures in
    let trader = passed _ _ c.in_ok-check_trader.ensures in
    let price = passed-at (λ z. not (is_price z)) _ _ fits c.in_ok-check_price.ensures in
    let sizes = passed _ _ (c.in_ok-check_sizes.ensures k e) in
    let end = passed _ _ c.in_ok-check_end.ensures in
    let own = ap (own_meets b.orders x.trader x.side) paid ∙ passed-at (own_meets b.orders x.trader x.side) _ _ fits' c.in_ok-check_own.ensures in
    let writes = passed _ _ c.in_ok-check_writes.ensures in
    let f = failed _ _ c.in_err-check_orders.ensures in
    answers _ c.from_residual-in_err-check_orders.ensures.1
    (upto 7 (entry_tests k b x (is_size k x.reserve)) _ (quiet, (trader, (price, (sizes, (end, (own, (writes, (f.0, ap Book f.1)))))))))

pub returns-in_err-refused_if : goal.returns-in_err-refused_if
unfolding entry_refusal entry_tests
returns-in_err-refused_if c = λ k e l.
    let b = c.args.board.now in
    let x = c.args.order.now in
    let fits : SFits w32 x.price = search rules in
    let fits' : SFits w32 c.entry_price-price.result = search rules in
    let paid = sym (c.entry_price-price.ensures ∙ ap (entry_price b x.side) (to_z-of_z w32 x.price fits)) in
    let quiet = passed _ _ c.in_ok-check_quiet.ensures in
    let trader = passed _ _ c.in_ok-check_trader.ensures in
    let price = passed-at (λ z. not (is_price z)) _ _ fits c.in_ok-check_price.ensures in
    let sizes = passed _ _ (c.in_ok-check_sizes.ensures k e) in
    let end = passed _ _ c.in_ok-check_end.ensures in
    let own = ap (own_meets b.orders x.trader x.side) paid ∙ passed-at (own_meets b.orders x.trader x.side) _ _ fits' c.in_ok-check_own.ensures in
    let writes = passed _ _ c.in_ok-check_writes.ensures in
    let orders = passed _ _ c.in_ok-check_orders.ensures in
    let f = failed _ _ c.in_err-refused_if.ensures in
    answers _ c.from_residual-in_err-refused_if.ensures.1
    (upto 8 (entry_tests k b x (is_size k x.reserve)) _ (quiet, (trader, (price, (sizes, (end, (own, (writes, (orders, (sym l ∙ f.0, ap Line f.1))))))))))

pub returns : goal.returns
unfolding entry_refusal entry_tests
returns c = λ k e l.
    let b = c.args.board.now in
    let x = c.args.order.now in
    let fits : SFits w32 x.price = search rules in
    let fits' : SFits w32 c.entry_price-price.result = search rules in
    let paid = sym (c.entry_price-price.ensures ∙ ap (entry_price b x.side) (to_z-of_z w32 x.price fits)) in
    let quiet = passed _ _ c.in_ok-check_quiet.ensures in
    let trader = passed _ _ c.in_ok-check_trader.ensures in
    let price = passed-at (λ z. not (is_price z)) _ _ fits c.in_ok-check_price.ensures in
    let sizes = passed _ _ (c.in_ok-check_sizes.ensures k e) in
    let end = passed _ _ c.in_ok-check_end.ensures in
    let own = ap (own_meets b.orders x.trader x.side) paid ∙ passed-at (own_meets b.orders x.trader x.side) _ _ fits' c.in_ok-check_own.ensures in
    let writes = passed _ _ c.in_ok-check_writes.ensures in
    let orders = passed _ _ c.in_ok-check_orders.ensures in
    let lines = sym l ∙ passed _ _ c.in_ok-refused_if.ensures in
    none_left (entry_tests k b x (is_size k x.reserve)) (quiet, (trader, (price, (sizes, (end, (own, (writes, (orders, (lines, tt)))))))))
