use Rattle.std.proofs.Common.{ap, ◌∙◌, rules}
use Rattle.board.specs.Entitlements.{allowed}
use Rattle.queues.specs.Walking.{left_after}
use Rattle.queues.specs.Walks.{choice, walk}
use Rattle.queues.proofs.FirstFound.{first_found}
use Rattle.queues.proofs.first.first_allowed.Goals as goal

pub returns : goal.returns
returns g c =
    let f = choice (allowed c.args.entitlement.now) g.T.OfOrder.number c.args.orders.now in
    let r = c.find_map.ensures.runs in
    first_found (λ s. left_after g.T.Entry.ahead s.last (g.L.Line.entries s.line.now)) _ _ f (search rules) (search rules) r.0 c.find_map.result r.2 ∙
    ap (λ s. walk f (left_after g.T.Entry.ahead s.last (g.L.Line.entries s.line.now))) r.1 ∙ ap (walk f) c.new.ensures
