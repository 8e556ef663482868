use Rattle.std.proofs.Common.{rules}
use Rattle.market.specs.declared.state.Phase.TheVariants.{Timed, Rolling, Fbs}
use Rattle.rules.specs.Draws.{begins, fills, removes, turns, expires, rests}
use Rattle.drawing.proofs.Drawn.{drawn, not-begun, not-ended}
use Rattle.drawing.proofs.machine.draw.Goals.{in-Session+in-Timed-1, in-PhaseEnd+in-Open-1}
use Rattle.drawing.proofs.machine.draw.Goals as goal

pub returns-in-Some-Session-Open : goal.returns-in-Some-Session-Open
returns-in-Some-Session-Open g c =
    drawn g.L.Bids.Line g.L.Offers.Line g.L.Ends.Line c.args.memory.now c.begin.new.memory
    (begins c.in-Some-Session-Open.trigger c.in-Some-Session-Open.passive) c.begin.result (search rules) c.begin.ensures

pub returns-in-Some-PhaseEnd-Timed : goal.returns-in-Some-PhaseEnd-Timed
returns-in-Some-PhaseEnd-Timed g c =
    drawn g.L.Bids.Line g.L.Offers.Line g.L.Ends.Line c.args.memory.now c.turn.new.memory
    (turns c.in-Some-PhaseEnd-Timed.time) c.turn.result (search rules) c.turn.ensures

pub returns-in-Some-Pair-default : goal.returns-in-Some-Pair-default
returns-in-Some-Pair-default g c =
    drawn g.L.Bids.Line g.L.Offers.Line g.L.Ends.Line c.args.memory.now c.trade.new.memory
    (fills c.in-Some-Pair-default.bid c.in-Some-Pair-default.offer) c.trade.result (search rules) c.trade.ensures

pub returns-in-Some-Removal-default : goal.returns-in-Some-Removal-default
returns-in-Some-Removal-default g c =
    drawn g.L.Bids.Line g.L.Offers.Line g.L.Ends.Line c.args.memory.now c.remove.new.memory
    (removes c.in-Some-Removal-default.order c.in-Some-Removal-default.cause) c.remove.result (search rules) c.remove.ensures

pub returns-in-Some-Expiry-default : goal.returns-in-Some-Expiry-default
returns-in-Some-Expiry-default g c =
    drawn g.L.Bids.Line g.L.Offers.Line g.L.Ends.Line c.args.memory.now c.expire.new.memory
    (expires c.in-Some-Expiry-default.order c.in-Some-Expiry-default.time) c.expire.result (search rules) c.expire.ensures

pub returns-in-None-default : goal.returns-in-None-default
returns-in-None-default g c =
    drawn g.L.Bids.Line g.L.Offers.Line g.L.Ends.Line c.args.memory.now c.rest-in-None-default.new.memory rests c.rest-in-None-default.result
    (search rules) c.rest-in-None-default.ensures

pub returns-in-Some-Session-Timed : goal.returns-in-Some-Session-Timed
returns-in-Some-Session-Timed g c k S sound w =
    let begins-not = not-begun g.L.Bids.Line g.L.Offers.Line g.L.Ends.Line c.args.memory.now k S in
    elim c.in-Some-Session-Timed-1.branch [
      | in-Session+in-Timed-1 u ↦ absurd (search (begins-not Timed, begins-not Rolling, begins-not Fbs, rules))
      | in-PhaseEnd+in-Open-1 u ↦ absurd (search (not-ended g.L.Bids.Line g.L.Offers.Line g.L.Ends.Line c.args.memory.now k S, rules))
    ]
