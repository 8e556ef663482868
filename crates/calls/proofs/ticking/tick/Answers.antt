use Rattle.std.proofs.Common.{refl}
use Rattle.std.proofs.lemmas.Bool.{true≢false}
use Rattle.calls.proofs.Ticks.{tick-refused, tick-done}
use Rattle.calls.proofs.ticking.tick.Goals as goal

pub returns-in_err-check_tick : goal.returns-in_err-check_tick
returns-in_err-check_tick g c =
    record {
      obeys = λ k S sound w.
          tick-refused g.L.Bids.Line g.L.Offers.Line g.L.Ends.Line c.args.memory.now k S c.args.time c.from_residual.result _
          c.from_residual.ensures.1 c.in_err-check_tick.ensures w;
      kept = λ e. refl;
    }

pub returns : goal.returns
returns g c =
    record {
      obeys = λ k S sound w.
          tick-done g.L.Bids.Line g.L.Offers.Line g.L.Ends.Line c.args.memory.now _ k S c.args.time c.in_ok-check_tick.ensures w
          (record { settings = refl; bids = refl; offers = refl; ends = refl }) refl c.tick.ensures;
      kept = λ e. absurd (true≢false e);
    }
