use Rattle.std.proofs.Common.{refl}
use Rattle.std.proofs.lemmas.Bool.{true≢false}
use Rattle.calls.proofs.Cancels.{cancel-refused, cancel-done}
use Rattle.calls.proofs.cancelling.cancel.Goals as goal

pub returns-in_err-order : goal.returns-in_err-order
returns-in_err-order g c =
    record {
      obeys = λ k S sound w.
          cancel-refused g.L.Bids.Line g.L.Offers.Line g.L.Ends.Line c.args.memory.now k S c.args.wanted.now c.from_residual.result _
          c.from_residual.ensures.1 c.in_err-order.ensures w;
      kept = λ e. refl;
    }

pub returns : goal.returns
returns g c =
    record {
      obeys = λ k S sound w.
          cancel-done g.L.Bids.Line g.L.Offers.Line g.L.Ends.Line c.args.memory.now _ _ k S c.args.wanted.now c.in_ok-order.order _ _ sound
          c.in_ok-order.ensures w (record { settings = refl; bids = refl; offers = refl; ends = refl }) c.cancel.ensures
          c.of-old.ensures c.none.ensures c.relist.ensures;
      kept = λ e. absurd (true≢false e);
    }
