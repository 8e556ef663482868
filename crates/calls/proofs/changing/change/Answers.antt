use Rattle.std.proofs.Common.{refl}
use Rattle.std.proofs.lemmas.Bool.{true≢false}
use Rattle.calls.proofs.Changes.{change-refused, change-done}
use Rattle.calls.proofs.changing.change.Goals as goal

pub returns-in_err-order : goal.returns-in_err-order
returns-in_err-order g c =
    record {
      obeys = λ k S sound w.
          change-refused g.L.Bids.Line g.L.Offers.Line g.L.Ends.Line c.args.memory.now k S c.args.wanted.now c.from_residual.result _
          c.from_residual.ensures.1 c.in_err-order.ensures w;
      kept = λ e. refl;
    }

pub returns : goal.returns
returns g c =
    record {
      obeys = λ k S sound w.
          change-done g.L.Bids.Line g.L.Offers.Line g.L.Ends.Line c.args.memory.now _ _ k S c.args.wanted.now c.in_ok-order.order
          c.change-after.result _ _ sound c.in_ok-order.ensures w (record { settings = refl; bids = refl; offers = refl; ends = refl })
          c.change-after.ensures c.of-old.ensures c.of-new.ensures c.relist.ensures;
      kept = λ e. absurd (true≢false e);
    }
