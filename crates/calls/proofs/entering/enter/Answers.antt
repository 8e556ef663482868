use Rattle.std.proofs.Common.{refl}
use Rattle.std.proofs.lemmas.Bool.{true≢false}
use Rattle.calls.proofs.Enters.{entry-refused, side-refused, end_refused, entry_done}
use Rattle.calls.proofs.entering.enter.Goals as goal

pub returns-in_err-check_entry : goal.returns-in_err-check_entry
returns-in_err-check_entry g c =
    record {
      obeys = λ k S sound w.
          entry-refused g.L.Bids.Line g.L.Offers.Line g.L.Ends.Line c.args.memory.now k S c.args.wanted.now c.from_residual.result _
          c.from_residual.ensures.1 c.in_err-check_entry.ensures w;
      kept = λ e. refl;
    }

pub returns-in_err-check_side_line : goal.returns-in_err-check_side_line
returns-in_err-check_side_line g c =
    record {
      obeys = λ k S sound w.
          side-refused g.L.Bids.Line g.L.Offers.Line g.L.Ends.Line c.args.memory.now k S c.args.wanted.now
          c.from_residual-in_err-check_side_line.result _ c.from_residual-in_err-check_side_line.ensures.1
          c.in_ok-check_entry.ensures (c.in_err-check_side_line.ensures k S sound w) w;
      kept = λ e. refl;
    }

pub returns-in_err-check_end_line : goal.returns-in_err-check_end_line
returns-in_err-check_end_line g c =
    record {
      obeys = λ k S sound w.
          end_refused g.L.Bids.Line g.L.Offers.Line g.L.Ends.Line c.args.memory.now k S c.args.wanted.now
          c.from_residual-in_err-check_end_line.result _ c.from_residual-in_err-check_end_line.ensures.1
          c.in_ok-check_entry.ensures (c.in_err-check_end_line.ensures k S sound w) w;
      kept = λ e. refl;
    }

pub returns : goal.returns
returns g c =
    record {
      obeys = λ k S sound w.
          entry_done g.L.Bids.Line g.L.Offers.Line g.L.Ends.Line c.args.memory.now _ _ k S c.args.wanted.now c.enter-order.result _ sound
          c.in_ok-check_entry.ensures (c.in_ok-check_side_line.ensures k S sound w)
          (c.in_ok-check_end_line.ensures k S sound w) w (record { settings = refl; bids = refl; offers = refl; ends = refl })
          c.enter-order.ensures c.of-new.ensures c.enlist.ensures;
      kept = λ e. absurd (true≢false e);
    }
