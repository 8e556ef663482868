-- The worked examples, by computation. Assumes nothing.
use Rattle.std.proofs.Common.{refl}
use Rattle.rules.specs.Opened.{rules}
use Rattle.rules.specs.Examples.{Examples}
use Rattle.rules.specs.SessionExamples.{SessionExamples}
use Rattle.rules.specs.PrivilegeExamples.{PrivilegeExamples}
use Rattle.rules.specs.RemovalExamples.{RemovalExamples}
use Rattle.rules.specs.RefusalExamples.{RefusalExamples}

sessions : SessionExamples
unfolding rules
sessions =
    record {
      trigger = refl;
      stamped = refl;
      passive = refl;
      changed = refl;
      rolls = refl;
      late = refl;
      restocked = refl;
      behind = refl;
      smaller = refl;
      shown = refl;
      reduced = refl;
      enlarged = refl;
      owners = refl;
      anew = refl;
      outside = refl;
    }

privileges : PrivilegeExamples
unfolding rules
privileges =
    record {
      part = refl;
      complete = refl;
      since = refl;
      seller = refl;
      none = refl;
      both = refl;
      slower = refl;
      earliest = refl;
      again = refl;
      firstly = refl;
      past = refl;
      classes = refl;
      queue = refl;
      unmoved = refl;
      freed = refl;
      passed = refl;
      taken = refl;
      once = refl;
      entries = refl;
      immediate = refl;
      kept = refl;
      cancelled = refl;
      removed = refl;
      improved = refl;
      filled = refl;
      over = refl;
    }

removals : RemovalExamples
unfolding rules
removals =
    record {
      alone = refl;
      rest = refl;
      unfilled = refl;
      lowest = refl;
      changed = refl;
      moment = refl;
      freed = refl;
    }

refusals : RefusalExamples
unfolding rules
refusals =
    record {
      busy = refl;
      time = refl;
      trader = refl;
      unknown = refl;
      price = refl;
      size = refl;
      end = refl;
      own = refl;
      repriced = refl;
      room = refl;
      first_of_entry = refl;
      first_of_change = refl;
      writes = refl;
      last_write = refl;
      orders = refl;
      last_order = refl;
      writes_first = refl;
      orders_first = refl;
    }

pub examples : Examples
unfolding rules
examples =
    record {
      fresh = refl;
      worked = refl;
      unmet = refl;
      rests = refl;
      better = refl;
      sizes = refl;
      absent = refl;
      eight = refl;
      sessions = sessions;
      privileges = privileges;
      removals = removals;
      refusals = refusals;
    }
