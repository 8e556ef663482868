-- No counter and no time of a sound state is near its type's end. Assumes nothing.
use Rattle.std.proofs.Common.{arith}
use Rattle.rules.specs.Board.{Opening, State}
use Rattle.invariants.specs.Sound.{Sound}
use Rattle.invariants.proofs.Sounds.{stamp-small, fills-small}
use Rattle.board.specs.Memory.{Bounded}

pub bounded : (k : Opening) (S : State) → Sound k S → Bounded S.board
bounded k S s =
    record {
      number = omega (arith, s.counted.numbers, s.counted.writes);
      writes = omega (arith, s.counted.writes);
      stamp = omega (arith, stamp-small _ S.board.counters s.counted);
      fills = omega (arith, fills-small _ S.board.counters s.counted);
      since = omega (arith, s.timely.since, s.timely.time, s.timely.wished);
      last = omega (arith, s.timely.last, s.timely.time, s.timely.wished);
    }
