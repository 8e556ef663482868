-- A board with one part written anew. Assumes nothing.
use Rattle.market.specs.declared.state.Privilege.{Privilege}
use Rattle.rules.specs.Board.{Board, Table}

abbrev pub with_privileges : Table Privilege → Board → Board
with_privileges ps b =
    record {
      orders = b.orders;
      phase = b.phase;
      clock = b.clock;
      counters = b.counters;
      session = b.session;
      completions = b.completions;
      privileges = ps;
    }
