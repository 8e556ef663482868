-- What the board in memory shows. Assumes nothing.
use Rattle.std.specs.Prelude.{◌≡◌, ℕ, ◌+◌, ◌^◌, ◌<◌, List}
use Rattle.market.specs.declared.order.Order.{Order}
use Rattle.rules.specs.Base.{each}
use Rattle.rules.specs.Board.{Board as Rules}
use Rattle.board.specs.declared.board.Board.TheInside.{Inside}

-- the board of the rules that its fields show
abbrev pub board_of : Inside → Rules
board_of m =
    record {
      orders = m.orders.items;
      phase = m.phase;
      clock = m.clock;
      counters = m.counters;
      session = m.session;
      completions = m.completions;
      privileges = m.privileges.slots;
    }

-- the reserves in memory, beside the orders, are those of the rules by number
abbrev pub Reserved : (ℕ → ℕ) → List Order → List ℕ → Type 0
Reserved h os rs = each (λ (o : Order). h o.number) os ≡ rs

-- no counter and no time of the board is near its type's end
pub record Bounded (b : Rules) : Type 0 where
  pub number : b.counters.number + 1 < 2 ^ 32
  pub writes : b.counters.writes + 1 < 2 ^ 32
  pub stamp : b.counters.stamp + 2 < 2 ^ 64
  pub fills : b.counters.fills + 1 < 2 ^ 64
  pub since : b.session.since < 2 ^ 63
  pub last : b.session.last < 2 ^ 63
