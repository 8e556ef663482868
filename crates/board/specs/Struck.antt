-- The board and the reserves beside its orders, after an order left. Assumes nothing.
use Rattle.std.specs.Prelude.{◌≡◌, ℕ, List, None}
use Rattle.market.specs.declared.order.Order.{Order}
use Rattle.rules.specs.Board.{Board}
use Rattle.rules.specs.Rising.{Ascends}
use Rattle.rules.specs.Privileges.{freed, adjust}
use Rattle.rules.specs.Fills.{replace}
use Rattle.board.specs.Memory.{Reserved}

-- the board without the order, and a Priority 1 that it carried free again
unfoldable pub struck_board : Board → Order → Board
struck_board b o =
    record {
      orders = replace o.number None b.orders;
      phase = b.phase;
      clock = b.clock;
      counters = b.counters;
      session = b.session;
      completions = b.completions;
      privileges = adjust (freed o.number) o.trader o.side b.privileges;
    }

-- h are the reserves by number before, h' after; rs and rs' those in memory, beside the orders os and os'
abbrev pub Keeping : (ℕ → ℕ) → (ℕ → ℕ) → List Order → List ℕ → List Order → List ℕ → Type 0
Keeping h h' os rs os' rs' = Reserved h os rs → Reserved h' os' rs'

-- the order leaves
pub record Strikes (o : Order) (b b' : Board) (rs rs' : List ℕ) : Type 0 where
  pub board : (k m : ℕ) → Ascends k m b.orders → b' ≡ struck_board b o
  pub reserves : (k m : ℕ) (h : ℕ → ℕ) → Ascends k m b.orders → Keeping h h b.orders rs b'.orders rs'
