-- What accepted calls do to the board and to the reserves beside its orders. Assumes nothing.
use Rattle.std.specs.Prelude.{◌≡◌, ℕ, ◌<◌, not, ◌&&◌, List, length, ℤ}
use Rattle.market.specs.declared.order.Order.{Order}
use Rattle.market.specs.declared.state.Privilege.{Privilege}
use Rattle.market.specs.declared.call.OrderEntry.{OrderEntry}
use Rattle.market.specs.declared.call.OrderChange.{OrderChange}
use Rattle.rules.specs.Base.{write}
use Rattle.rules.specs.Board.{Board, Table, better, is_fbs}
use Rattle.rules.specs.Rising.{Ascends}
use Rattle.rules.specs.Refusing.{most_orders, entry_price}
use Rattle.rules.specs.Calls.{entered, taken_at, entered_board, takes_stamp, changed, lost_at, changed_board, cancelled_board}
use Rattle.board.specs.Memory.{Bounded}
use Rattle.board.specs.Struck.{Keeping}

abbrev pub with_privileges : Table Privilege → Board → Board
with_privileges ps b =
    record {
      orders = b.orders;
      phase = b.phase;
      clock = b.clock;
      counters = b.counters;
      session = b.session;
      completions = b.completions;
      privileges = ps;
    }

-- the board after the entry, which becomes order o, takes the privilege that it may
abbrev pub claimed_board : Board → OrderEntry → Order → Board
claimed_board b e o =
    with_privileges (taken_at (is_fbs b.phase && not (better e.side o.price b.session.price)) o.number e b.privileges) b

-- the board after order o, re-priced to p, loses the privilege that it may not carry
abbrev pub forfeited_board : Board → Order → ℤ → Board
forfeited_board b o p = with_privileges (lost_at (is_fbs b.phase && better o.side p b.session.price) o b.privileges) b

-- the entry becomes order o
pub record Enters (e : OrderEntry) (o : Order) (b b' : Board) (rs rs' : List ℕ) : Type 0 where
  pub order : o ≡ entered e b.counters.number b.counters.stamp (entry_price b e.side e.price)
  pub board : Bounded b → length b.orders < most_orders → b' ≡ entered_board b e
  pub reserves : (k : ℕ) (h : ℕ → ℕ) → length b.orders < most_orders → Ascends k b.counters.number b.orders →
      Keeping h (write b.counters.number e.reserve h) b.orders rs b'.orders rs'

-- order o becomes o'
pub record Changes (c : OrderChange) (o o' : Order) (b b' : Board) (rs rs' : List ℕ) : Type 0 where
  pub order : o' ≡ changed c (takes_stamp c o) b.counters.stamp o
  pub board : (k m : ℕ) → Bounded b → Ascends k m b.orders → b' ≡ changed_board b c o
  pub reserves : (k m : ℕ) (h : ℕ → ℕ) → Ascends k m b.orders →
      Keeping h (write o.number c.reserve h) b.orders rs b'.orders rs'

pub record Cancels (o : Order) (b b' : Board) (rs rs' : List ℕ) : Type 0 where
  pub board : (k m : ℕ) → Ascends k m b.orders → b' ≡ cancelled_board b o
  pub reserves : (k m : ℕ) (h : ℕ → ℕ) → Ascends k m b.orders → Keeping h h b.orders rs b'.orders rs'
