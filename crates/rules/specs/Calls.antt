-- What every call does: its one answer, and the state after it; and runs of calls from an opening. Assumes nothing.
use Rattle.std.specs.Prelude.{ℕ, ◌+◌, Bool, true, false, cond, not, ◌&&◌, ◌||◌, List, [], ◌∷◌, ◌++◌, ℤ, pos, Some, None, Ok, Err, Option, nat_lt}
use Rattle.market.specs.Answers.{Answer}
use Rattle.market.specs.declared.order.Side.TheVariants.{Bid}
use Rattle.market.specs.declared.order.Order.{Order}
use Rattle.market.specs.declared.state.Phase.TheVariants.{Open}
use Rattle.market.specs.declared.state.Clock.{Clock}
use Rattle.market.specs.declared.state.Privilege.{Privilege}
use Rattle.market.specs.declared.call.OrderEntry.{OrderEntry}
use Rattle.market.specs.declared.call.OrderChange.{OrderChange}
use Rattle.market.specs.declared.call.Call.{Call}
use Rattle.market.specs.declared.call.Call.TheVariants.{Entry, Change, Cancel, Tick, Draw}
use Rattle.market.specs.declared.refusal.Refusal.{Refusal}
use Rattle.market.specs.declared.answer.Accepted.TheVariants.{Entered, Done, Drawn}
use Rattle.rules.specs.Base.{eq_z, write}
use Rattle.rules.specs.Board.{Opening, Board, State, Table, empty, better, is_fbs}
use Rattle.rules.specs.Privileges.{taken, freed, lost, adjust}
use Rattle.rules.specs.Fills.{replace}
use Rattle.rules.specs.Draws.{draw}
use Rattle.rules.specs.Refusing.{is_size, entry_price, owned, entry_refusal, change_refusal, cancel_refusal, tick_refusal}

-- after an accepted call the tape must be drawn to quiet, by the wished time
abbrev pub awaiting : ℕ → Clock → Clock
awaiting wished c = record { time = c.time; wished = wished; quiet = false }

-- ---- entry

unfoldable pub entered : OrderEntry → ℕ → ℕ → ℤ → Order
entered e number stamp price =
    record {
      number = number;
      trader = e.trader;
      side = e.side;
      kind = e.kind;
      price = price;
      displayed = e.displayed;
      shown = e.displayed;
      end = e.end;
      stamp = stamp;
      filled = false;
      first = None;
      prior = false;
    }

-- in the FBS Period an entry at the session's price or worse takes the trader's privilege on the side, if it is free
abbrev pub taken_at : Bool → ℕ → OrderEntry → Table Privilege → Table Privilege
taken_at false n e ps = ps
taken_at true n e ps = adjust (taken n) e.trader e.side ps

unfoldable pub entered_board : Board → OrderEntry → Board
entered_board b e =
    let p = entry_price b e.side e.price in
    let n = b.counters.number in
    record {
      orders = b.orders ++ (entered e n b.counters.stamp p ∷ []);
      phase = b.phase;
      clock = awaiting b.clock.time b.clock;
      counters = record {
        number = n + 1;
        stamp = b.counters.stamp + 1;
        fills = b.counters.fills;
        writes = b.counters.writes + 1;
        incoming = Some n;
      };
      session = b.session;
      completions = b.completions;
      privileges = taken_at (is_fbs b.phase && not (better e.side p b.session.price)) n e b.privileges;
    }

-- ---- change

-- a new price or a larger displayed size takes a new stamp
abbrev pub takes_stamp : OrderChange → Order → Bool
takes_stamp c o = not (eq_z c.price o.price) || nat_lt o.displayed c.displayed

unfoldable pub changed : OrderChange → Bool → ℕ → Order → Order
changed c anew stamp o =
    record {
      number = o.number;
      trader = o.trader;
      side = o.side;
      kind = o.kind;
      price = c.price;
      displayed = c.displayed;
      shown = c.displayed;
      end = o.end;
      stamp = cond anew stamp o.stamp;
      filled = o.filled;
      first = o.first;
      prior = not anew && o.prior;
    }

-- in the FBS Period a price better than the session's ends the privilege that the order carries
abbrev pub lost_at : Bool → Order → Table Privilege → Table Privilege
lost_at false o ps = ps
lost_at true o ps = adjust (lost o.number) o.trader o.side ps

unfoldable pub changed_board : Board → OrderChange → Order → Board
changed_board b c o =
    record {
      orders = replace o.number (Some (changed c (takes_stamp c o) b.counters.stamp o)) b.orders;
      phase = b.phase;
      clock = awaiting b.clock.time b.clock;
      counters = record {
        number = b.counters.number;
        stamp = cond (takes_stamp c o) (b.counters.stamp + 1) b.counters.stamp;
        fills = b.counters.fills;
        writes = b.counters.writes + 1;
        incoming = Some o.number;
      };
      session = b.session;
      completions = b.completions;
      privileges = lost_at (is_fbs b.phase && better o.side c.price b.session.price) o b.privileges;
    }

-- ---- cancel

unfoldable pub cancelled_board : Board → Order → Board
cancelled_board b o =
    record {
      orders = replace o.number None b.orders;
      phase = b.phase;
      clock = awaiting b.clock.time b.clock;
      counters = b.counters;
      session = b.session;
      completions = b.completions;
      privileges = adjust (freed o.number) o.trader o.side b.privileges;
    }

-- ---- tick

unfoldable pub ticked_board : Board → ℕ → Board
ticked_board b t =
    record {
      orders = b.orders;
      phase = b.phase;
      clock = awaiting t b.clock;
      counters = b.counters;
      session = b.session;
      completions = b.completions;
      privileges = b.privileges;
    }

-- ---- the calls

-- refused, and the state stays; or accepted
abbrev pub replied : Option Refusal → Answer → State → State → Answer × State
replied None a S S' = (a, S')
replied (Some r) a S S' = (Err r, S)

abbrev pub entered_state : State → OrderEntry → State
entered_state S e = record { board = entered_board S.board e; hidden = write S.board.counters.number e.reserve S.hidden }

-- a change writes the reserve anew; of no order, nothing changes
abbrev pub changed_state : State → OrderChange → Option Order → State
changed_state S c None = S
changed_state S c (Some o) = record { board = changed_board S.board c o; hidden = write o.number c.reserve S.hidden }

abbrev pub cancelled_state : State → Option Order → State
cancelled_state S None = S
cancelled_state S (Some o) = record { board = cancelled_board S.board o; hidden = S.hidden }

unfoldable pub step : Opening → State → Call → Answer × State
step k S (Entry e) =
    replied (entry_refusal k S.board e (is_size k e.reserve)) (Ok (Entered S.board.counters.number)) S (entered_state S e)
step k S (Change c) =
    replied (change_refusal k S.board c (is_size k c.reserve)) (Ok Done) S
    (changed_state S c (owned S.board c.trader c.number))
step k S (Cancel c) =
    replied (cancel_refusal S.board c.trader c.number) (Ok Done) S
    (cancelled_state S (owned S.board c.trader c.number))
step k S (Tick t) =
    replied (tick_refusal S.board t) (Ok Done) S (record { board = ticked_board S.board t; hidden = S.hidden })
step k S Draw = (Ok (Drawn (draw k S).0), (draw k S).1)

-- ---- runs

-- a book is opened quiet, at time 0, in the phase Open, with no orders
unfoldable pub opened : State
opened =
    record {
      board = record {
        orders = [];
        phase = Open;
        clock = record { time = 0; wished = 0; quiet = true };
        counters = record { number = 1; stamp = 1; fills = 0; writes = 0; incoming = None };
        session = record {
          price = pos 0;
          passive = Bid;
          owner = 0;
          trigger = 0;
          aggressor = None;
          settled = false;
          since = 0;
          last = 0;
          buyer = None;
          seller = None;
        };
        completions = empty;
        privileges = empty;
      };
      hidden = λ n. 0;
    }

-- the state after calls
unfoldable pub run : Opening → State → List Call → State
run k S [] = S
run k S (c ∷ cs) = run k (step k S c).1 cs

-- their answers
unfoldable pub answers : Opening → State → List Call → List Answer
answers k S [] = []
answers k S (c ∷ cs) = (step k S c).0 ∷ answers k (step k S c).1 cs
