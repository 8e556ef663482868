-- Examples of refusals: one for each test, and calls that fail several, of which the first is told. Assumes nothing.
use Rattle.std.specs.Prelude.{◌≡◌, ℕ, true, false, [], ◌∷◌, replicate, ℤ, pos, negsuc, Some, None, Err, Option}
use Rattle.line.specs.declared.lines.LineFault.TheVariants.{Full}
use Rattle.market.specs.declared.order.Side.{Side}
use Rattle.market.specs.declared.order.Side.TheVariants.{Bid, Offer}
use Rattle.market.specs.declared.order.OrderType.TheVariants.{FaS}
use Rattle.market.specs.declared.state.Phase.TheVariants.{Open}
use Rattle.market.specs.declared.call.Call.{Call}
use Rattle.market.specs.declared.call.Call.TheVariants.{Tick, Draw}
use Rattle.market.specs.declared.refusal.BookFault.TheVariants.{NotQuiet, Time, Trader, Order as Unknown, Price, Size, End, Better, Own, Writes, Orders}
use Rattle.market.specs.declared.refusal.Refusal.TheVariants.{Line}
use Rattle.rules.specs.Board.{State, empty}
use Rattle.rules.specs.Calls.{run, answers, opened}
use Rattle.rules.specs.Samples.{rooms, ten_years, enter_as, enter, change, cancel, accepted, done, refused, quiet, after, begun}

-- side, price, displayed and end time of an entry of this trader
abbrev pub tried : ℕ → Side → ℤ → ℕ → Option ℕ → Call
tried t s p d end = enter_as t s FaS p d 0 end

-- rooms for one bid, one offer and no end time; trader 1 has the offer, at 100
abbrev pub narrow : State
narrow = run (rooms 1 1 0) opened (enter 1 Offer 100 50 0 ∷ Draw ∷ enter 2 Bid 90 50 0 ∷ Draw ∷ [])

-- bid 1 of trader 1 in a session at 100, and his offer 3 at 101
abbrev pub offered : State
offered = run ten_years begun (enter 1 Offer 101 50 0 ∷ Draw ∷ [])

-- n bids of trader 1 are live, and so many entries and changes were accepted
abbrev pub laden : ℕ → ℕ → State
laden n writes =
    record {
      board = record {
        orders = replicate n (record {
          number = 1;
          trader = 1;
          side = Bid;
          kind = FaS;
          price = pos 100;
          displayed = 50;
          shown = 50;
          end = None;
          stamp = 1;
          filled = false;
          first = None;
          prior = false;
        });
        phase = Open;
        clock = record { time = 0; wished = 0; quiet = true };
        counters = record { number = 2; stamp = 2; fills = 0; writes = writes; incoming = Some 1 };
        session = opened.board.session;
        completions = empty;
        privileges = empty;
      };
      hidden = λ n. 0;
    }

pub record RefusalExamples : Type 0 where
  pub busy : answers ten_years (after (enter 1 Bid 100 50 0 ∷ [])) (enter 1 Bid 100 50 0 ∷ change 1 1 100 50 ∷ cancel 1 1 ∷ Tick 1 ∷ []) ≡
      (refused NotQuiet ∷ refused NotQuiet ∷ refused NotQuiet ∷ refused NotQuiet ∷ [])
  pub time : answers ten_years (after (Tick 5 ∷ Draw ∷ [])) (Tick 4 ∷ Tick 1000000000001 ∷ Tick 5 ∷ Draw ∷ Tick 1000000000000 ∷ []) ≡
      (refused Time ∷ refused Time ∷ done ∷ quiet 5 ∷ done ∷ [])
  pub trader : answers ten_years opened
      (enter 0 Bid 100 50 0 ∷ enter 129 Bid 100 50 0 ∷ change 0 1 100 50 ∷ cancel 129 1 ∷ enter 128 Bid 100 50 0 ∷ []) ≡
      (refused Trader ∷ refused Trader ∷ refused Trader ∷ refused Trader ∷ accepted 1 ∷ [])
  pub unknown : answers ten_years begun (cancel 2 1 ∷ cancel 1 3 ∷ change 2 1 100 50 ∷ change 2 2 100 50 ∷ cancel 1 1 ∷ []) ≡
      (refused Unknown ∷ refused Unknown ∷ refused Unknown ∷ refused Unknown ∷ done ∷ [])
  pub price : answers ten_years opened
      (tried 1 Bid (pos 1000001) 50 None ∷ tried 1 Bid (negsuc 1000000) 50 None ∷ tried 1 Bid (negsuc 999999) 50 None ∷ Draw ∷
      tried 2 Offer (pos 1000000) 50 None ∷ []) ≡
      (refused Price ∷ refused Price ∷ accepted 1 ∷ quiet 0 ∷ accepted 2 ∷ [])
  pub size : answers ten_years opened
      (enter 1 Bid 100 0 50 ∷ enter 1 Bid 100 50 25 ∷ enter 1 Bid 100 50 1000050 ∷ enter 1 Bid 100 50 1000000 ∷ []) ≡
      (refused Size ∷ refused Size ∷ refused Size ∷ accepted 1 ∷ [])
  pub end : answers ten_years (after (Tick 5 ∷ Draw ∷ []))
      (tried 1 Bid (pos 100) 50 (Some 5) ∷ tried 1 Bid (pos 100) 50 (Some 1000000000001) ∷ tried 1 Bid (pos 100) 50 (Some 6) ∷ []) ≡
      (refused End ∷ refused End ∷ accepted 1 ∷ [])
  -- equal prices meet; in a session an entry counts at the price to which it is re-priced
  pub own : answers ten_years (after (enter 1 Bid 100 50 0 ∷ Draw ∷ []))
      (enter 1 Offer 100 50 0 ∷ enter 1 Offer 101 50 0 ∷ Draw ∷ change 1 2 100 50 ∷ []) ≡
      (refused Own ∷ accepted 2 ∷ quiet 0 ∷ refused Own ∷ [])
  pub repriced : answers ten_years begun (enter 4 Offer 101 50 0 ∷ Draw ∷ enter 4 Bid 102 50 0 ∷ Draw ∷ []) ≡
      (accepted 3 ∷ quiet 0 ∷ accepted 4 ∷ quiet 0 ∷ [])
  pub room : answers (rooms 1 1 0) narrow
      (enter 3 Bid 90 50 0 ∷ enter 3 Offer 110 50 0 ∷ cancel 2 2 ∷ Draw ∷ tried 3 Bid (pos 90) 50 (Some 9) ∷ enter 3 Bid 90 50 0 ∷ []) ≡
      (Err (Line Full) ∷ Err (Line Full) ∷ done ∷ quiet 0 ∷ Err (Line Full) ∷ accepted 3 ∷ [])
  -- the first test that an entry and a change fail
  pub first_of_entry : answers (rooms 1 1 0) narrow
      (tried 0 Bid (pos 1000001) 25 (Some 0) ∷ tried 1 Bid (pos 1000001) 25 (Some 0) ∷ tried 1 Bid (pos 100) 25 (Some 0) ∷
      tried 1 Bid (pos 100) 50 (Some 0) ∷ tried 1 Bid (pos 100) 50 (Some 9) ∷ tried 1 Bid (pos 99) 50 (Some 9) ∷ []) ≡
      (refused Trader ∷ refused Price ∷ refused Size ∷ refused End ∷ refused Own ∷ Err (Line Full) ∷ [])
  pub first_of_change : answers ten_years offered
      (change 0 9 2000000 25 ∷ change 1 9 2000000 25 ∷ change 1 1 2000000 25 ∷ change 1 1 101 25 ∷ change 1 1 101 50 ∷
      change 1 3 100 50 ∷ change 1 1 100 50 ∷ []) ≡
      (refused Trader ∷ refused Unknown ∷ refused Price ∷ refused Size ∷ refused Better ∷ refused Own ∷ done ∷ [])
  -- so many entries and changes, and so many live orders; the former is told before the latter, and that before a full line
  pub writes : answers ten_years (laden 1 1000000) (enter 2 Bid 90 50 0 ∷ change 1 1 100 50 ∷ cancel 1 1 ∷ []) ≡
      (refused Writes ∷ refused Writes ∷ done ∷ [])
  pub last_write : answers ten_years (laden 1 999999) (enter 2 Bid 90 50 0 ∷ []) ≡ (accepted 2 ∷ [])
  pub orders : answers ten_years (laden 128 0) (enter 2 Offer 110 50 0 ∷ []) ≡ (refused Orders ∷ [])
  pub last_order : answers ten_years (laden 127 0) (enter 2 Offer 110 50 0 ∷ []) ≡ (accepted 2 ∷ [])
  pub writes_first : answers ten_years (laden 128 1000000) (enter 2 Offer 110 50 0 ∷ []) ≡ (refused Writes ∷ [])
  pub orders_first : answers (rooms 128 0 0) (laden 128 0) (enter 2 Offer 110 50 0 ∷ []) ≡ (refused Orders ∷ [])
