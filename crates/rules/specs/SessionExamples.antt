-- Examples of sessions: who trades, at what price, and how long the phases last. Assumes nothing.
use Rattle.std.specs.Prelude.{◌≡◌, ℕ, [], ◌∷◌, pos, refl}
use Rattle.market.specs.declared.order.Side.TheVariants.{Bid, Offer}
use Rattle.market.specs.declared.call.Call.TheVariants.{Tick, Draw}
use Rattle.rules.specs.Base.{each}
use Rattle.rules.specs.Board.{Opening, State}
use Rattle.rules.specs.Calls.{run, answers, opened}
use Rattle.rules.specs.Samples.{ten_years, enter, change, rewrite, accepted, done, quiet, filled, session, rolling, fbs, reopened, after, begun, second_session, in_rolling, prices}

-- prior orders 1, of the Passive Owner, and 2; the first is filled in part, and the tape is quiet
abbrev pub priors : State
priors = after (enter 1 Bid 100 150 0 ∷ Draw ∷ enter 2 Bid 100 50 0 ∷ Draw ∷ enter 3 Offer 100 50 0 ∷ Draw ∷ Draw ∷ Draw ∷ [])

-- ten years, with a short Rolling phase
abbrev pub short : Opening
short =
    record {
      settings = record { tenor = 10; timed = 10000; rolling = 1000; fbs = 8000; made = refl };
      bids = 128;
      offers = 128;
      ends = 128;
    }

pub record SessionExamples : Type 0 where
  -- the trigger's rest stands at the session's price, with its stamp
  pub trigger : prices (after (enter 1 Bid 100 50 0 ∷ Draw ∷ enter 2 Offer 98 100 0 ∷ Draw ∷ Draw ∷ [])) ≡ ((2, pos 100) ∷ [])
  pub stamped : each {B = ℕ × ℕ} (λ o. (o.number, o.stamp))
      (after (enter 1 Bid 100 50 0 ∷ Draw ∷ enter 2 Offer 98 100 0 ∷ Draw ∷ Draw ∷ [])).board.orders ≡ ((2, 2) ∷ [])
  -- the passive order is the best, and an order behind its price is not prior
  pub passive : answers ten_years opened
      (enter 1 Bid 99 50 0 ∷ Draw ∷ enter 2 Bid 100 50 0 ∷ Draw ∷ enter 3 Offer 98 100 0 ∷ Draw ∷ Draw ∷ Draw ∷ []) ≡
      (accepted 1 ∷ quiet 0 ∷ accepted 2 ∷ quiet 0 ∷ accepted 3 ∷ session 0 100 2 ∷ filled 0 100 50 2 0 3 50 ∷ quiet 0 ∷ [])
  -- a change that makes prices meet is the trigger
  pub changed : answers ten_years opened
      (enter 1 Bid 99 50 0 ∷ Draw ∷ enter 2 Offer 100 50 0 ∷ Draw ∷ change 1 1 101 50 ∷ Draw ∷ Draw ∷ Draw ∷ []) ≡
      (accepted 1 ∷ quiet 0 ∷ accepted 2 ∷ quiet 0 ∷ done ∷ session 0 100 2 ∷ filled 0 100 50 1 0 2 0 ∷ quiet 0 ∷ [])
  -- Rolling ends a period after the last fill, be that in Timed
  pub rolls : answers ten_years begun
      (Tick 3000 ∷ Draw ∷ enter 2 Offer 100 50 0 ∷ Draw ∷ Draw ∷ Tick 12999 ∷ Draw ∷ Draw ∷ Tick 13000 ∷ Draw ∷ Draw ∷ []) ≡
      (done ∷ quiet 3000 ∷ accepted 3 ∷ filled 3000 100 50 1 50 3 0 ∷ quiet 3000 ∷ done ∷ rolling 10000 ∷ quiet 12999 ∷ done ∷
      fbs 13000 ∷ quiet 13000 ∷ [])
  -- but not before it began
  pub late : answers short (run short opened (enter 1 Bid 100 50 0 ∷ Draw ∷ enter 2 Offer 100 50 0 ∷ Draw ∷ Draw ∷ Draw ∷ []))
      (Tick 10000 ∷ Draw ∷ Draw ∷ Draw ∷ []) ≡
      (done ∷ rolling 10000 ∷ fbs 10000 ∷ quiet 10000 ∷ [])
  -- a restocked order is not prior: the Passive Owner has no order, so that bid 2 trades no more
  pub restocked : answers ten_years opened
      (enter 1 Bid 100 50 0 ∷ Draw ∷ enter 2 Bid 100 50 50 ∷ Draw ∷ enter 3 Offer 100 150 0 ∷ Draw ∷ Draw ∷ Draw ∷ Draw ∷ []) ≡
      (accepted 1 ∷ quiet 0 ∷ accepted 2 ∷ quiet 0 ∷ accepted 3 ∷ session 0 100 1 ∷ filled 0 100 50 1 0 3 100 ∷
      filled 0 100 50 2 50 3 50 ∷ quiet 0 ∷ [])
  -- it goes to the end of the queue
  pub behind : answers ten_years in_rolling
      (enter 3 Bid 100 50 50 ∷ Draw ∷ enter 4 Bid 100 50 0 ∷ Draw ∷ enter 5 Offer 100 100 0 ∷ Draw ∷ Draw ∷ Draw ∷ []) ≡
      (accepted 5 ∷ quiet 10000 ∷ accepted 6 ∷ quiet 10000 ∷ accepted 7 ∷ filled 10000 100 50 5 50 7 50 ∷ filled 10000 100 50 6 0 7 0 ∷
      quiet 10000 ∷ [])
  -- a restock brings the smaller of reserve and shown size, which is the displayed size last written
  pub smaller : answers ten_years opened (enter 1 Bid 100 100 50 ∷ Draw ∷ enter 2 Offer 100 150 0 ∷ Draw ∷ Draw ∷ Draw ∷ Draw ∷ []) ≡
      (accepted 1 ∷ quiet 0 ∷ accepted 2 ∷ session 0 100 1 ∷ filled 0 100 100 1 50 2 50 ∷ filled 0 100 50 1 0 2 0 ∷ quiet 0 ∷ [])
  pub shown : answers ten_years opened
      (enter 1 Bid 100 100 150 ∷ Draw ∷ rewrite 1 1 100 50 100 ∷ Draw ∷ enter 2 Offer 100 100 0 ∷ Draw ∷ Draw ∷ Draw ∷ Draw ∷ []) ≡
      (accepted 1 ∷ quiet 0 ∷ done ∷ quiet 0 ∷ accepted 2 ∷ session 0 100 1 ∷ filled 0 100 50 1 50 2 50 ∷ filled 0 100 50 1 50 2 0 ∷
      quiet 0 ∷ [])
  -- a smaller displayed size keeps stamp and priority; a larger one takes a new stamp, and the order is prior no more
  pub reduced : answers ten_years priors (change 1 1 100 50 ∷ Draw ∷ enter 3 Offer 100 50 0 ∷ Draw ∷ Draw ∷ []) ≡
      (done ∷ quiet 0 ∷ accepted 4 ∷ filled 0 100 50 1 0 4 0 ∷ quiet 0 ∷ [])
  pub enlarged : answers ten_years priors (change 1 1 100 150 ∷ Draw ∷ enter 3 Offer 100 100 0 ∷ Draw ∷ Draw ∷ Draw ∷ []) ≡
      (done ∷ quiet 0 ∷ accepted 4 ∷ filled 0 100 50 2 0 4 50 ∷ filled 0 100 50 1 100 4 0 ∷ quiet 0 ∷ [])
  -- a prior order is left at the first quiet: there is no Aggressive Owner, then or later; and of bids that are not prior only the
  -- Passive Owner's trade
  pub owners : answers ten_years opened
      (enter 1 Bid 100 100 0 ∷ Draw ∷ enter 2 Offer 100 50 0 ∷ Draw ∷ Draw ∷ Draw ∷ enter 3 Offer 100 50 0 ∷ Draw ∷ Draw ∷
      enter 5 Bid 100 50 0 ∷ Draw ∷ enter 4 Offer 100 50 0 ∷ Draw ∷ enter 1 Bid 100 50 0 ∷ Draw ∷ Draw ∷ []) ≡
      (accepted 1 ∷ quiet 0 ∷ accepted 2 ∷ session 0 100 1 ∷ filled 0 100 50 1 50 2 0 ∷ quiet 0 ∷ accepted 3 ∷ filled 0 100 50 1 0 3 0 ∷
      quiet 0 ∷ accepted 4 ∷ quiet 0 ∷ accepted 5 ∷ quiet 0 ∷ accepted 6 ∷ filled 0 100 50 6 0 5 0 ∷ quiet 0 ∷ [])
  -- nor does the Aggressive Owner of an earlier session own the next
  pub anew : answers ten_years second_session (enter 5 Offer 101 50 0 ∷ Draw ∷ Draw ∷ []) ≡
      (accepted 5 ∷ filled 30000 101 50 3 0 5 0 ∷ quiet 30000 ∷ [])
  -- in the FBS Period the fill is at the price of the order that is not incoming; it begins no session and does not move the
  -- period's end
  pub outside : answers ten_years begun
      (Tick 10000 ∷ Draw ∷ Draw ∷ Draw ∷ enter 3 Offer 97 50 0 ∷ Draw ∷ Draw ∷ enter 4 Offer 103 50 0 ∷ Draw ∷
      enter 5 Bid 105 50 0 ∷ Draw ∷ Draw ∷ Tick 18000 ∷ Draw ∷ Draw ∷ []) ≡
      (done ∷ rolling 10000 ∷ fbs 10000 ∷ quiet 10000 ∷ accepted 3 ∷ filled 10000 100 50 1 50 3 0 ∷ quiet 10000 ∷ accepted 4 ∷
      quiet 10000 ∷ accepted 5 ∷ filled 10000 103 50 5 0 4 0 ∷ quiet 10000 ∷ done ∷ reopened 18000 ∷ quiet 18000 ∷ [])
