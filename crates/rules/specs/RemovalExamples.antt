-- Examples of removals: orders that are to be filled or killed, end times, and their order at one moment. Assumes nothing.
use Rattle.std.specs.Prelude.{◌≡◌, List, [], ◌∷◌, pos, Some, None}
use Rattle.market.specs.declared.order.Side.TheVariants.{Bid, Offer}
use Rattle.market.specs.declared.order.OrderType.TheVariants.{FaS, FaK, FaKI}
use Rattle.market.specs.declared.state.Carrier.TheVariants.{Free}
use Rattle.market.specs.declared.record.Cause.TheVariants.{FaK as Killed, FaKI as AtOnce, End as Ended}
use Rattle.market.specs.declared.call.Call.{Call}
use Rattle.market.specs.declared.call.Call.TheVariants.{Tick, Draw}
use Rattle.rules.specs.Calls.{answers, opened}
use Rattle.rules.specs.Samples.{ten_years, enter_as, enter, change, accepted, done, quiet, filled, session, rolling, fbs, removed, after, privilege, priority_one}

-- a FaK bid is filled in part in a session; other orders end at 10,000, one at 9,000; the time reaches 10,000
abbrev pub expiring : List Call
expiring =
    enter_as 1 Bid FaK (pos 100) 100 0 None ∷ Draw ∷ enter 2 Offer 100 50 0 ∷ Draw ∷ Draw ∷ Draw ∷
    enter_as 3 Bid FaS (pos 99) 50 0 (Some 10000) ∷ Draw ∷ enter_as 4 Offer FaS (pos 101) 50 0 (Some 9000) ∷ Draw ∷
    enter_as 5 Offer FaS (pos 102) 50 0 (Some 10000) ∷ Draw ∷ Tick 10000 ∷ Draw ∷ Draw ∷ Draw ∷ Draw ∷ Draw ∷ Draw ∷ Draw ∷ []

pub record RemovalExamples : Type 0 where
  -- what a FaKI order does not trade goes at once
  pub alone : answers ten_years opened (enter_as 1 Bid FaKI (pos 100) 50 0 None ∷ Draw ∷ Draw ∷ []) ≡
      (accepted 1 ∷ removed 0 1 50 AtOnce ∷ quiet 0 ∷ [])
  pub rest : answers ten_years opened
      (enter 1 Bid 100 50 0 ∷ Draw ∷ enter_as 2 Offer FaKI (pos 100) 100 0 None ∷ Draw ∷ Draw ∷ Draw ∷ Draw ∷ []) ≡
      (accepted 1 ∷ quiet 0 ∷ accepted 2 ∷ session 0 100 1 ∷ filled 0 100 50 1 0 2 50 ∷ removed 0 2 50 AtOnce ∷ quiet 0 ∷ [])
  -- a FaK order that was never filled stays
  pub unfilled : answers ten_years opened (enter_as 1 Bid FaK (pos 100) 50 0 None ∷ Draw ∷ Tick 50000 ∷ Draw ∷ []) ≡
      (accepted 1 ∷ quiet 0 ∷ done ∷ quiet 50000 ∷ [])
  -- those filled in part go after the session, the lowest-numbered first
  pub lowest : answers ten_years opened
      (enter_as 1 Bid FaK (pos 100) 50 100 None ∷ Draw ∷ enter_as 2 Bid FaK (pos 100) 50 100 None ∷ Draw ∷ enter 3 Offer 100 100 0 ∷ Draw ∷
      Draw ∷ Draw ∷ Draw ∷ Tick 10000 ∷ Draw ∷ Draw ∷ Draw ∷ Draw ∷ Draw ∷ []) ≡
      (accepted 1 ∷ quiet 0 ∷ accepted 2 ∷ quiet 0 ∷ accepted 3 ∷ session 0 100 1 ∷ filled 0 100 50 1 50 3 50 ∷ filled 0 100 50 2 50 3 0 ∷
      quiet 0 ∷ done ∷ rolling 10000 ∷ fbs 10000 ∷ removed 10000 1 50 Killed ∷ removed 10000 2 50 Killed ∷ quiet 10000 ∷ [])
  -- also after a change
  pub changed : answers ten_years
      (after (enter_as 1 Bid FaK (pos 100) 100 0 None ∷ Draw ∷ enter 2 Offer 100 50 0 ∷ Draw ∷ Draw ∷ Draw ∷ []))
      (change 1 1 100 50 ∷ Draw ∷ Tick 10000 ∷ Draw ∷ Draw ∷ Draw ∷ Draw ∷ []) ≡
      (done ∷ quiet 0 ∷ done ∷ rolling 10000 ∷ fbs 10000 ∷ removed 10000 1 50 Killed ∷ quiet 10000 ∷ [])
  -- the earliest moment first; at one moment the phases' ends, then what they bring about, then end times by order number
  pub moment : answers ten_years opened expiring ≡
      (accepted 1 ∷ quiet 0 ∷ accepted 2 ∷ session 0 100 1 ∷ filled 0 100 50 1 50 2 0 ∷ quiet 0 ∷ accepted 3 ∷ quiet 0 ∷ accepted 4 ∷
      quiet 0 ∷ accepted 5 ∷ quiet 0 ∷ done ∷ removed 9000 4 50 Ended ∷ rolling 10000 ∷ fbs 10000 ∷ removed 10000 1 50 Killed ∷
      removed 10000 3 50 Ended ∷ removed 10000 5 50 Ended ∷ quiet 10000 ∷ [])
  -- the order that was killed had earned a Priority 1, which is free
  pub freed : privilege (after expiring) 1 Bid ≡ priority_one 1 Free
