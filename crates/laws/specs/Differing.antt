-- Two runs that the law on reserves speaks of, with restocks in two sessions; and two runs that tell a reserve, since it runs out.
-- Assumes nothing.
use Rattle.std.specs.Prelude.{◌≡◌, ℕ, List, [], ◌∷◌, pos, None}
use Rattle.std.specs.List.{AllZip}
use Rattle.market.specs.Answers.{Answer}
use Rattle.market.specs.declared.order.Side.TheVariants.{Bid, Offer}
use Rattle.market.specs.declared.order.OrderType.TheVariants.{FaS}
use Rattle.market.specs.declared.call.OrderEntry.{OrderEntry}
use Rattle.market.specs.declared.call.OrderChange.{OrderChange}
use Rattle.market.specs.declared.call.Call.{Call}
use Rattle.market.specs.declared.call.Call.TheVariants.{Entry, Change, Tick, Draw}
use Rattle.rules.specs.Calls.{run, answers, opened}
use Rattle.rules.specs.Samples.{ten_years, enter, filled, accepted, done, quiet, session, rolling, fbs, reopened}
use Rattle.laws.specs.Hidden.{entry_with, change_with, Alike, NoneRunsOut}

-- a bid of trader 1 at 100 that displays 50, and a change of it to the same
abbrev pub bid : OrderEntry
bid = record { trader = 1; side = Bid; kind = FaS; price = pos 100; displayed = 50; reserve = 0; end = None }

abbrev pub again : OrderChange
again = record { trader = 1; number = 1; price = pos 100; displayed = 50; reserve = 0 }

-- entered with the reserve r, it trades twice in Timed; changed to the reserve s, it trades in Rolling, and in a second session
abbrev pub working : ℕ → ℕ → List Call
working r s =
    Entry (entry_with r bid) ∷ Draw ∷ enter 2 Offer 98 50 0 ∷ Draw ∷ Draw ∷ Draw ∷ Tick 5000 ∷ Draw ∷ enter 2 Offer 100 50 0 ∷ Draw ∷
    Draw ∷ Change (change_with s again) ∷ Draw ∷ Tick 10000 ∷ Draw ∷ Draw ∷ enter 3 Offer 100 50 0 ∷ Draw ∷ Draw ∷ Tick 30000 ∷ Draw ∷
    Draw ∷ Draw ∷ enter 4 Offer 99 50 0 ∷ Draw ∷ Draw ∷ Draw ∷ []

abbrev pub worked : List Answer
worked =
    accepted 1 ∷ quiet 0 ∷ accepted 2 ∷ session 0 100 1 ∷ filled 0 100 50 1 50 2 0 ∷ quiet 0 ∷ done ∷ quiet 5000 ∷
    accepted 3 ∷ filled 5000 100 50 1 50 3 0 ∷ quiet 5000 ∷ done ∷ quiet 5000 ∷ done ∷ rolling 10000 ∷ quiet 10000 ∷
    accepted 4 ∷ filled 10000 100 50 1 50 4 0 ∷ quiet 10000 ∷ done ∷ fbs 20000 ∷ reopened 28000 ∷ quiet 30000 ∷
    accepted 5 ∷ session 30000 100 1 ∷ filled 30000 100 50 1 50 5 0 ∷ quiet 30000 ∷ []

-- it trades twice, and then the reserve of 50 has run out
abbrev pub used_up : ℕ → List Call
used_up r =
    Entry (entry_with r bid) ∷ Draw ∷ enter 2 Offer 98 50 0 ∷ Draw ∷ Draw ∷ Draw ∷ enter 2 Offer 100 50 0 ∷ Draw ∷ []

pub record Differing : Type 0 where
  -- two runs with reserves of 200 and 500, then of 300 and 250: they are alike, and nothing runs out
  pub alike : AllZip (Alike ten_years 1) (working 200 300) (working 500 250)
  pub kept : NoneRunsOut ten_years ten_years (working 200 300) (working 500 250)
  pub left : ((run ten_years opened (working 200 300)).hidden 1 ≡ 200) × ((run ten_years opened (working 500 250)).hidden 1 ≡ 150)
  -- four restocks in two sessions are told
  pub told : answers ten_years opened (working 200 300) ≡ worked
  -- a reserve that runs out is told: the last fill leaves 0 displayed, and of a larger reserve 50
  pub out : answers ten_years opened (used_up 50) ≡
      (accepted 1 ∷ quiet 0 ∷ accepted 2 ∷ session 0 100 1 ∷ filled 0 100 50 1 50 2 0 ∷ quiet 0 ∷ accepted 3 ∷ filled 0 100 50 1 0 3 0 ∷ [])
  pub more : answers ten_years opened (used_up 100) ≡
      (accepted 1 ∷ quiet 0 ∷ accepted 2 ∷ session 0 100 1 ∷ filled 0 100 50 1 50 2 0 ∷ quiet 0 ∷ accepted 3 ∷ filled 0 100 50 1 50 3 0 ∷ [])
