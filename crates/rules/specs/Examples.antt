-- The worked examples. Assumes nothing.
use Rattle.std.specs.Prelude.{◌≡◌, List, [], ◌∷◌, pos, Some, None}
use Rattle.market.specs.Answers.{Answer}
use Rattle.market.specs.declared.order.Side.TheVariants.{Bid, Offer}
use Rattle.market.specs.declared.call.Call.{Call}
use Rattle.market.specs.declared.call.Call.TheVariants.{Tick, Draw}
use Rattle.market.specs.declared.refusal.BookFault.TheVariants.{Size, Better}
use Rattle.rules.specs.Calls.{run, answers, opened}
use Rattle.rules.specs.Samples.{ten_years, enter, change, accepted, done, refused, quiet, filled, session, rolling, fbs, after, begun, prices}
use Rattle.rules.specs.Summaries.{summary}
use Rattle.rules.specs.SessionExamples.{SessionExamples}
use Rattle.rules.specs.PrivilegeExamples.{PrivilegeExamples}
use Rattle.rules.specs.RemovalExamples.{RemovalExamples}
use Rattle.rules.specs.RefusalExamples.{RefusalExamples}

abbrev pub work_up : List Call
work_up =
    enter 1 Bid 100 50 100 ∷ Draw ∷ enter 2 Offer 98 50 0 ∷ Draw ∷ Draw ∷ Draw ∷ enter 3 Offer 100 50 0 ∷ Draw ∷
    enter 2 Offer 100 50 0 ∷ Draw ∷ Draw ∷ Tick 9999 ∷ Draw ∷ Tick 10000 ∷ Draw ∷ Draw ∷ Draw ∷ Tick 20000 ∷ Draw ∷ Draw ∷ []

abbrev pub worked_up : List Answer
worked_up =
    accepted 1 ∷ quiet 0 ∷ accepted 2 ∷ session 0 100 1 ∷ filled 0 100 50 1 50 2 0 ∷ quiet 0 ∷ accepted 3 ∷ quiet 0 ∷ accepted 4 ∷
    filled 0 100 50 1 50 4 0 ∷ quiet 0 ∷ done ∷ quiet 9999 ∷ done ∷ rolling 10000 ∷ filled 10000 100 50 1 0 3 0 ∷ quiet 10000 ∷ done ∷
    fbs 20000 ∷ quiet 20000 ∷ []

-- nine bids at 100, of which the last displays more, and one at 99
abbrev pub nine_bids : List Call
nine_bids =
    enter 1 Bid 99 50 0 ∷ Draw ∷ enter 2 Bid 100 50 0 ∷ Draw ∷ enter 3 Bid 100 50 0 ∷ Draw ∷ enter 4 Bid 100 50 0 ∷ Draw ∷
    enter 5 Bid 100 50 0 ∷ Draw ∷ enter 6 Bid 100 50 0 ∷ Draw ∷ enter 7 Bid 100 50 0 ∷ Draw ∷ enter 8 Bid 100 50 0 ∷ Draw ∷
    enter 9 Bid 100 50 0 ∷ Draw ∷ enter 10 Bid 100 1000 0 ∷ Draw ∷ []

pub record Examples : Type 0 where
  pub fresh : answers ten_years opened (Draw ∷ []) ≡ (quiet 0 ∷ [])
  pub worked : answers ten_years opened work_up ≡ worked_up
  pub unmet : answers ten_years begun (Tick 10000 ∷ Draw ∷ Draw ∷ Draw ∷ []) ≡ (done ∷ rolling 10000 ∷ fbs 10000 ∷ quiet 10000 ∷ [])
  pub rests : prices (run ten_years begun (enter 4 Bid 101 50 0 ∷ Draw ∷ [])) ≡ ((1, pos 100) ∷ (3, pos 100) ∷ [])
  pub better : answers ten_years begun (enter 4 Bid 101 50 0 ∷ Draw ∷ change 4 3 101 50 ∷ []) ≡ (accepted 3 ∷ quiet 0 ∷ refused Better ∷ [])
  pub sizes : answers ten_years opened (enter 1 Bid 100 25 0 ∷ enter 1 Bid 100 1000050 0 ∷ enter 1 Bid 100 1000000 0 ∷ []) ≡
      (refused Size ∷ refused Size ∷ accepted 1 ∷ [])
  -- the summary counts the first eight orders at the best price
  pub absent : summary opened.board Bid ≡ None
  pub eight : summary (after nine_bids).board Bid ≡ Some (record { price = pos 100; size = 400 })
  pub sessions : SessionExamples
  pub privileges : PrivilegeExamples
  pub removals : RemovalExamples
  pub refusals : RefusalExamples
