-- A run in which the tape needs all the draws that promptness allows. Assumes nothing.
use Rattle.std.specs.Prelude.{◌≡◌, List, [], ◌∷◌}
use Rattle.market.specs.declared.order.Side.TheVariants.{Bid, Offer}
use Rattle.market.specs.declared.record.Record.TheVariants.{Quiet, Rolling, Fbs, Open}
use Rattle.market.specs.declared.call.Call.{Call}
use Rattle.market.specs.declared.call.Call.TheVariants.{Tick, Draw}
use Rattle.rules.specs.Calls.{run, answers, opened}
use Rattle.rules.specs.Samples.{ten_years, enter}
use Rattle.invariants.specs.Prompt.{JustAccepted, tape, patience}

-- a bid and an offer trade all that they have, and time is to pass
abbrev pub traded_out : List Call
traded_out = enter 1 Bid 100 50 0 ∷ Draw ∷ enter 2 Offer 100 50 0 ∷ Draw ∷ Draw ∷ Draw ∷ Tick 20000 ∷ []

abbrev pub four_draws : List Call
four_draws = Draw ∷ Draw ∷ Draw ∷ Draw ∷ []

pub record Tight : Type 0 where
  pub accepted : JustAccepted (answers ten_years opened traded_out)
  pub allowed : patience ten_years (run ten_years opened traded_out) ≡ 4
  pub needed : tape (answers ten_years (run ten_years opened traded_out) four_draws) ≡ Rolling 10000 ∷ Fbs 10000 ∷ Open 18000 ∷ Quiet 20000 ∷ []
