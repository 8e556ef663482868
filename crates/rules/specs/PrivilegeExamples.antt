-- Examples of the FBS Period: how privileges are earned, carried, freed and lost, and how they rank. Assumes nothing.
use Rattle.std.specs.Prelude.{◌≡◌, List, [], ◌∷◌, pos, None}
use Rattle.market.specs.declared.order.Side.TheVariants.{Bid, Offer}
use Rattle.market.specs.declared.order.OrderType.TheVariants.{FaKI}
use Rattle.market.specs.declared.state.Carrier.TheVariants.{Free, Order as By, Gone}
use Rattle.market.specs.declared.call.Call.{Call}
use Rattle.market.specs.declared.call.Call.TheVariants.{Tick, Draw}
use Rattle.rules.specs.Board.{State}
use Rattle.rules.specs.Calls.{run, answers}
use Rattle.rules.specs.Samples.{ten_years, enter_as, enter, change, cancel, accepted, quiet, filled, after, begun, second_session, in_rolling, privilege, priority_one, priority_two}

-- fills 1 to 4 are of bids 1 to 4 with offer 5. Bid 1 of trader 1 restocks and is filled in part; traders 2, 3 and 6 are filled whole,
-- and trader 6 is the Last Buyer. Trader 3 then enters bid 6, and trader 4 bid 7; the FBS Period begins
abbrev pub ended : State
ended =
    after
    (enter 1 Bid 100 50 50 ∷ Draw ∷ enter 2 Bid 100 50 0 ∷ Draw ∷ enter 3 Bid 100 50 0 ∷ Draw ∷ enter 6 Bid 100 50 0 ∷ Draw ∷
    enter 9 Offer 100 200 0 ∷ Draw ∷ Draw ∷ Draw ∷ Draw ∷ Draw ∷ Draw ∷ enter 3 Bid 100 50 0 ∷ Draw ∷ enter 4 Bid 100 50 0 ∷ Draw ∷
    Tick 10000 ∷ Draw ∷ Draw ∷ Draw ∷ [])

abbrev pub then : List Call → State
then cs = run ten_years ended cs

-- bid 3 joins the queue before bid 4, but bid 4, of the Passive Owner, is filled in part before it, by fill 2; trader 1 was also filled
-- whole, by fill 1. Both orders are then changed to 99, and trader 7 becomes the Last Buyer; the FBS Period begins
abbrev pub overtaken : State
overtaken =
    after
    (enter 1 Bid 100 50 0 ∷ Draw ∷ enter 2 Offer 98 50 0 ∷ Draw ∷ Draw ∷ Draw ∷ enter 3 Bid 100 100 0 ∷ Draw ∷
    enter 1 Bid 100 100 0 ∷ Draw ∷ Tick 5000 ∷ Draw ∷ enter 2 Offer 100 50 0 ∷ Draw ∷ Draw ∷ Tick 10000 ∷ Draw ∷ Draw ∷ enter 5 Offer 100 50 0 ∷ Draw ∷ Draw ∷
    change 3 3 99 50 ∷ Draw ∷ change 1 4 99 50 ∷ Draw ∷ enter 7 Bid 100 50 0 ∷ Draw ∷ enter 8 Offer 100 50 0 ∷ Draw ∷ Draw ∷
    Tick 20000 ∷ Draw ∷ Draw ∷ [])

-- in Rolling, trader 3 changes his bid 5 to a larger size, so that his bid 6 goes before it: fill 3 takes a part of bid 6, and fill 4 a
-- part of bid 5; then the FBS Period begins
abbrev pub twice : State
twice =
    run ten_years in_rolling
    (enter 3 Bid 100 100 0 ∷ Draw ∷ enter 3 Bid 100 100 0 ∷ Draw ∷ change 3 5 100 150 ∷ Draw ∷ enter 5 Offer 100 50 0 ∷ Draw ∷ Draw ∷
    change 3 6 99 50 ∷ Draw ∷ enter 5 Offer 100 50 0 ∷ Draw ∷ Draw ∷ Tick 20000 ∷ Draw ∷ Draw ∷ [])

-- trader 2 has bid 1 at 99, and his bids 2 and 3 at 100 are filled whole; trader 6 is the Last Buyer
abbrev pub whole : State
whole =
    after
    (enter 2 Bid 99 50 0 ∷ Draw ∷ enter 2 Bid 100 50 0 ∷ Draw ∷ enter 2 Bid 100 50 0 ∷ Draw ∷ enter 6 Bid 100 50 0 ∷ Draw ∷
    enter 9 Offer 100 150 0 ∷ Draw ∷ Draw ∷ Draw ∷ Draw ∷ Draw ∷ Tick 10000 ∷ Draw ∷ Draw ∷ Draw ∷ [])

pub record PrivilegeExamples : Type 0 where
  -- ---- earned

  pub part : privilege ended 1 Bid ≡ priority_one 1 (By 1)
  pub complete : privilege ended 2 Bid ≡ priority_two 2 Free
  pub since : privilege ended 3 Bid ≡ priority_two 3 (By 6)
  pub seller : privilege ended 9 Offer ≡ priority_two 4 Free
  pub none : privilege ended 4 Bid ≡ None
  -- filled in part and whole: a Priority 1 alone; of several orders filled in part, the one with the earliest fill carries it
  pub both : privilege overtaken 1 Bid ≡ priority_one 2 (By 4)
  pub slower : privilege overtaken 3 Bid ≡ priority_one 3 (By 3)
  pub earliest : privilege twice 3 Bid ≡ priority_one 3 (By 6)
  -- filled in part twice: by the first of the fills
  pub again : privilege (run ten_years begun (enter 2 Offer 100 50 0 ∷ Draw ∷ Draw ∷ Tick 10000 ∷ Draw ∷ Draw ∷ [])) 1 Bid ≡ priority_one 1 (By 1)
  -- filled whole twice: by the first of the fills, and no order that was entered before it carries the privilege
  pub firstly : privilege whole 2 Bid ≡ priority_two 1 Free
  -- a fill of an earlier session earns nothing in the next
  pub past : privilege (run ten_years second_session (Tick 50000 ∷ Draw ∷ Draw ∷ [])) 1 Bid ≡ None
  -- ---- ranked

  -- the Last Buyer's, then Priority 1, then Priority 2, the newest first, then the rest
  pub classes : answers ten_years ended
      (enter 2 Bid 100 50 0 ∷ Draw ∷ enter 6 Bid 100 50 0 ∷ Draw ∷ enter 8 Offer 100 250 0 ∷ Draw ∷ Draw ∷ Draw ∷ Draw ∷ Draw ∷ Draw ∷ []) ≡
      (accepted 8 ∷ quiet 10000 ∷ accepted 9 ∷ quiet 10000 ∷ accepted 10 ∷ filled 10000 100 50 9 0 10 200 ∷ filled 10000 100 50 1 0 10 150 ∷
      filled 10000 100 50 6 0 10 100 ∷ filled 10000 100 50 8 0 10 50 ∷ filled 10000 100 50 7 0 10 0 ∷ quiet 10000 ∷ [])
  -- by the number of the fill that earned it, and not by when the order joined the queue
  pub queue : answers ten_years overtaken (enter 5 Offer 99 50 0 ∷ Draw ∷ Draw ∷ []) ≡
      (accepted 9 ∷ filled 20000 99 50 4 0 9 0 ∷ quiet 20000 ∷ [])
  -- a fill in the FBS Period moves nobody: trader 6 stays the Last Buyer
  pub unmoved : answers ten_years ended
      (enter 8 Offer 100 50 0 ∷ Draw ∷ Draw ∷ enter 1 Bid 100 50 0 ∷ Draw ∷ enter 6 Bid 100 50 0 ∷ Draw ∷ enter 8 Offer 100 50 0 ∷
      Draw ∷ Draw ∷ []) ≡
      (accepted 8 ∷ filled 10000 100 50 1 0 8 0 ∷ quiet 10000 ∷ accepted 9 ∷ quiet 10000 ∷ accepted 10 ∷ quiet 10000 ∷ accepted 11 ∷
      filled 10000 100 50 10 0 11 0 ∷ quiet 10000 ∷ [])
  -- ---- carried

  -- a Priority 1 is free when its order is cancelled; a better entry neither takes nor forfeits it; the next at the price or worse takes it
  pub freed : privilege (then (cancel 1 1 ∷ Draw ∷ [])) 1 Bid ≡ priority_one 1 Free
  pub passed : privilege (then (cancel 1 1 ∷ Draw ∷ enter 1 Bid 101 50 0 ∷ Draw ∷ [])) 1 Bid ≡ priority_one 1 Free
  pub taken : privilege (then (cancel 1 1 ∷ Draw ∷ enter 1 Bid 101 50 0 ∷ Draw ∷ enter 1 Bid 99 50 0 ∷ Draw ∷ [])) 1 Bid ≡
      priority_one 1 (By 9)
  pub once : privilege (then (enter 2 Bid 100 50 0 ∷ Draw ∷ enter 2 Bid 100 50 0 ∷ Draw ∷ [])) 2 Bid ≡ priority_two 2 (By 8)
  -- only entries take a privilege, the immediate ones too
  pub entries : privilege (then (enter 2 Bid 101 50 0 ∷ Draw ∷ change 2 8 100 50 ∷ Draw ∷ [])) 2 Bid ≡ priority_two 2 Free
  pub immediate : privilege (then (enter_as 2 Bid FaKI (pos 100) 50 0 None ∷ [])) 2 Bid ≡ priority_two 2 (By 8)
  -- re-priced to the session's price or worse, an order keeps it
  pub kept : privilege (then (change 1 1 99 50 ∷ Draw ∷ [])) 1 Bid ≡ priority_one 1 (By 1)
  -- ---- lost

  pub cancelled : privilege (then (cancel 3 6 ∷ Draw ∷ enter 3 Bid 100 50 0 ∷ Draw ∷ [])) 3 Bid ≡ priority_two 3 Gone
  pub removed : privilege (then (enter_as 2 Bid FaKI (pos 100) 50 0 None ∷ Draw ∷ [])) 2 Bid ≡ priority_two 2 Gone
  pub improved : privilege (then (change 1 1 101 50 ∷ Draw ∷ change 1 1 100 50 ∷ Draw ∷ [])) 1 Bid ≡ priority_one 1 Gone
  pub filled : privilege (then (enter 8 Offer 100 50 0 ∷ Draw ∷ [])) 1 Bid ≡ priority_one 1 Gone
  pub over : privilege (then (Tick 18000 ∷ Draw ∷ [])) 1 Bid ≡ None
