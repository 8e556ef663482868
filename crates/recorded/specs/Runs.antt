-- Runs that the model in another language answered, recorded by its script. Assumes nothing.
use Rattle.std.specs.Prelude.{◌≡◌, List, [], ◌∷◌, pos, negsuc, Some, None, refl}
use Rattle.market.specs.declared.order.Side.TheVariants.{Bid, Offer}
use Rattle.market.specs.declared.order.OrderType.TheVariants.{FaS, FaK, FaKI}
use Rattle.market.specs.declared.call.Call.{Call}
use Rattle.market.specs.declared.call.Call.TheVariants.{Tick, Draw}
use Rattle.rules.specs.Board.{Opening}
use Rattle.rules.specs.Calls.{opened}
use Rattle.recorded.specs.Shorthand.{enter, change, cancel, Heard, heard, h}

abbrev pub opening0 : Opening
opening0 = record { settings = record { tenor = 10; timed = 10000; rolling = 10000; fbs = 8000; made = refl }; bids = 128; offers = 128; ends = 128 }

abbrev pub calls0 : List Call
calls0 =
    enter 6 Offer FaS (pos 1000000) 100 50 None ∷
    Draw ∷
    change 6 1 (pos 1000000) 100 0 ∷
    Draw ∷
    enter 4 Offer FaS (pos 1000000) 200 0 None ∷
    Draw ∷
    enter 4 Offer FaS (pos 1000000) 50 0 None ∷
    Draw ∷
    Draw ∷
    change 6 1 (pos 1000000) 150 300 ∷
    enter 2 Bid FaS (pos 1000000) 50 0 None ∷
    Draw ∷
    enter 7 Bid FaS (pos 1000000) 450 150 None ∷
    Draw ∷
    Draw ∷
    Draw ∷
    Draw ∷
    Draw ∷
    enter 9 Offer FaS (pos 999999) 50 0 None ∷
    Draw ∷
    change 9 5 (pos 1000000) 50 0 ∷
    cancel 6 1 ∷
    Draw ∷
    change 7 4 (pos 999998) 50 150 ∷
    Draw ∷
    Tick 18000 ∷
    Draw ∷
    Draw ∷
    Draw ∷
    Draw ∷
    enter 4 Offer FaS (negsuc 2147483647) 50 50 (Some 1000000000001) ∷
    enter 4 Offer FaKI (pos 1000000) 150 100 None ∷
    Draw ∷
    Draw ∷
    enter 3 Offer FaS (pos 999999) 50 100 None ∷
    Draw ∷
    change 7 4 (pos 999998) 100 150 ∷
    Draw ∷
    enter 3 Offer FaK (pos 1000000) 100 100 None ∷
    Draw ∷
    change 3 8 (pos 1000000) 100 0 ∷
    Draw ∷
    enter 8 Offer FaK (pos 1000000) 50 0 None ∷
    Draw ∷
    enter 5 Offer FaS (pos 1000000) 100 50 None ∷
    Draw ∷
    enter 9 Offer FaS (pos 1000000) 50 150 None ∷
    Draw ∷
    enter 4 Bid FaS (pos 1000000) 650 0 (Some 18001) ∷
    enter 8 Offer FaS (pos 999998) 150 150 (Some 18400) ∷
    enter 4 Bid FaS (pos 1000000) 450 0 None ∷
    Draw ∷
    Draw ∷
    Draw ∷
    Draw ∷
    change 7 4 (pos 999998) 200 100 ∷
    enter 2 Bid FaS (pos 1000000) 200 0 None ∷
    Draw ∷
    enter 6 Offer FaS (pos 1000000) 150 0 None ∷
    Draw ∷
    []

abbrev pub told0 : List Heard
told0 =
    h (pos 32 ∷ pos 0 ∷ pos 1 ∷ []) ([]) (pos 1000000 ∷ pos 100 ∷ []) ∷
    h (pos 16 ∷ pos 0 ∷ []) ([]) (pos 1000000 ∷ pos 100 ∷ []) ∷
    h (pos 32 ∷ pos 0 ∷ pos 0 ∷ []) ([]) (pos 1000000 ∷ pos 100 ∷ []) ∷
    h (pos 16 ∷ pos 0 ∷ []) ([]) (pos 1000000 ∷ pos 100 ∷ []) ∷
    h (pos 32 ∷ pos 0 ∷ pos 2 ∷ []) ([]) (pos 1000000 ∷ pos 300 ∷ []) ∷
    h (pos 16 ∷ pos 0 ∷ []) ([]) (pos 1000000 ∷ pos 300 ∷ []) ∷
    h (pos 32 ∷ pos 0 ∷ pos 3 ∷ []) ([]) (pos 1000000 ∷ pos 350 ∷ []) ∷
    h (pos 16 ∷ pos 0 ∷ []) ([]) (pos 1000000 ∷ pos 350 ∷ []) ∷
    h (pos 16 ∷ pos 0 ∷ []) ([]) (pos 1000000 ∷ pos 350 ∷ []) ∷
    h (pos 32 ∷ pos 0 ∷ pos 0 ∷ []) ([]) (pos 1000000 ∷ pos 400 ∷ []) ∷
    h (pos 32 ∷ pos 7 ∷ pos 0 ∷ []) ([]) (pos 1000000 ∷ pos 400 ∷ []) ∷
    h (pos 16 ∷ pos 0 ∷ []) ([]) (pos 1000000 ∷ pos 400 ∷ []) ∷
    h (pos 32 ∷ pos 0 ∷ pos 4 ∷ []) (pos 1000000 ∷ pos 450 ∷ []) (pos 1000000 ∷ pos 400 ∷ []) ∷
    h (pos 18 ∷ pos 0 ∷ pos 1000000 ∷ pos 2 ∷ []) (pos 1000000 ∷ pos 450 ∷ []) (pos 1000000 ∷ pos 400 ∷ []) ∷
    h (pos 17 ∷ pos 0 ∷ pos 1000000 ∷ pos 200 ∷ pos 4 ∷ pos 250 ∷ pos 2 ∷ pos 0 ∷ []) (pos 1000000 ∷ pos 250 ∷ []) (pos 1000000 ∷ pos 200 ∷ []) ∷
    h (pos 17 ∷ pos 0 ∷ pos 1000000 ∷ pos 50 ∷ pos 4 ∷ pos 200 ∷ pos 3 ∷ pos 0 ∷ []) (pos 1000000 ∷ pos 200 ∷ []) (pos 1000000 ∷ pos 150 ∷ []) ∷
    h (pos 17 ∷ pos 0 ∷ pos 1000000 ∷ pos 150 ∷ pos 4 ∷ pos 50 ∷ pos 1 ∷ pos 150 ∷ []) (pos 1000000 ∷ pos 50 ∷ []) (pos 1000000 ∷ pos 150 ∷ []) ∷
    h (pos 16 ∷ pos 0 ∷ []) (pos 1000000 ∷ pos 50 ∷ []) (pos 1000000 ∷ pos 150 ∷ []) ∷
    h (pos 32 ∷ pos 0 ∷ pos 5 ∷ []) (pos 1000000 ∷ pos 50 ∷ []) (pos 1000000 ∷ pos 200 ∷ []) ∷
    h (pos 16 ∷ pos 0 ∷ []) (pos 1000000 ∷ pos 50 ∷ []) (pos 1000000 ∷ pos 200 ∷ []) ∷
    h (pos 32 ∷ pos 0 ∷ pos 0 ∷ []) (pos 1000000 ∷ pos 50 ∷ []) (pos 1000000 ∷ pos 200 ∷ []) ∷
    h (pos 32 ∷ pos 7 ∷ pos 0 ∷ []) (pos 1000000 ∷ pos 50 ∷ []) (pos 1000000 ∷ pos 200 ∷ []) ∷
    h (pos 16 ∷ pos 0 ∷ []) (pos 1000000 ∷ pos 50 ∷ []) (pos 1000000 ∷ pos 200 ∷ []) ∷
    h (pos 32 ∷ pos 0 ∷ pos 0 ∷ []) (pos 999998 ∷ pos 50 ∷ []) (pos 1000000 ∷ pos 200 ∷ []) ∷
    h (pos 16 ∷ pos 0 ∷ []) (pos 999998 ∷ pos 50 ∷ []) (pos 1000000 ∷ pos 200 ∷ []) ∷
    h (pos 32 ∷ pos 0 ∷ pos 0 ∷ []) (pos 999998 ∷ pos 50 ∷ []) (pos 1000000 ∷ pos 200 ∷ []) ∷
    h (pos 19 ∷ pos 10000 ∷ []) (pos 999998 ∷ pos 50 ∷ []) (pos 1000000 ∷ pos 200 ∷ []) ∷
    h (pos 20 ∷ pos 10000 ∷ []) (pos 999998 ∷ pos 50 ∷ []) (pos 1000000 ∷ pos 200 ∷ []) ∷
    h (pos 21 ∷ pos 18000 ∷ []) (pos 999998 ∷ pos 50 ∷ []) (pos 1000000 ∷ pos 200 ∷ []) ∷
    h (pos 16 ∷ pos 18000 ∷ []) (pos 999998 ∷ pos 50 ∷ []) (pos 1000000 ∷ pos 200 ∷ []) ∷
    h (pos 32 ∷ pos 11 ∷ pos 0 ∷ []) (pos 999998 ∷ pos 50 ∷ []) (pos 1000000 ∷ pos 200 ∷ []) ∷
    h (pos 32 ∷ pos 0 ∷ pos 6 ∷ []) (pos 999998 ∷ pos 50 ∷ []) (pos 1000000 ∷ pos 350 ∷ []) ∷
    h (pos 22 ∷ pos 18000 ∷ pos 6 ∷ pos 150 ∷ pos 1 ∷ []) (pos 999998 ∷ pos 50 ∷ []) (pos 1000000 ∷ pos 200 ∷ []) ∷
    h (pos 16 ∷ pos 18000 ∷ []) (pos 999998 ∷ pos 50 ∷ []) (pos 1000000 ∷ pos 200 ∷ []) ∷
    h (pos 32 ∷ pos 0 ∷ pos 7 ∷ []) (pos 999998 ∷ pos 50 ∷ []) (pos 999999 ∷ pos 50 ∷ []) ∷
    h (pos 16 ∷ pos 18000 ∷ []) (pos 999998 ∷ pos 50 ∷ []) (pos 999999 ∷ pos 50 ∷ []) ∷
    h (pos 32 ∷ pos 0 ∷ pos 0 ∷ []) (pos 999998 ∷ pos 100 ∷ []) (pos 999999 ∷ pos 50 ∷ []) ∷
    h (pos 16 ∷ pos 18000 ∷ []) (pos 999998 ∷ pos 100 ∷ []) (pos 999999 ∷ pos 50 ∷ []) ∷
    h (pos 32 ∷ pos 0 ∷ pos 8 ∷ []) (pos 999998 ∷ pos 100 ∷ []) (pos 999999 ∷ pos 50 ∷ []) ∷
    h (pos 16 ∷ pos 18000 ∷ []) (pos 999998 ∷ pos 100 ∷ []) (pos 999999 ∷ pos 50 ∷ []) ∷
    h (pos 32 ∷ pos 0 ∷ pos 0 ∷ []) (pos 999998 ∷ pos 100 ∷ []) (pos 999999 ∷ pos 50 ∷ []) ∷
    h (pos 16 ∷ pos 18000 ∷ []) (pos 999998 ∷ pos 100 ∷ []) (pos 999999 ∷ pos 50 ∷ []) ∷
    h (pos 32 ∷ pos 0 ∷ pos 9 ∷ []) (pos 999998 ∷ pos 100 ∷ []) (pos 999999 ∷ pos 50 ∷ []) ∷
    h (pos 16 ∷ pos 18000 ∷ []) (pos 999998 ∷ pos 100 ∷ []) (pos 999999 ∷ pos 50 ∷ []) ∷
    h (pos 32 ∷ pos 0 ∷ pos 10 ∷ []) (pos 999998 ∷ pos 100 ∷ []) (pos 999999 ∷ pos 50 ∷ []) ∷
    h (pos 16 ∷ pos 18000 ∷ []) (pos 999998 ∷ pos 100 ∷ []) (pos 999999 ∷ pos 50 ∷ []) ∷
    h (pos 32 ∷ pos 0 ∷ pos 11 ∷ []) (pos 999998 ∷ pos 100 ∷ []) (pos 999999 ∷ pos 50 ∷ []) ∷
    h (pos 16 ∷ pos 18000 ∷ []) (pos 999998 ∷ pos 100 ∷ []) (pos 999999 ∷ pos 50 ∷ []) ∷
    h (pos 32 ∷ pos 0 ∷ pos 12 ∷ []) (pos 1000000 ∷ pos 650 ∷ []) (pos 999999 ∷ pos 50 ∷ []) ∷
    h (pos 32 ∷ pos 7 ∷ pos 0 ∷ []) (pos 1000000 ∷ pos 650 ∷ []) (pos 999999 ∷ pos 50 ∷ []) ∷
    h (pos 32 ∷ pos 7 ∷ pos 0 ∷ []) (pos 1000000 ∷ pos 650 ∷ []) (pos 999999 ∷ pos 50 ∷ []) ∷
    h (pos 18 ∷ pos 18000 ∷ pos 999999 ∷ pos 7 ∷ []) (pos 999999 ∷ pos 650 ∷ []) (pos 999999 ∷ pos 50 ∷ []) ∷
    h (pos 17 ∷ pos 18000 ∷ pos 999999 ∷ pos 50 ∷ pos 12 ∷ pos 600 ∷ pos 7 ∷ pos 50 ∷ []) (pos 999999 ∷ pos 600 ∷ []) (pos 999999 ∷ pos 50 ∷ []) ∷
    h (pos 17 ∷ pos 18000 ∷ pos 999999 ∷ pos 50 ∷ pos 12 ∷ pos 550 ∷ pos 7 ∷ pos 50 ∷ []) (pos 999999 ∷ pos 550 ∷ []) (pos 999999 ∷ pos 50 ∷ []) ∷
    h (pos 17 ∷ pos 18000 ∷ pos 999999 ∷ pos 50 ∷ pos 12 ∷ pos 500 ∷ pos 7 ∷ pos 0 ∷ []) (pos 999999 ∷ pos 500 ∷ []) (pos 1000000 ∷ pos 500 ∷ []) ∷
    h (pos 32 ∷ pos 7 ∷ pos 0 ∷ []) (pos 999999 ∷ pos 500 ∷ []) (pos 1000000 ∷ pos 500 ∷ []) ∷
    h (pos 32 ∷ pos 7 ∷ pos 0 ∷ []) (pos 999999 ∷ pos 500 ∷ []) (pos 1000000 ∷ pos 500 ∷ []) ∷
    h (pos 16 ∷ pos 18000 ∷ []) (pos 999999 ∷ pos 500 ∷ []) (pos 1000000 ∷ pos 500 ∷ []) ∷
    h (pos 32 ∷ pos 0 ∷ pos 13 ∷ []) (pos 999999 ∷ pos 500 ∷ []) (pos 1000000 ∷ pos 650 ∷ []) ∷
    h (pos 16 ∷ pos 18000 ∷ []) (pos 999999 ∷ pos 500 ∷ []) (pos 1000000 ∷ pos 650 ∷ []) ∷
    []

abbrev pub opening1 : Opening
opening1 = record { settings = record { tenor = 1; timed = 500; rolling = 1; fbs = 60000; made = refl }; bids = 128; offers = 128; ends = 128 }

abbrev pub calls1 : List Call
calls1 =
    enter 4 Bid FaK (pos 999998) 750 0 None ∷
    Draw ∷
    enter 1 Bid FaKI (pos 999998) 250 1500 None ∷
    Draw ∷
    Draw ∷
    enter 3 Bid FaS (pos 999998) 750 0 None ∷
    Draw ∷
    enter 4 Bid FaS (pos 999995) 250 500 None ∷
    Draw ∷
    change 3 3 (pos 999998) 750 0 ∷
    Draw ∷
    enter 2 Bid FaS (pos 999998) 500 0 None ∷
    Draw ∷
    enter 2 Bid FaK (pos 999998) 250 0 None ∷
    Draw ∷
    enter 4 Bid FaS (pos 999998) 250 0 None ∷
    Draw ∷
    enter 1 Offer FaK (pos 999998) 2750 0 None ∷
    Draw ∷
    Draw ∷
    Draw ∷
    Draw ∷
    Draw ∷
    Draw ∷
    Draw ∷
    Draw ∷
    Tick 3000 ∷
    Draw ∷
    Draw ∷
    Draw ∷
    Draw ∷
    enter 1 Offer FaK (pos 1000000) 250 0 (Some 3500) ∷
    Draw ∷
    enter 4 Bid FaS (pos 999998) 500 1500 None ∷
    Draw ∷
    enter 2 Bid FaS (pos 1000000) 250 0 None ∷
    Draw ∷
    Draw ∷
    enter 1 Offer FaS (pos 999998) 250 0 (Some 60500) ∷
    Draw ∷
    Draw ∷
    change 4 10 (pos 999999) 250 1500 ∷
    Draw ∷
    enter 2 Offer FaS (pos 999999) 250 0 None ∷
    Draw ∷
    Draw ∷
    enter 1 Offer FaK (pos 999998) 250 500 (Some 6000) ∷
    Draw ∷
    Draw ∷
    Draw ∷
    Draw ∷
    enter 3 Bid FaS (pos 999998) 750 0 (Some 3500) ∷
    Draw ∷
    change 4 4 (pos 999995) 250 250 ∷
    Draw ∷
    enter 2 Bid FaS (pos 999999) 500 0 (Some 3400) ∷
    Draw ∷
    enter 1 Offer FaS (pos 999998) 500 750 None ∷
    Draw ∷
    Draw ∷
    []

abbrev pub told1 : List Heard
told1 =
    h (pos 32 ∷ pos 0 ∷ pos 1 ∷ []) (pos 999998 ∷ pos 750 ∷ []) ([]) ∷
    h (pos 16 ∷ pos 0 ∷ []) (pos 999998 ∷ pos 750 ∷ []) ([]) ∷
    h (pos 32 ∷ pos 0 ∷ pos 2 ∷ []) (pos 999998 ∷ pos 1000 ∷ []) ([]) ∷
    h (pos 22 ∷ pos 0 ∷ pos 2 ∷ pos 250 ∷ pos 1 ∷ []) (pos 999998 ∷ pos 750 ∷ []) ([]) ∷
    h (pos 16 ∷ pos 0 ∷ []) (pos 999998 ∷ pos 750 ∷ []) ([]) ∷
    h (pos 32 ∷ pos 0 ∷ pos 3 ∷ []) (pos 999998 ∷ pos 1500 ∷ []) ([]) ∷
    h (pos 16 ∷ pos 0 ∷ []) (pos 999998 ∷ pos 1500 ∷ []) ([]) ∷
    h (pos 32 ∷ pos 0 ∷ pos 4 ∷ []) (pos 999998 ∷ pos 1500 ∷ []) ([]) ∷
    h (pos 16 ∷ pos 0 ∷ []) (pos 999998 ∷ pos 1500 ∷ []) ([]) ∷
    h (pos 32 ∷ pos 0 ∷ pos 0 ∷ []) (pos 999998 ∷ pos 1500 ∷ []) ([]) ∷
    h (pos 16 ∷ pos 0 ∷ []) (pos 999998 ∷ pos 1500 ∷ []) ([]) ∷
    h (pos 32 ∷ pos 0 ∷ pos 5 ∷ []) (pos 999998 ∷ pos 2000 ∷ []) ([]) ∷
    h (pos 16 ∷ pos 0 ∷ []) (pos 999998 ∷ pos 2000 ∷ []) ([]) ∷
    h (pos 32 ∷ pos 0 ∷ pos 6 ∷ []) (pos 999998 ∷ pos 2250 ∷ []) ([]) ∷
    h (pos 16 ∷ pos 0 ∷ []) (pos 999998 ∷ pos 2250 ∷ []) ([]) ∷
    h (pos 32 ∷ pos 0 ∷ pos 7 ∷ []) (pos 999998 ∷ pos 2500 ∷ []) ([]) ∷
    h (pos 16 ∷ pos 0 ∷ []) (pos 999998 ∷ pos 2500 ∷ []) ([]) ∷
    h (pos 32 ∷ pos 0 ∷ pos 8 ∷ []) (pos 999998 ∷ pos 2500 ∷ []) (pos 999998 ∷ pos 2750 ∷ []) ∷
    h (pos 18 ∷ pos 0 ∷ pos 999998 ∷ pos 1 ∷ []) (pos 999998 ∷ pos 2500 ∷ []) (pos 999998 ∷ pos 2750 ∷ []) ∷
    h (pos 17 ∷ pos 0 ∷ pos 999998 ∷ pos 750 ∷ pos 1 ∷ pos 0 ∷ pos 8 ∷ pos 2000 ∷ []) (pos 999998 ∷ pos 1750 ∷ []) (pos 999998 ∷ pos 2000 ∷ []) ∷
    h (pos 17 ∷ pos 0 ∷ pos 999998 ∷ pos 750 ∷ pos 3 ∷ pos 0 ∷ pos 8 ∷ pos 1250 ∷ []) (pos 999998 ∷ pos 1000 ∷ []) (pos 999998 ∷ pos 1250 ∷ []) ∷
    h (pos 17 ∷ pos 0 ∷ pos 999998 ∷ pos 500 ∷ pos 5 ∷ pos 0 ∷ pos 8 ∷ pos 750 ∷ []) (pos 999998 ∷ pos 500 ∷ []) (pos 999998 ∷ pos 750 ∷ []) ∷
    h (pos 17 ∷ pos 0 ∷ pos 999998 ∷ pos 250 ∷ pos 6 ∷ pos 0 ∷ pos 8 ∷ pos 500 ∷ []) (pos 999998 ∷ pos 250 ∷ []) (pos 999998 ∷ pos 500 ∷ []) ∷
    h (pos 17 ∷ pos 0 ∷ pos 999998 ∷ pos 250 ∷ pos 7 ∷ pos 0 ∷ pos 8 ∷ pos 250 ∷ []) (pos 999995 ∷ pos 250 ∷ []) (pos 999998 ∷ pos 250 ∷ []) ∷
    h (pos 16 ∷ pos 0 ∷ []) (pos 999995 ∷ pos 250 ∷ []) (pos 999998 ∷ pos 250 ∷ []) ∷
    h (pos 16 ∷ pos 0 ∷ []) (pos 999995 ∷ pos 250 ∷ []) (pos 999998 ∷ pos 250 ∷ []) ∷
    h (pos 32 ∷ pos 0 ∷ pos 0 ∷ []) (pos 999995 ∷ pos 250 ∷ []) (pos 999998 ∷ pos 250 ∷ []) ∷
    h (pos 19 ∷ pos 500 ∷ []) (pos 999995 ∷ pos 250 ∷ []) (pos 999998 ∷ pos 250 ∷ []) ∷
    h (pos 20 ∷ pos 500 ∷ []) (pos 999995 ∷ pos 250 ∷ []) (pos 999998 ∷ pos 250 ∷ []) ∷
    h (pos 22 ∷ pos 500 ∷ pos 8 ∷ pos 250 ∷ pos 2 ∷ []) (pos 999995 ∷ pos 250 ∷ []) ([]) ∷
    h (pos 16 ∷ pos 3000 ∷ []) (pos 999995 ∷ pos 250 ∷ []) ([]) ∷
    h (pos 32 ∷ pos 0 ∷ pos 9 ∷ []) (pos 999995 ∷ pos 250 ∷ []) (pos 1000000 ∷ pos 250 ∷ []) ∷
    h (pos 16 ∷ pos 3000 ∷ []) (pos 999995 ∷ pos 250 ∷ []) (pos 1000000 ∷ pos 250 ∷ []) ∷
    h (pos 32 ∷ pos 0 ∷ pos 10 ∷ []) (pos 999998 ∷ pos 500 ∷ []) (pos 1000000 ∷ pos 250 ∷ []) ∷
    h (pos 16 ∷ pos 3000 ∷ []) (pos 999998 ∷ pos 500 ∷ []) (pos 1000000 ∷ pos 250 ∷ []) ∷
    h (pos 32 ∷ pos 0 ∷ pos 11 ∷ []) (pos 1000000 ∷ pos 250 ∷ []) (pos 1000000 ∷ pos 250 ∷ []) ∷
    h (pos 17 ∷ pos 3000 ∷ pos 1000000 ∷ pos 250 ∷ pos 11 ∷ pos 0 ∷ pos 9 ∷ pos 0 ∷ []) (pos 999998 ∷ pos 500 ∷ []) ([]) ∷
    h (pos 16 ∷ pos 3000 ∷ []) (pos 999998 ∷ pos 500 ∷ []) ([]) ∷
    h (pos 32 ∷ pos 0 ∷ pos 12 ∷ []) (pos 999998 ∷ pos 500 ∷ []) (pos 999998 ∷ pos 250 ∷ []) ∷
    h (pos 17 ∷ pos 3000 ∷ pos 999998 ∷ pos 250 ∷ pos 10 ∷ pos 250 ∷ pos 12 ∷ pos 0 ∷ []) (pos 999998 ∷ pos 250 ∷ []) ([]) ∷
    h (pos 16 ∷ pos 3000 ∷ []) (pos 999998 ∷ pos 250 ∷ []) ([]) ∷
    h (pos 32 ∷ pos 0 ∷ pos 0 ∷ []) (pos 999999 ∷ pos 250 ∷ []) ([]) ∷
    h (pos 16 ∷ pos 3000 ∷ []) (pos 999999 ∷ pos 250 ∷ []) ([]) ∷
    h (pos 32 ∷ pos 0 ∷ pos 13 ∷ []) (pos 999999 ∷ pos 250 ∷ []) (pos 999999 ∷ pos 250 ∷ []) ∷
    h (pos 17 ∷ pos 3000 ∷ pos 999999 ∷ pos 250 ∷ pos 10 ∷ pos 250 ∷ pos 13 ∷ pos 0 ∷ []) (pos 999999 ∷ pos 250 ∷ []) ([]) ∷
    h (pos 16 ∷ pos 3000 ∷ []) (pos 999999 ∷ pos 250 ∷ []) ([]) ∷
    h (pos 32 ∷ pos 0 ∷ pos 14 ∷ []) (pos 999999 ∷ pos 250 ∷ []) (pos 999998 ∷ pos 250 ∷ []) ∷
    h (pos 17 ∷ pos 3000 ∷ pos 999999 ∷ pos 250 ∷ pos 10 ∷ pos 250 ∷ pos 14 ∷ pos 250 ∷ []) (pos 999999 ∷ pos 250 ∷ []) (pos 999998 ∷ pos 250 ∷ []) ∷
    h (pos 17 ∷ pos 3000 ∷ pos 999999 ∷ pos 250 ∷ pos 10 ∷ pos 250 ∷ pos 14 ∷ pos 250 ∷ []) (pos 999999 ∷ pos 250 ∷ []) (pos 999998 ∷ pos 250 ∷ []) ∷
    h (pos 17 ∷ pos 3000 ∷ pos 999999 ∷ pos 250 ∷ pos 10 ∷ pos 250 ∷ pos 14 ∷ pos 0 ∷ []) (pos 999999 ∷ pos 250 ∷ []) ([]) ∷
    h (pos 16 ∷ pos 3000 ∷ []) (pos 999999 ∷ pos 250 ∷ []) ([]) ∷
    h (pos 32 ∷ pos 0 ∷ pos 15 ∷ []) (pos 999999 ∷ pos 250 ∷ []) ([]) ∷
    h (pos 16 ∷ pos 3000 ∷ []) (pos 999999 ∷ pos 250 ∷ []) ([]) ∷
    h (pos 32 ∷ pos 0 ∷ pos 0 ∷ []) (pos 999999 ∷ pos 250 ∷ []) ([]) ∷
    h (pos 16 ∷ pos 3000 ∷ []) (pos 999999 ∷ pos 250 ∷ []) ([]) ∷
    h (pos 32 ∷ pos 0 ∷ pos 16 ∷ []) (pos 999999 ∷ pos 750 ∷ []) ([]) ∷
    h (pos 16 ∷ pos 3000 ∷ []) (pos 999999 ∷ pos 750 ∷ []) ([]) ∷
    h (pos 32 ∷ pos 0 ∷ pos 17 ∷ []) (pos 999999 ∷ pos 750 ∷ []) (pos 999998 ∷ pos 500 ∷ []) ∷
    h (pos 17 ∷ pos 3000 ∷ pos 999999 ∷ pos 250 ∷ pos 10 ∷ pos 250 ∷ pos 17 ∷ pos 250 ∷ []) (pos 999999 ∷ pos 750 ∷ []) (pos 999998 ∷ pos 250 ∷ []) ∷
    h (pos 17 ∷ pos 3000 ∷ pos 999999 ∷ pos 250 ∷ pos 10 ∷ pos 250 ∷ pos 17 ∷ pos 500 ∷ []) (pos 999999 ∷ pos 750 ∷ []) (pos 999998 ∷ pos 500 ∷ []) ∷
    []

abbrev pub opening2 : Opening
opening2 = record { settings = record { tenor = 40; timed = 1; rolling = 60000; fbs = 1; made = refl }; bids = 4; offers = 3; ends = 2 }

abbrev pub calls2 : List Call
calls2 =
    enter 3 Bid FaS (negsuc 999997) 40 0 None ∷
    Draw ∷
    enter 3 Bid FaS (negsuc 999999) 20 20 None ∷
    Draw ∷
    enter 8 Offer FaS (negsuc 999998) 30 20 None ∷
    Draw ∷
    Draw ∷
    Draw ∷
    Draw ∷
    cancel 8 3 ∷
    Draw ∷
    enter 7 Offer FaK (negsuc 999997) 20 20 (Some 60000) ∷
    Draw ∷
    Tick 60001 ∷
    Draw ∷
    Draw ∷
    Draw ∷
    Draw ∷
    Draw ∷
    enter 2 Offer FaS (negsuc 999998) 20 0 None ∷
    Draw ∷
    enter 7 Bid FaS (negsuc 999999) 20 30 None ∷
    Draw ∷
    enter 6 Bid FaS (negsuc 999998) 40 0 None ∷
    Draw ∷
    Draw ∷
    Draw ∷
    change 6 7 (negsuc 999998) 40 0 ∷
    Draw ∷
    enter 7 Bid FaS (negsuc 999999) 10 0 (Some 63001) ∷
    Draw ∷
    enter 5 Offer FaKI (negsuc 999999) 10 0 (Some 60002) ∷
    Draw ∷
    Draw ∷
    enter 4 Offer FaS (negsuc 999998) 40 10 None ∷
    Draw ∷
    Tick 63001 ∷
    Draw ∷
    Draw ∷
    Draw ∷
    Draw ∷
    Tick 63002 ∷
    Draw ∷
    enter 7 Bid FaK (negsuc 999997) 20 20 None ∷
    Draw ∷
    Draw ∷
    cancel 3 2 ∷
    Draw ∷
    enter 9 Offer FaS (negsuc 999998) 30 0 None ∷
    Draw ∷
    Draw ∷
    Draw ∷
    enter 6 Bid FaS (negsuc 999998) 30 20 None ∷
    Draw ∷
    change 7 6 (negsuc 999998) 30 30 ∷
    Draw ∷
    cancel 6 13 ∷
    Draw ∷
    enter 7 Bid FaK (negsuc 999999) 20 20 None ∷
    Draw ∷
    []

abbrev pub told2 : List Heard
told2 =
    h (pos 32 ∷ pos 0 ∷ pos 1 ∷ []) (negsuc 999997 ∷ pos 40 ∷ []) ([]) ∷
    h (pos 16 ∷ pos 0 ∷ []) (negsuc 999997 ∷ pos 40 ∷ []) ([]) ∷
    h (pos 32 ∷ pos 0 ∷ pos 2 ∷ []) (negsuc 999997 ∷ pos 40 ∷ []) ([]) ∷
    h (pos 16 ∷ pos 0 ∷ []) (negsuc 999997 ∷ pos 40 ∷ []) ([]) ∷
    h (pos 32 ∷ pos 0 ∷ pos 3 ∷ []) (negsuc 999997 ∷ pos 40 ∷ []) (negsuc 999998 ∷ pos 30 ∷ []) ∷
    h (pos 18 ∷ pos 0 ∷ negsuc 999997 ∷ pos 1 ∷ []) (negsuc 999997 ∷ pos 40 ∷ []) (negsuc 999997 ∷ pos 30 ∷ []) ∷
    h (pos 17 ∷ pos 0 ∷ negsuc 999997 ∷ pos 30 ∷ pos 1 ∷ pos 10 ∷ pos 3 ∷ pos 20 ∷ []) (negsuc 999997 ∷ pos 10 ∷ []) (negsuc 999997 ∷ pos 20 ∷ []) ∷
    h (pos 17 ∷ pos 0 ∷ negsuc 999997 ∷ pos 10 ∷ pos 1 ∷ pos 0 ∷ pos 3 ∷ pos 10 ∷ []) (negsuc 999999 ∷ pos 20 ∷ []) (negsuc 999997 ∷ pos 10 ∷ []) ∷
    h (pos 16 ∷ pos 0 ∷ []) (negsuc 999999 ∷ pos 20 ∷ []) (negsuc 999997 ∷ pos 10 ∷ []) ∷
    h (pos 32 ∷ pos 0 ∷ pos 0 ∷ []) (negsuc 999999 ∷ pos 20 ∷ []) ([]) ∷
    h (pos 16 ∷ pos 0 ∷ []) (negsuc 999999 ∷ pos 20 ∷ []) ([]) ∷
    h (pos 32 ∷ pos 0 ∷ pos 4 ∷ []) (negsuc 999999 ∷ pos 20 ∷ []) (negsuc 999997 ∷ pos 20 ∷ []) ∷
    h (pos 16 ∷ pos 0 ∷ []) (negsuc 999999 ∷ pos 20 ∷ []) (negsuc 999997 ∷ pos 20 ∷ []) ∷
    h (pos 32 ∷ pos 0 ∷ pos 0 ∷ []) (negsuc 999999 ∷ pos 20 ∷ []) (negsuc 999997 ∷ pos 20 ∷ []) ∷
    h (pos 19 ∷ pos 1 ∷ []) (negsuc 999999 ∷ pos 20 ∷ []) (negsuc 999997 ∷ pos 20 ∷ []) ∷
    h (pos 20 ∷ pos 60000 ∷ []) (negsuc 999999 ∷ pos 20 ∷ []) (negsuc 999997 ∷ pos 20 ∷ []) ∷
    h (pos 22 ∷ pos 60000 ∷ pos 4 ∷ pos 20 ∷ pos 3 ∷ []) (negsuc 999999 ∷ pos 20 ∷ []) ([]) ∷
    h (pos 21 ∷ pos 60001 ∷ []) (negsuc 999999 ∷ pos 20 ∷ []) ([]) ∷
    h (pos 16 ∷ pos 60001 ∷ []) (negsuc 999999 ∷ pos 20 ∷ []) ([]) ∷
    h (pos 32 ∷ pos 0 ∷ pos 5 ∷ []) (negsuc 999999 ∷ pos 20 ∷ []) (negsuc 999998 ∷ pos 20 ∷ []) ∷
    h (pos 16 ∷ pos 60001 ∷ []) (negsuc 999999 ∷ pos 20 ∷ []) (negsuc 999998 ∷ pos 20 ∷ []) ∷
    h (pos 32 ∷ pos 0 ∷ pos 6 ∷ []) (negsuc 999999 ∷ pos 40 ∷ []) (negsuc 999998 ∷ pos 20 ∷ []) ∷
    h (pos 16 ∷ pos 60001 ∷ []) (negsuc 999999 ∷ pos 40 ∷ []) (negsuc 999998 ∷ pos 20 ∷ []) ∷
    h (pos 32 ∷ pos 0 ∷ pos 7 ∷ []) (negsuc 999998 ∷ pos 40 ∷ []) (negsuc 999998 ∷ pos 20 ∷ []) ∷
    h (pos 18 ∷ pos 60001 ∷ negsuc 999998 ∷ pos 5 ∷ []) (negsuc 999998 ∷ pos 40 ∷ []) (negsuc 999998 ∷ pos 20 ∷ []) ∷
    h (pos 17 ∷ pos 60001 ∷ negsuc 999998 ∷ pos 20 ∷ pos 7 ∷ pos 20 ∷ pos 5 ∷ pos 0 ∷ []) (negsuc 999998 ∷ pos 20 ∷ []) ([]) ∷
    h (pos 16 ∷ pos 60001 ∷ []) (negsuc 999998 ∷ pos 20 ∷ []) ([]) ∷
    h (pos 32 ∷ pos 0 ∷ pos 0 ∷ []) (negsuc 999998 ∷ pos 40 ∷ []) ([]) ∷
    h (pos 16 ∷ pos 60001 ∷ []) (negsuc 999998 ∷ pos 40 ∷ []) ([]) ∷
    h (pos 32 ∷ pos 0 ∷ pos 8 ∷ []) (negsuc 999998 ∷ pos 40 ∷ []) ([]) ∷
    h (pos 16 ∷ pos 60001 ∷ []) (negsuc 999998 ∷ pos 40 ∷ []) ([]) ∷
    h (pos 32 ∷ pos 0 ∷ pos 9 ∷ []) (negsuc 999998 ∷ pos 40 ∷ []) (negsuc 999998 ∷ pos 10 ∷ []) ∷
    h (pos 22 ∷ pos 60001 ∷ pos 9 ∷ pos 10 ∷ pos 1 ∷ []) (negsuc 999998 ∷ pos 40 ∷ []) ([]) ∷
    h (pos 16 ∷ pos 60001 ∷ []) (negsuc 999998 ∷ pos 40 ∷ []) ([]) ∷
    h (pos 32 ∷ pos 0 ∷ pos 10 ∷ []) (negsuc 999998 ∷ pos 40 ∷ []) (negsuc 999998 ∷ pos 40 ∷ []) ∷
    h (pos 16 ∷ pos 60001 ∷ []) (negsuc 999998 ∷ pos 40 ∷ []) (negsuc 999998 ∷ pos 40 ∷ []) ∷
    h (pos 32 ∷ pos 0 ∷ pos 0 ∷ []) (negsuc 999998 ∷ pos 40 ∷ []) (negsuc 999998 ∷ pos 40 ∷ []) ∷
    h (pos 19 ∷ pos 60002 ∷ []) (negsuc 999998 ∷ pos 40 ∷ []) (negsuc 999998 ∷ pos 40 ∷ []) ∷
    h (pos 17 ∷ pos 60002 ∷ negsuc 999998 ∷ pos 40 ∷ pos 7 ∷ pos 0 ∷ pos 10 ∷ pos 10 ∷ []) (negsuc 999999 ∷ pos 50 ∷ []) (negsuc 999998 ∷ pos 10 ∷ []) ∷
    h (pos 22 ∷ pos 63001 ∷ pos 8 ∷ pos 10 ∷ pos 3 ∷ []) (negsuc 999999 ∷ pos 40 ∷ []) (negsuc 999998 ∷ pos 10 ∷ []) ∷
    h (pos 16 ∷ pos 63001 ∷ []) (negsuc 999999 ∷ pos 40 ∷ []) (negsuc 999998 ∷ pos 10 ∷ []) ∷
    h (pos 32 ∷ pos 0 ∷ pos 0 ∷ []) (negsuc 999999 ∷ pos 40 ∷ []) (negsuc 999998 ∷ pos 10 ∷ []) ∷
    h (pos 16 ∷ pos 63002 ∷ []) (negsuc 999999 ∷ pos 40 ∷ []) (negsuc 999998 ∷ pos 10 ∷ []) ∷
    h (pos 32 ∷ pos 0 ∷ pos 11 ∷ []) (negsuc 999998 ∷ pos 20 ∷ []) (negsuc 999998 ∷ pos 10 ∷ []) ∷
    h (pos 17 ∷ pos 63002 ∷ negsuc 999998 ∷ pos 10 ∷ pos 11 ∷ pos 10 ∷ pos 10 ∷ pos 0 ∷ []) (negsuc 999998 ∷ pos 10 ∷ []) ([]) ∷
    h (pos 16 ∷ pos 63002 ∷ []) (negsuc 999998 ∷ pos 10 ∷ []) ([]) ∷
    h (pos 32 ∷ pos 0 ∷ pos 0 ∷ []) (negsuc 999998 ∷ pos 10 ∷ []) ([]) ∷
    h (pos 16 ∷ pos 63002 ∷ []) (negsuc 999998 ∷ pos 10 ∷ []) ([]) ∷
    h (pos 32 ∷ pos 0 ∷ pos 12 ∷ []) (negsuc 999998 ∷ pos 10 ∷ []) (negsuc 999998 ∷ pos 30 ∷ []) ∷
    h (pos 17 ∷ pos 63002 ∷ negsuc 999998 ∷ pos 10 ∷ pos 11 ∷ pos 20 ∷ pos 12 ∷ pos 20 ∷ []) (negsuc 999998 ∷ pos 20 ∷ []) (negsuc 999998 ∷ pos 20 ∷ []) ∷
    h (pos 17 ∷ pos 63002 ∷ negsuc 999998 ∷ pos 20 ∷ pos 11 ∷ pos 0 ∷ pos 12 ∷ pos 0 ∷ []) (negsuc 999999 ∷ pos 20 ∷ []) ([]) ∷
    h (pos 16 ∷ pos 63002 ∷ []) (negsuc 999999 ∷ pos 20 ∷ []) ([]) ∷
    h (pos 32 ∷ pos 0 ∷ pos 13 ∷ []) (negsuc 999998 ∷ pos 30 ∷ []) ([]) ∷
    h (pos 16 ∷ pos 63002 ∷ []) (negsuc 999998 ∷ pos 30 ∷ []) ([]) ∷
    h (pos 32 ∷ pos 0 ∷ pos 0 ∷ []) (negsuc 999998 ∷ pos 60 ∷ []) ([]) ∷
    h (pos 16 ∷ pos 63002 ∷ []) (negsuc 999998 ∷ pos 60 ∷ []) ([]) ∷
    h (pos 32 ∷ pos 0 ∷ pos 0 ∷ []) (negsuc 999998 ∷ pos 30 ∷ []) ([]) ∷
    h (pos 16 ∷ pos 63002 ∷ []) (negsuc 999998 ∷ pos 30 ∷ []) ([]) ∷
    h (pos 32 ∷ pos 0 ∷ pos 14 ∷ []) (negsuc 999998 ∷ pos 30 ∷ []) ([]) ∷
    h (pos 16 ∷ pos 63002 ∷ []) (negsuc 999998 ∷ pos 30 ∷ []) ([]) ∷
    []

abbrev pub opening3 : Opening
opening3 = record { settings = record { tenor = 3; timed = 7; rolling = 5; fbs = 3; made = refl }; bids = 6; offers = 128; ends = 1 }

abbrev pub calls3 : List Call
calls3 =
    enter 7 Offer FaS (negsuc 2) 150 0 None ∷
    Draw ∷
    enter 3 Bid FaS (negsuc 1000000) 300 4294967295 None ∷
    enter 1 Offer FaS (negsuc 0) 450 300 None ∷
    Draw ∷
    enter 9 Offer FaK (negsuc 2) 150 150 (Some 7) ∷
    Draw ∷
    enter 3 Offer FaS (negsuc 2) 600 900 None ∷
    Draw ∷
    Tick 15 ∷
    Draw ∷
    Draw ∷
    enter 5 Offer FaS (negsuc 2) 150 0 None ∷
    Draw ∷
    enter 8 Offer FaS (negsuc 2) 300 300 (Some 3015) ∷
    Draw ∷
    enter 2 Offer FaS (negsuc 2) 999900 0 None ∷
    Draw ∷
    enter 1 Bid FaKI (negsuc 2) 999900 0 None ∷
    Draw ∷
    Draw ∷
    Draw ∷
    Draw ∷
    Draw ∷
    Draw ∷
    Draw ∷
    change 8 6 (negsuc 2) 300 0 ∷
    Draw ∷
    enter 5 Offer FaKI (negsuc 2) 150 300 None ∷
    Draw ∷
    Draw ∷
    change 5 4 (negsuc 2) 150 300 ∷
    enter 2 Offer FaK (negsuc 2) 150 0 None ∷
    Draw ∷
    enter 9 Bid FaS (negsuc 2) 450 0 None ∷
    Draw ∷
    Draw ∷
    enter 6 Offer FaS (negsuc 1) 300 900 (Some 22) ∷
    enter 4 Offer FaS (negsuc 2) 300 900 None ∷
    Draw ∷
    change 3 4 (negsuc 2) 450 0 ∷
    Draw ∷
    enter 5 Offer FaS (negsuc 2) 300 450 None ∷
    Draw ∷
    enter 3 Bid FaS (negsuc 4) 300 900 None ∷
    Draw ∷
    change 3 4 (negsuc 2) 600 150 ∷
    Draw ∷
    change 2 7 (negsuc 2) 750 150 ∷
    Draw ∷
    cancel 3 4 ∷
    Draw ∷
    change 8 6 (negsuc 1) 150 0 ∷
    Draw ∷
    enter 3 Offer FaS (negsuc 2) 300 0 None ∷
    Draw ∷
    cancel 3 14 ∷
    Draw ∷
    change 8 6 (negsuc 1) 300 300 ∷
    Draw ∷
    []

abbrev pub told3 : List Heard
told3 =
    h (pos 32 ∷ pos 0 ∷ pos 1 ∷ []) ([]) (negsuc 2 ∷ pos 150 ∷ []) ∷
    h (pos 16 ∷ pos 0 ∷ []) ([]) (negsuc 2 ∷ pos 150 ∷ []) ∷
    h (pos 32 ∷ pos 11 ∷ pos 0 ∷ []) ([]) (negsuc 2 ∷ pos 150 ∷ []) ∷
    h (pos 32 ∷ pos 0 ∷ pos 2 ∷ []) ([]) (negsuc 2 ∷ pos 150 ∷ []) ∷
    h (pos 16 ∷ pos 0 ∷ []) ([]) (negsuc 2 ∷ pos 150 ∷ []) ∷
    h (pos 32 ∷ pos 0 ∷ pos 3 ∷ []) ([]) (negsuc 2 ∷ pos 300 ∷ []) ∷
    h (pos 16 ∷ pos 0 ∷ []) ([]) (negsuc 2 ∷ pos 300 ∷ []) ∷
    h (pos 32 ∷ pos 0 ∷ pos 4 ∷ []) ([]) (negsuc 2 ∷ pos 900 ∷ []) ∷
    h (pos 16 ∷ pos 0 ∷ []) ([]) (negsuc 2 ∷ pos 900 ∷ []) ∷
    h (pos 32 ∷ pos 0 ∷ pos 0 ∷ []) ([]) (negsuc 2 ∷ pos 900 ∷ []) ∷
    h (pos 22 ∷ pos 7 ∷ pos 3 ∷ pos 150 ∷ pos 3 ∷ []) ([]) (negsuc 2 ∷ pos 750 ∷ []) ∷
    h (pos 16 ∷ pos 15 ∷ []) ([]) (negsuc 2 ∷ pos 750 ∷ []) ∷
    h (pos 32 ∷ pos 0 ∷ pos 5 ∷ []) ([]) (negsuc 2 ∷ pos 900 ∷ []) ∷
    h (pos 16 ∷ pos 15 ∷ []) ([]) (negsuc 2 ∷ pos 900 ∷ []) ∷
    h (pos 32 ∷ pos 0 ∷ pos 6 ∷ []) ([]) (negsuc 2 ∷ pos 1200 ∷ []) ∷
    h (pos 16 ∷ pos 15 ∷ []) ([]) (negsuc 2 ∷ pos 1200 ∷ []) ∷
    h (pos 32 ∷ pos 0 ∷ pos 7 ∷ []) ([]) (negsuc 2 ∷ pos 1001100 ∷ []) ∷
    h (pos 16 ∷ pos 15 ∷ []) ([]) (negsuc 2 ∷ pos 1001100 ∷ []) ∷
    h (pos 32 ∷ pos 0 ∷ pos 8 ∷ []) (negsuc 2 ∷ pos 999900 ∷ []) (negsuc 2 ∷ pos 1001100 ∷ []) ∷
    h (pos 18 ∷ pos 15 ∷ negsuc 2 ∷ pos 1 ∷ []) (negsuc 2 ∷ pos 999900 ∷ []) (negsuc 2 ∷ pos 1001100 ∷ []) ∷
    h (pos 17 ∷ pos 15 ∷ negsuc 2 ∷ pos 150 ∷ pos 8 ∷ pos 999750 ∷ pos 1 ∷ pos 0 ∷ []) (negsuc 2 ∷ pos 999750 ∷ []) (negsuc 2 ∷ pos 1000950 ∷ []) ∷
    h (pos 17 ∷ pos 15 ∷ negsuc 2 ∷ pos 600 ∷ pos 8 ∷ pos 999150 ∷ pos 4 ∷ pos 600 ∷ []) (negsuc 2 ∷ pos 999150 ∷ []) (negsuc 2 ∷ pos 1000950 ∷ []) ∷
    h (pos 17 ∷ pos 15 ∷ negsuc 2 ∷ pos 150 ∷ pos 8 ∷ pos 999000 ∷ pos 5 ∷ pos 0 ∷ []) (negsuc 2 ∷ pos 999000 ∷ []) (negsuc 2 ∷ pos 1000800 ∷ []) ∷
    h (pos 17 ∷ pos 15 ∷ negsuc 2 ∷ pos 300 ∷ pos 8 ∷ pos 998700 ∷ pos 6 ∷ pos 300 ∷ []) (negsuc 2 ∷ pos 998700 ∷ []) (negsuc 2 ∷ pos 1000800 ∷ []) ∷
    h (pos 17 ∷ pos 15 ∷ negsuc 2 ∷ pos 998700 ∷ pos 8 ∷ pos 0 ∷ pos 7 ∷ pos 1200 ∷ []) ([]) (negsuc 2 ∷ pos 2100 ∷ []) ∷
    h (pos 16 ∷ pos 15 ∷ []) ([]) (negsuc 2 ∷ pos 2100 ∷ []) ∷
    h (pos 32 ∷ pos 0 ∷ pos 0 ∷ []) ([]) (negsuc 2 ∷ pos 2100 ∷ []) ∷
    h (pos 16 ∷ pos 15 ∷ []) ([]) (negsuc 2 ∷ pos 2100 ∷ []) ∷
    h (pos 32 ∷ pos 0 ∷ pos 9 ∷ []) ([]) (negsuc 2 ∷ pos 2250 ∷ []) ∷
    h (pos 22 ∷ pos 15 ∷ pos 9 ∷ pos 150 ∷ pos 1 ∷ []) ([]) (negsuc 2 ∷ pos 2100 ∷ []) ∷
    h (pos 16 ∷ pos 15 ∷ []) ([]) (negsuc 2 ∷ pos 2100 ∷ []) ∷
    h (pos 32 ∷ pos 10 ∷ pos 0 ∷ []) ([]) (negsuc 2 ∷ pos 2100 ∷ []) ∷
    h (pos 32 ∷ pos 0 ∷ pos 10 ∷ []) ([]) (negsuc 2 ∷ pos 2250 ∷ []) ∷
    h (pos 16 ∷ pos 15 ∷ []) ([]) (negsuc 2 ∷ pos 2250 ∷ []) ∷
    h (pos 32 ∷ pos 0 ∷ pos 11 ∷ []) (negsuc 2 ∷ pos 450 ∷ []) (negsuc 2 ∷ pos 2250 ∷ []) ∷
    h (pos 17 ∷ pos 15 ∷ negsuc 2 ∷ pos 450 ∷ pos 11 ∷ pos 0 ∷ pos 7 ∷ pos 750 ∷ []) ([]) (negsuc 2 ∷ pos 1800 ∷ []) ∷
    h (pos 16 ∷ pos 15 ∷ []) ([]) (negsuc 2 ∷ pos 1800 ∷ []) ∷
    h (pos 32 ∷ pos 18 ∷ pos 0 ∷ []) ([]) (negsuc 2 ∷ pos 1800 ∷ []) ∷
    h (pos 32 ∷ pos 0 ∷ pos 12 ∷ []) ([]) (negsuc 2 ∷ pos 2100 ∷ []) ∷
    h (pos 16 ∷ pos 15 ∷ []) ([]) (negsuc 2 ∷ pos 2100 ∷ []) ∷
    h (pos 32 ∷ pos 0 ∷ pos 0 ∷ []) ([]) (negsuc 2 ∷ pos 1950 ∷ []) ∷
    h (pos 16 ∷ pos 15 ∷ []) ([]) (negsuc 2 ∷ pos 1950 ∷ []) ∷
    h (pos 32 ∷ pos 0 ∷ pos 13 ∷ []) ([]) (negsuc 2 ∷ pos 2250 ∷ []) ∷
    h (pos 16 ∷ pos 15 ∷ []) ([]) (negsuc 2 ∷ pos 2250 ∷ []) ∷
    h (pos 32 ∷ pos 0 ∷ pos 14 ∷ []) (negsuc 4 ∷ pos 300 ∷ []) (negsuc 2 ∷ pos 2250 ∷ []) ∷
    h (pos 16 ∷ pos 15 ∷ []) (negsuc 4 ∷ pos 300 ∷ []) (negsuc 2 ∷ pos 2250 ∷ []) ∷
    h (pos 32 ∷ pos 0 ∷ pos 0 ∷ []) (negsuc 4 ∷ pos 300 ∷ []) (negsuc 2 ∷ pos 2400 ∷ []) ∷
    h (pos 16 ∷ pos 15 ∷ []) (negsuc 4 ∷ pos 300 ∷ []) (negsuc 2 ∷ pos 2400 ∷ []) ∷
    h (pos 32 ∷ pos 0 ∷ pos 0 ∷ []) (negsuc 4 ∷ pos 300 ∷ []) (negsuc 2 ∷ pos 2400 ∷ []) ∷
    h (pos 16 ∷ pos 15 ∷ []) (negsuc 4 ∷ pos 300 ∷ []) (negsuc 2 ∷ pos 2400 ∷ []) ∷
    h (pos 32 ∷ pos 0 ∷ pos 0 ∷ []) (negsuc 4 ∷ pos 300 ∷ []) (negsuc 2 ∷ pos 1800 ∷ []) ∷
    h (pos 16 ∷ pos 15 ∷ []) (negsuc 4 ∷ pos 300 ∷ []) (negsuc 2 ∷ pos 1800 ∷ []) ∷
    h (pos 32 ∷ pos 0 ∷ pos 0 ∷ []) (negsuc 4 ∷ pos 300 ∷ []) (negsuc 2 ∷ pos 1500 ∷ []) ∷
    h (pos 16 ∷ pos 15 ∷ []) (negsuc 4 ∷ pos 300 ∷ []) (negsuc 2 ∷ pos 1500 ∷ []) ∷
    h (pos 32 ∷ pos 0 ∷ pos 15 ∷ []) (negsuc 4 ∷ pos 300 ∷ []) (negsuc 2 ∷ pos 1800 ∷ []) ∷
    h (pos 16 ∷ pos 15 ∷ []) (negsuc 4 ∷ pos 300 ∷ []) (negsuc 2 ∷ pos 1800 ∷ []) ∷
    h (pos 32 ∷ pos 0 ∷ pos 0 ∷ []) ([]) (negsuc 2 ∷ pos 1800 ∷ []) ∷
    h (pos 16 ∷ pos 15 ∷ []) ([]) (negsuc 2 ∷ pos 1800 ∷ []) ∷
    h (pos 32 ∷ pos 0 ∷ pos 0 ∷ []) ([]) (negsuc 2 ∷ pos 1800 ∷ []) ∷
    h (pos 16 ∷ pos 15 ∷ []) ([]) (negsuc 2 ∷ pos 1800 ∷ []) ∷
    []

pub record Recorded : Type 0 where
  pub run0 : heard opening0 opened calls0 ≡ told0
  pub run1 : heard opening1 opened calls1 ≡ told1
  pub run2 : heard opening2 opened calls2 ≡ told2
  pub run3 : heard opening3 opened calls3 ≡ told3
