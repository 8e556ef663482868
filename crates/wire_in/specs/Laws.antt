-- Which calls a message can hold. Assumes nothing.
use Rattle.std.specs.Prelude.{ℕ, ◌^◌, ◌<◌, ◌≤◌, length, Some, None, Option, FitsSigned}
use Rattle.std.specs.Int.{w32}
use Rattle.std.specs.Int.Digits.{AllBelowBase}
use Rattle.wire_in.specs.Messages.{Message, entry, change, cancel, tick, draw}

-- an end time is not 0, which stands for none
abbrev pub FittingEnd : Option ℕ → Type 0
FittingEnd None = Unit {0}
FittingEnd (Some time) = (0 < time) × (time < 2 ^ 64)

-- its numbers fit their fields
abbrev pub Fitting : Message → Type 0
Fitting (entry order reference) =
    (order.trader < 256) × FitsSigned w32 order.price × (order.displayed < 2 ^ 32) × (order.reserve < 2 ^ 32)
    × FittingEnd order.end × (length reference ≤ 16) × AllBelowBase 256 reference
Fitting (change c) = (c.trader < 256) × (c.number < 2 ^ 32) × FitsSigned w32 c.price × (c.displayed < 2 ^ 32) × (c.reserve < 2 ^ 32)
Fitting (cancel c) = (c.trader < 256) × (c.number < 2 ^ 32)
Fitting (tick time) = time < 2 ^ 64
Fitting draw = Unit {0}
