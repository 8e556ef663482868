-- Which records and replies a message can hold. Assumes nothing.
use Rattle.std.specs.Prelude.{◌^◌, ◌<◌, FitsSigned}
use Rattle.std.specs.Int.{w32}
use Rattle.market.specs.declared.record.Record.{Record}
use Rattle.market.specs.declared.record.Record.TheVariants.{Quiet, Fill, Session, Rolling, Fbs, Open, Removal}
use Rattle.wire_out.specs.declared.output.Output.{Output}
use Rattle.wire_out.specs.declared.output.Output.TheVariants.{Record as Recorded, Reply}

-- its numbers fit their fields
abbrev pub FittingRecord : Record → Type 0
FittingRecord (Quiet time) = time < 2 ^ 64
FittingRecord (Fill time fill) =
    (time < 2 ^ 64) × FitsSigned w32 fill.price × (fill.size < 2 ^ 32)
    × (fill.bid < 2 ^ 32) × (fill.bidleft < 2 ^ 32) × (fill.offer < 2 ^ 32) × (fill.offerleft < 2 ^ 32)
FittingRecord (Session time price passive) = (time < 2 ^ 64) × FitsSigned w32 price × (passive < 2 ^ 32)
FittingRecord (Rolling time) = time < 2 ^ 64
FittingRecord (Fbs time) = time < 2 ^ 64
FittingRecord (Open time) = time < 2 ^ 64
FittingRecord (Removal time number displayed cause) = (time < 2 ^ 64) × (number < 2 ^ 32) × (displayed < 2 ^ 32)

abbrev pub Fitting : Output → Type 0
Fitting (Recorded told) = FittingRecord told
Fitting (Reply refusal order) = (refusal < 256) × (order < 2 ^ 32)
