-- Messages of every kind. Assumes nothing.
use Rattle.std.specs.Prelude.{ℕ, cond, List, Ok, Err, Result}
use Rattle.market.specs.Tenors.{within}
use Rattle.market.specs.declared.refusal.MessageFault.{MessageFault}
use Rattle.market.specs.declared.refusal.Refusal.{Refusal}
use Rattle.layout.specs.Frames.{reading}
use Rattle.layout.specs.Numbers.{byte}
use Rattle.wire_in.specs.Messages.{Message as CallData, said}
use Rattle.wire_in.specs.Reading.{call_in}
use Rattle.wire_out.specs.Reading.{output_in}
use Rattle.wire_out.specs.declared.output.Output.{Output}
use Rattle.wire.specs.declared.message.Message.{Message}
use Rattle.wire.specs.declared.message.Message.TheVariants.{Call as CallOf, Output as OutputOf}

-- a message as a value, wherever its bytes lie
pub data Told : Type 0 where
  call : CallData → Told
  output : Output → Told

abbrev pub told : Message → Told
told (CallOf m) = call (said m)
told (OutputOf o) = output o

abbrev pub meant : {E : Type 0} → Result Message E → Result Told E
meant (Ok m) = Ok (told m)
meant (Err e) = Err e

-- what a reading tells, put another way
abbrev pub told_as : {X E : Type 0} → (X → Told) → Result X E → Result Told E
told_as f (Ok x) = Ok (f x)
told_as f (Err e) = Err e

-- the bytes of one whole message
abbrev pub meaning : List ℕ → Result Told MessageFault
meaning bs = cond (within 1 5 (byte 3 bs)) (told_as call (call_in bs)) (told_as output (output_in bs))

-- an answer with what it tells put another way
abbrev pub retold : {X : Type 0} → (X → Told) → Result X Refusal × ℕ → Result Told Refusal × ℕ
retold f p = (elim p.0 [ Ok x ↦ Ok (f x) | Err e ↦ Err e ], p.1)

-- what the first message of an input says: a call, if it has the kind of one
abbrev pub telling : List ℕ → Result Told Refusal × ℕ
telling bs = cond (within 1 5 (byte 3 bs)) (retold call (reading call_in bs)) (retold output (reading output_in bs))
