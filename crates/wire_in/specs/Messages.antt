-- Call messages as values, wherever their bytes lie. Assumes nothing.
use Rattle.std.specs.Prelude.{◌≡◌, ℕ, ◌+◌, List, Ok, Err, Result}
use Rattle.market.specs.declared.call.OrderEntry.{OrderEntry}
use Rattle.market.specs.declared.call.OrderChange.{OrderChange}
use Rattle.market.specs.declared.call.OrderCancel.{OrderCancel}
use Rattle.market.specs.declared.call.Call.{Call}
use Rattle.market.specs.declared.call.Call.TheVariants.{Entry as EntryCall, Change as ChangeCall, Cancel as CancelCall, Tick as TickCall, Draw as DrawCall}
use Rattle.wire_in.specs.declared.message.CallMessage.{CallMessage}
use Rattle.wire_in.specs.declared.message.CallMessage.TheVariants.{Entry, Change, Cancel, Tick, Draw}

-- an entry holds the bytes of its reference
pub data Message : Type 0 where
  entry : (order : OrderEntry) (reference : List ℕ) → Message
  change : OrderChange → Message
  cancel : OrderCancel → Message
  tick : (time : ℕ) → Message
  draw : Message

-- what a message says
abbrev pub said : CallMessage → Message
said (Entry order reference) = entry order reference.now
said (Change c) = change c
said (Cancel c) = cancel c
said (Tick time) = tick time
said Draw = draw

-- the call, without the reference
abbrev pub call_of : Message → Call
call_of (entry order reference) = EntryCall order
call_of (change c) = ChangeCall c
call_of (cancel c) = CancelCall c
call_of (tick time) = TickCall time
call_of draw = DrawCall

-- what an answer says
abbrev pub meant : {E : Type 0} → Result CallMessage E → Result Message E
meant (Ok m) = Ok (said m)
meant (Err e) = Err e

-- an entry's reference lies in the input itself, from byte 27 on
abbrev pub Placed : {E : Type 0} → ℕ × ℕ → Result CallMessage E → Type 0
Placed input (Ok (Entry order reference)) = (reference.ref_ptr.0 ≡ input.0) × (reference.ref_ptr.1 ≡ 27 + input.1)
Placed input (Ok (Change c)) = Unit {0}
Placed input (Ok (Cancel c)) = Unit {0}
Placed input (Ok (Tick time)) = Unit {0}
Placed input (Ok Draw) = Unit {0}
Placed input (Err e) = Unit {0}
