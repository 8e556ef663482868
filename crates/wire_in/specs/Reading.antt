-- What the bytes of a call mean. Assumes nothing.
use Rattle.std.specs.Prelude.{ℕ, Bool, cond, not, ◌&&◌, ◌||◌, List, [], ◌∷◌, length, drop, Some, None, Ok, Option, Result, ◌==◌, nat_lt}
use Rattle.market.specs.Codes.{side_of, type_of}
use Rattle.market.specs.Tenors.{within}
use Rattle.market.specs.declared.call.OrderEntry.{OrderEntry}
use Rattle.market.specs.declared.call.OrderChange.{OrderChange}
use Rattle.market.specs.declared.call.OrderCancel.{OrderCancel}
use Rattle.market.specs.declared.refusal.MessageFault.{MessageFault}
use Rattle.market.specs.declared.refusal.MessageFault.TheVariants.{Kind, Length, Side as NoSide, OrderType as NoType}
use Rattle.layout.specs.Frames.{refusing}
use Rattle.layout.specs.Numbers.{byte, field, signed}
use Rattle.wire_in.specs.Messages.{Message, entry, change, cancel, tick, draw}

-- 0 is no end time
abbrev pub end_of : ℕ → Option ℕ
end_of n = cond (n == 0) None (Some n)

-- an entry: trader, side, type, price, displayed, reserve and end, then the reference
abbrev pub order_in : List ℕ → OrderEntry
order_in bs =
    record {
      trader = byte 4 bs;
      side = side_of (byte 5 bs);
      kind = type_of (byte 6 bs);
      price = signed (field 7 4 bs);
      displayed = field 11 4 bs;
      reserve = field 15 4 bs;
      end = end_of (field 19 8 bs);
    }

abbrev pub entry_in : List ℕ → Result Message MessageFault
entry_in bs = refusing ((nat_lt 1 (byte 5 bs), NoSide) ∷ (nat_lt 2 (byte 6 bs), NoType) ∷ []) (Ok (entry (order_in bs) (drop 27 bs)))

abbrev pub change_in : List ℕ → OrderChange
change_in bs =
    record {
      trader = byte 4 bs;
      number = field 5 4 bs;
      price = signed (field 9 4 bs);
      displayed = field 13 4 bs;
      reserve = field 17 4 bs;
    }

abbrev pub cancel_in : List ℕ → OrderCancel
cancel_in bs = record { trader = byte 4 bs; number = field 5 4 bs }

-- the lengths that a kind may have, head and all
abbrev pub fits : ℕ → ℕ → Bool
fits kind n =
    (kind == 1 && within 27 43 n)
    || ((kind == 2 && n == 21) || ((kind == 3 && n == 9) || ((kind == 4 && n == 12) || (kind == 5 && n == 4))))

-- of a kind that there is
abbrev pub body_in : ℕ → List ℕ → Result Message MessageFault
body_in kind bs =
    cond (kind == 1) (entry_in bs)
    (cond (kind == 2) (Ok (change (change_in bs)))
    (cond (kind == 3) (Ok (cancel (cancel_in bs)))
    (cond (kind == 4) (Ok (tick (field 4 8 bs))) (Ok draw))))

-- the bytes of one whole message
abbrev pub call_in : List ℕ → Result Message MessageFault
call_in bs =
    refusing
    ((not (within 1 5 (byte 3 bs)), Kind) ∷ (not (fits (byte 3 bs) (length bs)), Length) ∷ [])
    (body_in (byte 3 bs) bs)
