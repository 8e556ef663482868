-- The bytes of a call. Assumes nothing.
use Rattle.std.specs.Prelude.{ℕ, Bool, false, cond, List, [], ◌∷◌, ◌++◌, length, Some, None, Ok, Err, Option, Result, ◌==◌, nat_lt}
use Rattle.std.specs.Option.{unwrap_or}
use Rattle.market.specs.Codes.{side_byte, type_byte}
use Rattle.market.specs.declared.refusal.MessageFault.TheVariants.{Length}
use Rattle.market.specs.declared.refusal.BookFault.{BookFault}
use Rattle.market.specs.declared.refusal.BookFault.TheVariants.{End}
use Rattle.market.specs.declared.refusal.Refusal.{Refusal}
use Rattle.market.specs.declared.refusal.Refusal.TheVariants.{Message as MessageRefusal, Book as BookRefusal}
use Rattle.layout.specs.Fields.{in_bytes}
use Rattle.layout.specs.Frames.{message, writing}
use Rattle.layout.specs.declared.field.Field.{Field}
use Rattle.layout.specs.declared.field.Field.TheVariants.{Byte, Number, Price, Time}
use Rattle.wire_in.specs.Messages.{Message, entry, change, cancel, tick, draw}

abbrev pub kind_of : Message → ℕ
kind_of (entry order reference) = 1
kind_of (change c) = 2
kind_of (cancel c) = 3
kind_of (tick time) = 4
kind_of draw = 5

-- no end time is written as 0
abbrev pub fields_of : Message → List Field
fields_of (entry order reference) =
    Byte order.trader ∷ Byte (side_byte order.side) ∷ Byte (type_byte order.kind) ∷ Price order.price
    ∷ Number order.displayed ∷ Number order.reserve ∷ Time (unwrap_or order.end 0) ∷ []
fields_of (change c) =
    Byte c.trader ∷ Number c.number ∷ Price c.price ∷ Number c.displayed ∷ Number c.reserve ∷ []
fields_of (cancel c) = Byte c.trader ∷ Number c.number ∷ []
fields_of (tick time) = Time time ∷ []
fields_of draw = []

abbrev pub reference_of : Message → List ℕ
reference_of (entry order reference) = reference
reference_of (change c) = []
reference_of (cancel c) = []
reference_of (tick time) = []
reference_of draw = []

-- the layout: the head, the fields, and the reference
abbrev pub coded : Message → List ℕ
coded m = message (kind_of m) (in_bytes (fields_of m) ++ reference_of m)

-- an end time of 0 would be read as none
abbrev pub at_zero : Option ℕ → Bool
at_zero None = false
at_zero (Some time) = time == 0

-- how an end time is written
abbrev pub end_number : Option ℕ → Result ℕ BookFault
end_number end = cond (at_zero end) (Err End) (Ok (unwrap_or end 0))

-- what writing a call answers, and what the buffer holds then
abbrev pub writing_call : Message → List ℕ → Result ℕ Refusal × List ℕ
writing_call (entry order reference) old =
    cond (nat_lt 16 (length reference)) (Err (MessageRefusal Length), old)
    (cond (at_zero order.end) (Err (BookRefusal End), old)
    (writing (coded (entry order reference)) old))
writing_call (change c) old = writing (coded (change c)) old
writing_call (cancel c) old = writing (coded (cancel c)) old
writing_call (tick time) old = writing (coded (tick time)) old
writing_call draw old = writing (coded draw) old
