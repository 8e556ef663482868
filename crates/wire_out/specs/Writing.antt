-- The bytes of records and replies. Assumes nothing.
use Rattle.std.specs.Prelude.{ℕ, List, [], ◌∷◌}
use Rattle.market.specs.Codes.{cause_byte}
use Rattle.market.specs.declared.record.Record.{Record}
use Rattle.market.specs.declared.record.Record.TheVariants.{Quiet, Fill, Session, Rolling, Fbs, Open, Removal}
use Rattle.layout.specs.Fields.{in_bytes}
use Rattle.layout.specs.Frames.{message}
use Rattle.layout.specs.declared.field.Field.{Field}
use Rattle.layout.specs.declared.field.Field.TheVariants.{Byte, Number, Price, Time}
use Rattle.wire_out.specs.declared.output.Output.{Output}
use Rattle.wire_out.specs.declared.output.Output.TheVariants.{Record as Recorded, Reply}

abbrev pub record_kind : Record → ℕ
record_kind (Quiet time) = 16
record_kind (Fill time fill) = 17
record_kind (Session time price passive) = 18
record_kind (Rolling time) = 19
record_kind (Fbs time) = 20
record_kind (Open time) = 21
record_kind (Removal time number displayed cause) = 22

-- every record has its time first
abbrev pub record_fields : Record → List Field
record_fields (Quiet time) = Time time ∷ []
record_fields (Fill time fill) =
    Time time ∷ Price fill.price ∷ Number fill.size
    ∷ Number fill.bid ∷ Number fill.bidleft ∷ Number fill.offer ∷ Number fill.offerleft ∷ []
record_fields (Session time price passive) = Time time ∷ Price price ∷ Number passive ∷ []
record_fields (Rolling time) = Time time ∷ []
record_fields (Fbs time) = Time time ∷ []
record_fields (Open time) = Time time ∷ []
record_fields (Removal time number displayed cause) = Time time ∷ Number number ∷ Number displayed ∷ Byte (cause_byte cause) ∷ []

abbrev pub kind_of : Output → ℕ
kind_of (Recorded told) = record_kind told
kind_of (Reply refusal order) = 32

abbrev pub fields_of : Output → List Field
fields_of (Recorded told) = record_fields told
fields_of (Reply refusal order) = Byte refusal ∷ Number order ∷ []

-- the layout: the head and the fields
abbrev pub coded : Output → List ℕ
coded output = message (kind_of output) (in_bytes (fields_of output))

abbrev pub coded_record : Record → List ℕ
coded_record told = coded (Recorded told)
