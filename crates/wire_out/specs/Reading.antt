-- What the bytes of records and replies mean. Assumes nothing.
use Rattle.std.specs.Prelude.{ℕ, Bool, cond, not, ◌||◌, List, [], ◌∷◌, length, Ok, Result, ◌==◌}
use Rattle.market.specs.Codes.{cause_of}
use Rattle.market.specs.Tenors.{within}
use Rattle.market.specs.declared.record.Fill.{Fill}
use Rattle.market.specs.declared.record.Record.TheVariants.{Quiet, Fill as Filled, Session, Rolling, Fbs, Open, Removal}
use Rattle.market.specs.declared.refusal.MessageFault.{MessageFault}
use Rattle.market.specs.declared.refusal.MessageFault.TheVariants.{Kind, Length}
use Rattle.layout.specs.Frames.{refusing}
use Rattle.layout.specs.Numbers.{byte, field, signed}
use Rattle.wire_out.specs.declared.output.Output.{Output}
use Rattle.wire_out.specs.declared.output.Output.TheVariants.{Record as Recorded, Reply}

abbrev pub fill_in : List ℕ → Fill
fill_in bs =
    record {
      price = signed (field 12 4 bs);
      size = field 16 4 bs;
      bid = field 20 4 bs;
      bidleft = field 24 4 bs;
      offer = field 28 4 bs;
      offerleft = field 32 4 bs;
    }

-- a removal for a cause that there is none is of no kind that there is
abbrev pub removal_in : List ℕ → Result Output MessageFault
removal_in bs =
    refusing ((not (within 1 3 (byte 20 bs)), Kind) ∷ [])
    (Ok (Recorded (Removal (field 4 8 bs) (field 12 4 bs) (field 16 4 bs) (cause_of (byte 20 bs)))))

-- records have the kinds 16 to 22, and a reply 32
abbrev pub known : ℕ → Bool
known kind = within 16 22 kind || kind == 32

-- the length that a kind has, head and all
abbrev pub length_of : ℕ → ℕ
length_of kind =
    cond (kind == 17) 36
    (cond (kind == 18) 20
    (cond (kind == 22) 21
    (cond (kind == 32) 9 12)))

-- of a kind that there is
abbrev pub body_in : ℕ → List ℕ → Result Output MessageFault
body_in kind bs =
    cond (kind == 16) (Ok (Recorded (Quiet (field 4 8 bs))))
    (cond (kind == 17) (Ok (Recorded (Filled (field 4 8 bs) (fill_in bs))))
    (cond (kind == 18) (Ok (Recorded (Session (field 4 8 bs) (signed (field 12 4 bs)) (field 16 4 bs))))
    (cond (kind == 19) (Ok (Recorded (Rolling (field 4 8 bs))))
    (cond (kind == 20) (Ok (Recorded (Fbs (field 4 8 bs))))
    (cond (kind == 21) (Ok (Recorded (Open (field 4 8 bs))))
    (cond (kind == 22) (removal_in bs)
    (Ok (Reply (byte 4 bs) (field 5 4 bs)))))))))

-- the bytes of one whole message
abbrev pub output_in : List ℕ → Result Output MessageFault
output_in bs =
    refusing
    ((not (known (byte 3 bs)), Kind) ∷ (not (length bs == length_of (byte 3 bs)), Length) ∷ [])
    (body_in (byte 3 bs) bs)
