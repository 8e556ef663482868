use Rattle.std.proofs.Common.{◌≡◌, ℕ, ℤ, List, drop, Option, Ok, false, ltb, w32, SFits, rules}
use Rattle.std.proofs.lemmas.List.{take_rest}
use Rattle.std.proofs.lemmas.Int.{to_z-of_z}
use Rattle.market.specs.declared.order.Side.{Side}
use Rattle.market.specs.declared.order.OrderType.{OrderType}
use Rattle.market.specs.Codes.{side_of, type_of}
use Rattle.layout.specs.Numbers.{byte, field, signed}
use Rattle.wire_in.specs.Messages.{entry}
use Rattle.wire_in.specs.Reading.{end_of, entry_in}
use Rattle.wire_in.proofs.read.entry.Goals as goal

-- the message with the fields that were read
told : (bs : List ℕ) (s : Side) (k : OrderType) (p : ℤ) (d r : ℕ) (e : Option ℕ) (rest : List ℕ)
    → ltb 1 (byte 5 bs) ≡ false → ltb 2 (byte 6 bs) ≡ false → s ≡ side_of (byte 5 bs) → k ≡ type_of (byte 6 bs)
    → p ≡ signed (field 7 4 bs) → d ≡ field 11 4 bs → r ≡ field 15 4 bs → e ≡ end_of (field 19 8 bs) → rest ≡ drop 27 bs
    → Ok (entry record { trader = byte 4 bs; side = s; kind = k; price = p; displayed = d; reserve = r; end = e } rest) ≡ entry_in bs
told bs s k p d r e rest f g h i j l m n o = cc

pub returns-clause-value : goal.returns-clause-value
returns-clause-value c =
    let bs = c.args.message.now in
    let f : SFits w32 c.read_at.result = search rules in
    let p = to_z-of_z w32 c.read_at.result f in
    let rest = take_rest bs 27 in
    told bs _ _ _ _ _ _ _ (search rules) (search rules) (search rules) (search rules) (cc) (cc) (cc) (cc) (cc)
