use Rattle.std.proofs.Common.{◌≡◌, ℕ, ◌+◌, ◌-◌, ◌^◌, ◌≤◌, min, List, [], ◌∷◌, length, arith, length-append, rules}
use Rattle.std.specs.List.{fold}
use Rattle.layout.specs.Fields.{field_bytes, in_bytes}
use Rattle.layout.specs.declared.field.Field.{Field}
use Rattle.layout.proofs.write.size.Goals as goal

-- the bytes so far and a field's, as far as the type goes
abbrev more : ℕ → Field → ℕ
more total field = min (2 ^ 64 - 1) (length (field_bytes field) + total)

summed : (total : ℕ) (fields : List Field) → total ≤ 2 ^ 64 - 1 → fold more total fields ≡ min (2 ^ 64 - 1) (total + length (in_bytes fields))
summed total [] h = omega arith
summed total (f ∷ fs) h =
    let rest = summed (more total f) fs (omega arith) in
    omega (arith, rest, length-append (field_bytes f) (in_bytes fs))

pub returns : goal.returns
returns c =
    let fields = c.args.fields.now in
    let all : c.fold.result ≡ fold more 0 fields = search rules in
    omega (arith, all, summed 0 fields (omega arith))
