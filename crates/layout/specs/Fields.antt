-- The bytes of a field. Assumes nothing.
use Rattle.std.specs.Prelude.{ℕ, List, [], ◌∷◌}
use Rattle.std.specs.List.{flat_map}
use Rattle.layout.specs.Numbers.{bytes, ticks}
use Rattle.layout.specs.declared.field.Field.{Field}
use Rattle.layout.specs.declared.field.Field.TheVariants.{Byte, Number, Price, Time}

abbrev pub field_bytes : Field → List ℕ
field_bytes (Byte b) = b ∷ []
field_bytes (Number n) = bytes 4 n
field_bytes (Price p) = bytes 4 (ticks p)
field_bytes (Time t) = bytes 8 t

-- one field after another
abbrev pub in_bytes : List Field → List ℕ
in_bytes fields = flat_map field_bytes fields
