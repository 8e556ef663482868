-- Numbers in words. Assumes nothing.
use Rattle.std.specs.Prelude.{ℕ, ◌-◌, Bool, true, cond, not, ◌&&◌, List, [], ◌∷◌, map, length, drop, ℤ, pos, neg_ℤ, Some, None, Option, ◌==◌, nat_le}
use Rattle.std.specs.Option.{option_map}
use Rattle.std.specs.Int.Digits.{number_from_digits}
use Rattle.market.specs.Tenors.{within}
use Rattle.layout.specs.Numbers.{byte}

abbrev pub digit_of : ℕ → Option ℕ
digit_of c = cond (within 48 57 c) (Some (c - 48)) None

abbrev pub digits : List ℕ → Bool
digits [] = true
digits (c ∷ cs) = within 48 57 c && digits cs

-- the number that decimal digits write
abbrev pub value : List ℕ → ℕ
value cs = number_from_digits 10 (map (λ c. c - 48) cs)

-- that number, if it is at most `most`, and there is a digit and nothing but digits
abbrev pub numeral : ℕ → List ℕ → Option ℕ
numeral most cs = cond (not (length cs == 0) && (digits cs && nat_le (value cs) most)) (Some (value cs)) None

-- a number of 32 bits in two's complement: digits, perhaps behind a minus sign
abbrev pub signed_of : List ℕ → Option ℤ
signed_of cs =
    cond (byte 0 cs == 45)
    (option_map (λ n. neg_ℤ (pos n)) (numeral 2147483648 (drop 1 cs)))
    (option_map (λ n. pos n) (numeral 2147483647 cs))
