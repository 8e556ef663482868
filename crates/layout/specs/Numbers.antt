-- Numbers in bytes, the highest byte first. Assumes nothing.
use Rattle.std.specs.Prelude.{◌≡◌, ℕ, zero, suc, ◌/◌, ◌%◌, ◌^◌, ◌<◌, List, [], ◌∷◌, take, drop, ℤ, slice_index}
use Rattle.std.proofs.Common.{sym, ap, ◌∙◌, to_z, of_z}
use Rattle.std.proofs.lemmas.Int.{of_z-to_z}
use Rattle.std.specs.Int.{w32}
use Rattle.std.specs.Int.Digits.{number_from_digits}

-- the number that bytes write
abbrev pub big : List ℕ → ℕ
big bs = number_from_digits 256 bs

-- the byte at a place, 0 past the end
abbrev pub byte : ℕ → List ℕ → ℕ
byte i bs = slice_index bs i

-- the number that the `n` bytes from the place `at` on write, as far as they are there
abbrev pub field : ℕ → ℕ → List ℕ → ℕ
field at n bs = big (take n (drop at bs))

-- 32 bits as a signed number, in two's complement
abbrev pub signed : ℕ → ℤ
signed n = to_z w32 n

-- a signed number as its 32 bits
abbrev pub ticks : ℤ → ℕ
ticks p = of_z w32 p

-- different bits are different numbers
pub signed_once : (n m : ℕ) → n < 256 ^ 4 → m < 256 ^ 4 → signed n ≡ signed m → n ≡ m
signed_once n m h k e = sym (of_z-to_z w32 n h) ∙ ap ticks e ∙ of_z-to_z w32 m k

-- the last `k` bytes of a number
abbrev pub bytes : ℕ → ℕ → List ℕ
bytes zero n = []
bytes (suc k) n = n / 256 ^ k % 256 ∷ bytes k n
