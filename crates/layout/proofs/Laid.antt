-- Bytes as the fields that are laid out in them, one after another.
use Rattle.std.proofs.Common.{◌≡◌, ℕ, ◌+◌, ◌^◌, ◌<◌, ◌≤◌, List, ◌∷◌, ◌++◌, length, drop, ℤ, sym, ap, ◌∙◌, w32, SFits, rules}
use mir.ValLaws.{to_z-Fits}
use Rattle.std.proofs.lemmas.List.{drop_more}
use Rattle.std.proofs.lemmas.Int.{of_z-to_z, to_z-of_z}
use Rattle.std.specs.Int.Digits.{AllBelowBase}
use Rattle.layout.specs.Numbers.{big, byte, bytes, field, signed, ticks}
use Rattle.layout.proofs.Widths.{big-back, field-part, field-small}

-- a price is its bytes
ticks-small : (p : ℤ) → SFits w32 p → ticks p < 2 ^ 32
ticks-small p h = search rules

pub price-back : (p : ℤ) → SFits w32 p → signed (big (bytes 4 (ticks p))) ≡ p
price-back p h = ap signed (big-back 4 (ticks p) (ticks-small p h)) ∙ to_z-of_z w32 p h

module _ (xs : List ℕ) (at : ℕ) (tail : List ℕ) where
  -- a field, and then the tail
  pub byte-then : at < length xs → tail ≡ drop (at + 1) xs → byte at xs ∷ tail ≡ drop at xs
  byte-then h e = ap (λ (q : List ℕ). byte at xs ∷ q) e ∙ sym (drop_more xs at 0 h)

  -- a byte that is written anew from what it meant
  pub code-then : (b : ℕ) → b ≡ byte at xs → at < length xs → tail ≡ drop (at + 1) xs → b ∷ tail ≡ drop at xs
  code-then b c h e = ap (λ (x : ℕ). x ∷ tail) c ∙ byte-then h e

  pub bytes-then : (k : ℕ) → at + k ≤ length xs → AllBelowBase 256 xs → tail ≡ drop (at + k) xs → bytes k (field at k xs) ++ tail ≡ drop at xs
  bytes-then k h u e = ap (λ (q : List ℕ). bytes k (field at k xs) ++ q) e ∙ field-part xs at k h u

  pub price-then : at + 4 ≤ length xs → AllBelowBase 256 xs → tail ≡ drop (at + 4) xs → bytes 4 (ticks (signed (field at 4 xs))) ++ tail ≡ drop at xs
  price-then h u e = ap (λ (n : ℕ). bytes 4 n ++ tail) (of_z-to_z w32 (field at 4 xs) (field-small xs at 4 h u)) ∙ bytes-then 4 h u e

pub price-fits : (xs : List ℕ) (at : ℕ) → at + 4 ≤ length xs → AllBelowBase 256 xs → SFits w32 (signed (field at 4 xs))
price-fits xs at h u = to_z-Fits w32 (field at 4 xs) (record { fits = field-small xs at 4 h u })
