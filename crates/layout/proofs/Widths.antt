-- Bytes and the numbers that they write: each determines the other.
use Rattle.std.proofs.Common.{◌≡◌, ℕ, zero, suc, ◌+◌, ◌*◌, ◌/◌, ◌%◌, ◌^◌, ◌<◌, ◌≤◌, List, [], ◌∷◌, ◌++◌, length, take, drop, sym, refl, ap, ◌∙◌, subst, mod-eq_of_lt, mul_assoc, add-mul, pow-suc, zero-add, arith, length-drop, take-append-drop, length-take}
use native.Mathlib.Nat.{mod-one, pow-succ'}
use lib.Arith.{mod-mul}
use Rattle.std.proofs.lemmas.Nat.{div-mul-add, mod-mul-add, mod_below}
use Rattle.std.proofs.lemmas.Int.Digits.{number_lt}
use Rattle.std.proofs.ByRecursion.{All-take, All-drop}
use Rattle.std.proofs.lemmas.List.{drop-drop}
use Rattle.std.specs.Int.Digits.{number_from_digits_after, AllBelowBase}
use Rattle.layout.specs.Numbers.{big, bytes, field}

pub length-bytes : (k n : ℕ) → length (bytes k n) ≡ k
length-bytes zero n = refl
length-bytes (suc k) n = ap suc (length-bytes k n)

pub under-bytes : (k n : ℕ) → AllBelowBase 256 (bytes k n)
under-bytes zero n = tt
under-bytes (suc k) n = (mod_below (n / 256 ^ k) 256 (omega arith), under-bytes k n)

pow-above : (k : ℕ) → 0 < 256 ^ k
pow-above zero = omega arith
pow-above (suc k) = omega (arith, pow-suc 256 k, pow-above k)

-- what stands before counts by its place
after : (a : ℕ) (xs : List ℕ) → number_from_digits_after 256 a xs ≡ a * 256 ^ length xs + big xs
after a [] = omega arith
after a (x ∷ xs) =
    let w = 256 ^ length xs in
    omega (
      arith,
      after (a * 256 + x) xs,
      after (0 + x) xs,
      add-mul (a * 256) x w,
      add-mul 0 x w,
      mul_assoc a 256 w,
      ap (λ (v : ℕ). a * v) (pow-succ' 256 (length xs)),
    )

pub big-cons : (x : ℕ) (xs : List ℕ) → big (x ∷ xs) ≡ x * 256 ^ length xs + big xs
big-cons x xs = after (0 + x) xs ∙ ap (λ (v : ℕ). v * 256 ^ length xs + big xs) (zero-add x)

-- the last k bytes of a number write what is left of it there
pub big-bytes : (k n : ℕ) → big (bytes k n) ≡ n % 256 ^ k
big-bytes zero n = sym (mod-one n)
big-bytes (suc k) n =
    let x = n / 256 ^ k % 256 in
    big-cons x (bytes k n)
    ∙ ap (λ (v : ℕ). x * 256 ^ v + big (bytes k n)) (length-bytes k n)
    ∙ ap (λ (v : ℕ). x * 256 ^ k + v) (big-bytes k n)
    ∙ sym (ap (λ (v : ℕ). n % v) (pow-succ' 256 k) ∙ mod-mul n {m = 256} {c = 256 ^ k} (omega arith) (pow-above k))

pub big-back : (k n : ℕ) → n < 256 ^ k → big (bytes k n) ≡ n
big-back k n h = big-bytes k n ∙ mod-eq_of_lt h

-- so many bytes that write the same number are the same
same_bytes : (xs ys : List ℕ) → length xs ≡ length ys → AllBelowBase 256 xs → AllBelowBase 256 ys → big xs ≡ big ys → xs ≡ ys
same_bytes [] [] l u v e = refl
same_bytes [] (y ∷ ys) l u v e = let z : ⊥ = omega arith in absurd z
same_bytes (x ∷ xs) [] l u v e = let z : ⊥ = omega arith in absurd z
same_bytes (x ∷ xs) (y ∷ ys) l (f, u) (g, v) e =
    let w = 256 ^ length ys in
    let m : length xs ≡ length ys = omega arith in
    let low : big xs < w = rw m at (number_lt 256 xs u) in
    let both : x * w + big xs ≡ y * w + big ys = sym (ap (λ (n : ℕ). x * 256 ^ n + big xs) m) ∙ sym (big-cons x xs) ∙ e ∙ big-cons y ys in
    let first : x ≡ y = sym (div-mul-add x w (big xs) low) ∙ ap (λ (n : ℕ). n / w) both ∙ div-mul-add y w (big ys) (number_lt 256 ys v) in
    let rest : big xs ≡ big ys = sym (mod-mul-add x w (big xs) low) ∙ ap (λ (n : ℕ). n % w) both ∙ mod-mul-add y w (big ys) (number_lt 256 ys v) in
    let more = same_bytes xs ys m u v rest in
    cc

-- bytes are those of the number that they write
pub bytes-big : (k : ℕ) (xs : List ℕ) → length xs ≡ k → AllBelowBase 256 xs → bytes k (big xs) ≡ xs
bytes-big k xs l u =
    let small : big xs < 256 ^ k = subst (λ (n : ℕ). big xs < 256 ^ n) l (number_lt 256 xs u) in
    same_bytes (bytes k (big xs)) xs (length-bytes k (big xs) ∙ sym l) (under-bytes k (big xs)) u (big-back k (big xs) small)

-- a field of k bytes, and what follows it
module _ (bs : List ℕ) (at k : ℕ) (fits : at + k ≤ length bs) (under : AllBelowBase 256 bs) where
  whole : length (take k (drop at bs)) ≡ k
  whole = simp (length-take, length-drop) (omega arith)

  parts : AllBelowBase 256 (take k (drop at bs))
  parts = All-take _ k (drop at bs) (All-drop _ at bs under)

  pub field-part : bytes k (field at k bs) ++ drop (at + k) bs ≡ drop at bs
  field-part =
      ap (λ (p : List ℕ). p ++ drop (at + k) bs) (bytes-big k (take k (drop at bs)) whole parts)
      ∙ ap (λ (q : List ℕ). take k (drop at bs) ++ q) (sym (drop-drop k at bs))
      ∙ take-append-drop k (drop at bs)

  pub field-small : field at k bs < 256 ^ k
  field-small = subst (λ (n : ℕ). field at k bs < 256 ^ n) whole (number_lt 256 (take k (drop at bs)) parts)
