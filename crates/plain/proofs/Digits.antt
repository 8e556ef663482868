-- Reading a number digit by digit.
use Rattle.std.proofs.Common.{◌≡◌, ℕ, ◌+◌, ◌-◌, ◌*◌, ◌<◌, ◌≤◌, Bool, true, false, cond, not, ◌&&◌, eqb, leb, List, [], ◌∷◌, ◌++◌, map, length, get_or, take, drop, Some, None, sym, refl, ap, ◌∙◌, arith, take-append-drop}
use lib.ListN.{length-map}
use Rattle.std.proofs.lemmas.Int.Digits.{number_more, number_after_append, number_after_ge}
use Rattle.std.proofs.lemmas.List.{take-map, get_or-map, drop_more, map-append, take_more}
use Rattle.std.proofs.lemmas.Bool.{and_left, and_right, and_from, cond-true, cond-false, lt-leb, le-leb}
use Rattle.std.proofs.lemmas.Bool.Decides.{nat_tests}
use Rattle.std.specs.Int.Digits.{number_from_digits, number_from_digits_after}
use Rattle.market.specs.Tenors.{within}
use Rattle.plain.specs.Numerals.{digit_of, digits, value, numeral}

and_assoc : (x y z : Bool) → (x && (y && z)) ≡ ((x && y) && z)
and_assoc true y z = refl
and_assoc false y z = refl

digits_append : (xs ys : List ℕ) → digits (xs ++ ys) ≡ (digits xs && digits ys)
digits_append [] ys = refl
digits_append (x ∷ xs) ys = ap (λ (b : Bool). within 48 57 x && b) (digits_append xs ys) ∙ and_assoc (within 48 57 x) (digits xs) (digits ys)

module _ (cs : List ℕ) (i : ℕ) (h : i < length cs) where
  pub value-more : value (take (i + 1) cs) ≡ value (take i cs) * 10 + (get_or cs i 0 - 48)
  value-more =
      let f : ℕ → ℕ = λ c. c - 48 in
      let l : i < length (map f cs) = simp length-map h in
      ap (number_from_digits 10) (sym (take-map f (i + 1) cs))
      ∙ number_more 10 (map f cs) i l
      ∙ ap (λ (d : ℕ). number_from_digits 10 (take i (map f cs)) * 10 + d) (get_or-map f cs i 0 0 h)
      ∙ ap (λ (q : List ℕ). number_from_digits 10 q * 10 + (get_or cs i 0 - 48)) (take-map f i cs)

  pub digits_more : digits (take i cs) ≡ true → within 48 57 (get_or cs i 0) ≡ true → digits (take (i + 1) cs) ≡ true
  digits_more d w = ap digits (take_more cs i 0 h) ∙ digits_append (take i cs) (get_or cs i 0 ∷ []) ∙ rw (d, w)

  -- a byte that is no digit
  pub no_digit : (most : ℕ) → within 48 57 (get_or cs i 0) ≡ false → None ≡ numeral most cs
  no_digit most w =
      let rest : digits (drop i cs) ≡ false = ap digits (drop_more cs i 0 h) ∙ and_left (within 48 57 (get_or cs i 0)) (digits (drop (i + 1) cs)) w in
      let none : digits cs ≡ false = ap digits (sym (take-append-drop i cs)) ∙ digits_append (take i cs) (drop i cs) ∙ and_right (digits (take i cs)) (digits (drop i cs)) rest in
      sym (cond-false _ (Some (value cs)) None (and_right _ _ (and_left (digits cs) (leb (value cs) most) none)))

-- what has been read is no more than the whole
pub value-within : (cs : List ℕ) (i : ℕ) → value (take i cs) ≤ value cs
value-within cs i =
    let f : ℕ → ℕ = λ c. c - 48 in
    let whole : value cs ≡ number_from_digits_after 10 (value (take i cs)) (map f (drop i cs)) =
    ap value (sym (take-append-drop i cs)) ∙ ap (number_from_digits 10) (map-append f (take i cs) (drop i cs)) ∙ number_after_append 10 0 (map f (take i cs)) (map f (drop i cs)) in
    omega (arith, whole, number_after_ge 10 (value (take i cs)) (map f (drop i cs)) (omega arith))

pub too_large : (cs : List ℕ) (i most : ℕ) → most < value (take i cs) → None ≡ numeral most cs
too_large cs i most h =
    let large : leb (value cs) most ≡ false = lt-leb (value cs) most (omega (arith, value-within cs i)) in
    sym (cond-false _ (Some (value cs)) None (and_right _ _ (and_right (digits cs) (leb (value cs) most) large)))

pub all_read : (cs : List ℕ) (most : ℕ) → 0 < length cs → digits cs ≡ true → value cs ≤ most → Some (value cs) ≡ numeral most cs
all_read cs most l d h =
    let some : not (eqb (length cs) 0) ≡ true = grind (arith, nat_tests) in
    let small : leb (value cs) most ≡ true = le-leb (value cs) most h in
    sym (cond-true _ (Some (value cs)) None (and_from _ _ some (and_from _ _ d small)))

pub digit-yes : (c d : ℕ) → Some d ≡ digit_of c → (within 48 57 c ≡ true) × (d ≡ c - 48)
digit-yes c d e = given (within 48 57 c) e
  where
    given : (t : Bool) → Some d ≡ cond t (Some (c - 48)) None → (t ≡ true) × (d ≡ c - 48)
    given true e = (refl, cc)
    given false e = (cc, cc)

pub digit-no : (c : ℕ) → None ≡ digit_of c → within 48 57 c ≡ false
digit-no c e = given (within 48 57 c) e
  where
    given : (t : Bool) → None ≡ cond t (Some (c - 48)) None → t ≡ false
    given true e = cc
    given false e = refl
