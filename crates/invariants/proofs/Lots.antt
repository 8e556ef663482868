-- Sizes are multiples of the lot. Assumes nothing.
use Rattle.std.proofs.Common.{◌≡◌, ℕ, ◌+◌, ◌-◌, ◌/◌, ◌%◌, ◌<◌, ◌≤◌, min, Bool, true, false, cond, eqb, leb, ◌⊎◌, sym, subst, inl, inr, mod-eq_of_lt, le-div_iff_mul-le, div-mul-le_self, arith}
use native.Mathlib.Nat.{zero-mod, dvd-sub, dvd_of_mod-eq-zero, mod-eq-zero_of_dvd}
use Rattle.std.proofs.lemmas.Bool.{cases_lt, and_parts, and_from, eqb-true, eq-eqb, leb-true, le-leb}
use Rattle.rules.specs.Board.{Opening, lot}
use Rattle.rules.specs.Refusing.{is_size}

pub size-lots : (k : Opening) (n : ℕ) → is_size k n ≡ true → n % lot k ≡ 0
unfolding is_size
size-lots k n h = eqb-true (n % lot k) 0 (and_parts (eqb (n % lot k) 0) (leb n 1000000) h).0

pub size-most : (k : Opening) (n : ℕ) → is_size k n ≡ true → n ≤ 1000000
unfolding is_size
size-most k n h = leb-true n 1000000 (and_parts (eqb (n % lot k) 0) (leb n 1000000) h).1

pub is-size : (k : Opening) (n : ℕ) → n % lot k ≡ 0 → n ≤ 1000000 → is_size k n ≡ true
unfolding is_size
is-size k n h l = and_from (eqb (n % lot k) 0) (leb n 1000000) (eq-eqb (n % lot k) 0 h) (le-leb n 1000000 l)

pub size_none : (k : Opening) → is_size k 0 ≡ true
size_none k = is-size k 0 (zero-mod (lot k)) (omega arith)

pub size-minus : (k : Opening) (a b : ℕ) → is_size k a ≡ true → is_size k b ≡ true → is_size k (a - b) ≡ true
size-minus k a b ha hb =
    let d = dvd-sub (lot k) {m = a} {n = b} (dvd_of_mod-eq-zero (lot k) (size-lots k a ha)) (dvd_of_mod-eq-zero (lot k) (size-lots k b hb)) in
    let m = size-most k a ha in is-size k (a - b) (mod-eq-zero_of_dvd (lot k) d) (omega arith)

pub size-min : (k : Opening) (a b : ℕ) → is_size k a ≡ true → is_size k b ≡ true → is_size k (min a b) ≡ true
size-min k a b ha hb = go (cases_lt a b)
  where
    go : (a < b) ⊎ (b ≤ a) → is_size k (min a b) ≡ true
    go (inl h) = let e : min a b ≡ a = omega arith in subst (λ (n : ℕ). is_size k n ≡ true) (sym e) ha
    go (inr h) = let e : min a b ≡ b = omega arith in subst (λ (n : ℕ). is_size k n ≡ true) (sym e) hb

-- a size that is not 0 is a lot at least
pub a-lot : (k : Opening) (n : ℕ) → is_size k n ≡ true → 0 < n → lot k ≤ n
a-lot k n h p = go (cases_lt n (lot k))
  where
    go : (n < lot k) ⊎ (lot k ≤ n) → lot k ≤ n
    go (inl l) = let e = mod-eq_of_lt l in let z = size-lots k n h in absurd (omega arith)
    go (inr l) = l

pub some-lot : (k : Opening) → 0 < lot k
some-lot k = each (leb t 2) (leb t 3) (leb t 5) (leb t 7) (leb t 12) (leb t 30)
  where
    t : ℕ
    t = k.settings.tenor

    each : (a b c d e f : Bool) → 0 < cond a 250 (cond b 150 (cond c 100 (cond d 75 (cond e 50 (cond f 25 10)))))
    each true b c d e f = omega arith
    each false true c d e f = omega arith
    each false false true d e f = omega arith
    each false false false true e f = omega arith
    each false false false false true f = omega arith
    each false false false false false true = omega arith
    each false false false false false false = omega arith

-- lots fall with sizes
pub lots-fall : (l a b : ℕ) → 0 < l → a + l ≤ b → a / l < b / l
lots-fall l a b p h = (le-div_iff_mul-le p).1 (let q = div-mul-le_self a l in omega arith)

pub lots-keep : (l a b : ℕ) → 0 < l → a ≤ b → a / l ≤ b / l
lots-keep l a b p h = (le-div_iff_mul-le p).1 (let q = div-mul-le_self a l in omega arith)
