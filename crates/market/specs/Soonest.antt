-- The ranks of one side are in a total order. Assumes nothing.
use Rattle.std.proofs.Common.{◌≡◌, ℕ, Bool, true, false, ℤ, cond, eqb, ltb, nat_lt, sym, refl, ap, ◌∙◌, arith}
use Rattle.std.proofs.lemmas.Bool.Decides.{nat_tests}
use Rattle.std.proofs.lemmas.Int.{ints}
use Rattle.line.specs.Order.{Order, lower, lower_z}
use Rattle.line.proofs.Orders.{lower_z-on, lower_z-back}
use Rattle.market.specs.Ranks.{class_number, place, earlier, lower_on, rank_ahead, sooner}
use Rattle.market.specs.declared.order.Side.{Side}
use Rattle.market.specs.declared.order.Side.TheVariants.{Bid, Offer}
use Rattle.market.specs.declared.standing.Standing.{Standing}
use Rattle.market.specs.declared.standing.Standing.TheVariants.{Last, First, Second, Plain}
use Rattle.market.specs.declared.rank.Rank.{Rank}

-- ---- one part

pub lower-self : (a : ℕ) (r : Bool) → r ≡ false → lower a a r ≡ false
lower-self a r h = grind (arith, nat_tests)

pub lower_z-self : (a : ℤ) (r : Bool) → r ≡ false → lower_z a a r ≡ false
lower_z-self a r h = grind (arith, ints)

-- what neither leads is equal, and so is the rest
pub lower-even : (a b : ℕ) (r s : Bool) → lower a b r ≡ false → lower b a s ≡ false → (a ≡ b) × (r ≡ false) × (s ≡ false)
lower-even a b r s h k = (grind (arith, nat_tests), grind (arith, nat_tests), grind (arith, nat_tests))

pub lower_z-even : (a b : ℤ) (r s : Bool) → lower_z a b r ≡ false → lower_z b a s ≡ false → (a ≡ b) × (r ≡ false) × (s ≡ false)
lower_z-even a b r s h k = (grind (arith, ints), grind (arith, ints), grind (arith, ints))

pub number-even : (n m : ℕ) → nat_lt n m ≡ false → nat_lt m n ≡ false → n ≡ m
number-even n m h k = grind (arith, nat_tests)

pub number-self : (n : ℕ) → nat_lt n n ≡ false
number-self n = grind (arith, nat_tests)

pub number-on : (n m k : ℕ) → nat_lt n m ≡ true → nat_lt m k ≡ true → nat_lt n k ≡ true
number-on n m k h j = grind (arith, nat_tests)

-- ---- by class, place and number

-- in class 2 the higher place goes first
placed : ℕ → ℕ → ℕ → ℕ → ℕ → ℕ → Bool
placed c p n d q m = lower c d (cond (eqb c 2) (lower q p (ltb n m)) (lower p q (ltb n m)))

placed-self : (c p n : ℕ) → placed c p n c p n ≡ false
unfolding placed
placed-self c p n = grind (arith, nat_tests)

placed-even : (c p n d q m : ℕ) → placed c p n d q m ≡ false → placed d q m c p n ≡ false → (c ≡ d) × (p ≡ q) × (n ≡ m)
unfolding placed
placed-even c p n d q m h k = (grind (arith, nat_tests), grind (arith, nat_tests), grind (arith, nat_tests))

placed-on : (c p n d q m e r k : ℕ) → placed c p n d q m ≡ true → placed d q m e r k ≡ true → placed c p n e r k ≡ true
unfolding placed
placed-on c p n d q m e r k h j = grind (arith, nat_tests)

sooner-placed : {P : Type 0} (a b : Rank P) →
    sooner a b ≡ placed (class_number a.standing) (place a.standing) a.number (class_number b.standing) (place b.standing) b.number
unfolding sooner placed
sooner-placed a b = ap (lower (class_number a.standing) (class_number b.standing)) (go a.standing)
  where
    go : (s : Standing) → earlier s b.standing (ltb a.number b.number) ≡
        cond (eqb (class_number s) 2) (lower (place b.standing) (place s) (ltb a.number b.number)) (lower (place s) (place b.standing) (ltb a.number b.number))
    go (Last p) = refl
    go (First p) = refl
    go (Second p) = refl
    go (Plain p) = refl

-- ---- class and place are the standing

standing_at : ℕ → ℕ → Standing
standing_at c p = cond (eqb c 0) (Last p) (cond (eqb c 1) (First p) (cond (eqb c 2) (Second (record { 0 = p })) (Plain p)))

standing-at : (s : Standing) → standing_at (class_number s) (place s) ≡ s
unfolding standing_at
standing-at (Last p) = refl
standing-at (First p) = refl
standing-at (Second p) = refl
standing-at (Plain p) = refl

same_standing : (s t : Standing) → class_number s ≡ class_number t → place s ≡ place t → s ≡ t
same_standing s t c p = sym (standing-at s) ∙ (λ i. standing_at (c i) (p i)) ∙ standing-at t

-- ---- ranks at one price

pub sooner-self : {P : Type 0} (a : Rank P) → sooner a a ≡ false
sooner-self a = sooner-placed a a ∙ placed-self _ _ _

pub sooner-even : {P : Type 0} (a b : Rank P) → sooner a b ≡ false → sooner b a ≡ false → a.price ≡ b.price → a ≡ b
sooner-even a b h k e =
    let d = placed-even _ _ _ _ _ _ (sym (sooner-placed a b) ∙ h) (sym (sooner-placed b a) ∙ k) in
    let s = same_standing a.standing b.standing d.0 d.1 in λ i. record { price = e i; standing = s i; number = d.2 i }

pub sooner-on : {P : Type 0} (a b c : Rank P) → sooner a b ≡ true → sooner b c ≡ true → sooner a c ≡ true
sooner-on a b c h k =
    sooner-placed a c ∙
    placed-on _ _ _ (class_number b.standing) (place b.standing) b.number _ _ _ (sym (sooner-placed a b) ∙ h)
    (sym (sooner-placed b c) ∙ k)

-- ---- prices

price-self : (side : Side) (p : ℤ) (r : Bool) → r ≡ false → lower_on side p p r ≡ false
price-self Bid p r h = lower_z-self p r h
price-self Offer p r h = lower_z-self p r h

price-even : (side : Side) (p q : ℤ) (r s : Bool) → lower_on side p q r ≡ false → lower_on side q p s ≡ false →
    (p ≡ q) × (r ≡ false) × (s ≡ false)
price-even Bid p q r s h k = let e = lower_z-even q p r s h k in (sym e.0, e.1, e.2)
price-even Offer p q r s h k = lower_z-even p q r s h k

price-on : (side : Side) (p q k : ℤ) {r s t : Bool} → (r ≡ true → s ≡ true → t ≡ true) → lower_on side p q r ≡ true → lower_on side q k s ≡ true → lower_on side p k t ≡ true
price-on Bid p q k on = lower_z-back on p q k
price-on Offer p q k on = lower_z-on on p q k

-- ---- ranks whose prices are numbers of ticks

module _ {P : Type 0} (side : Side) (of : ℤ → P) (ticks : P → ℤ) (whole : (p : P) → of (ticks p) ≡ p) where
  ranks-self : (x : Rank P) → rank_ahead side ticks x x ≡ false
  ranks-self x = price-self side (ticks x.price) _ (sooner-self x)

  ranks-even : (x y : Rank P) → rank_ahead side ticks x y ≡ false → rank_ahead side ticks y x ≡ false → x ≡ y
  ranks-even x y h k =
      let e = price-even side (ticks x.price) (ticks y.price) _ _ h k in
      sooner-even x y e.1 e.2 (sym (whole x.price) ∙ ap of e.0 ∙ whole y.price)

  ranks-on : (x y z : Rank P) → rank_ahead side ticks x y ≡ true → rank_ahead side ticks y z ≡ true → rank_ahead side ticks x z ≡ true
  ranks-on x y z = price-on side (ticks x.price) (ticks y.price) (ticks z.price) (sooner-on x y z)

  pub ranks-ordered : Order (rank_ahead side ticks)
  ranks-ordered = record { irreflexive = ranks-self; total = ranks-even; transitive = ranks-on }
