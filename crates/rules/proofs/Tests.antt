-- What tests of prices, sides and options tell. Assumes nothing.
use Rattle.std.proofs.Common.{◌≡◌, ℕ, true, false, ℤ, pos, negsuc, Some, None, Option, refl, ap, arith}
use Rattle.std.proofs.lemmas.Bool.{true≢false, false≢true, both_ways, eqb-true, eq-eqb}
use Rattle.market.specs.declared.order.Side.{Side}
use Rattle.market.specs.declared.order.Side.TheVariants.{Bid, Offer}
use Rattle.rules.specs.Base.{eq_z, is_some, names}
use Rattle.rules.specs.Board.{same, other}

-- ---- prices

pub eq_z-true : (a b : ℤ) → eq_z a b ≡ true → a ≡ b
eq_z-true (pos a) (pos b) t = ap pos (eqb-true a b t)
eq_z-true (pos a) (negsuc b) t = absurd (false≢true t)
eq_z-true (negsuc a) (pos b) t = absurd (false≢true t)
eq_z-true (negsuc a) (negsuc b) t = ap negsuc (eqb-true a b t)

eq_z-self : (a : ℤ) → eq_z a a ≡ true
eq_z-self (pos a) = eq-eqb a a refl
eq_z-self (negsuc a) = eq-eqb a a refl

pub eq-eq_z : (a b : ℤ) → a ≡ b → eq_z a b ≡ true
eq-eq_z a b e = rw e (eq_z-self b)

pub eq_z-false : (a b : ℤ) → eq_z a b ≡ false → a ≡ b → ⊥
eq_z-false a b f e = both_ways (eq_z a b) f (eq-eq_z a b e)

-- ---- sides

pub same_true : (s t : Side) → same s t ≡ true → t ≡ s
same_true Bid Bid h = refl
same_true Bid Offer h = absurd (false≢true h)
same_true Offer Bid h = absurd (false≢true h)
same_true Offer Offer h = refl

same_self : (s : Side) → same s s ≡ true
same_self Bid = refl
same_self Offer = refl

pub eq-same : (s t : Side) → t ≡ s → same s t ≡ true
eq-same s t e = rw e (same_self s)

pub same_false : (s t : Side) → same s t ≡ false → s ≡ other t
same_false Bid Bid h = absurd (true≢false h)
same_false Bid Offer h = refl
same_false Offer Bid h = refl
same_false Offer Offer h = absurd (true≢false h)

same-other : (s : Side) → same (other s) s ≡ false
same-other Bid = refl
same-other Offer = refl

pub ne_same : (s t : Side) → s ≡ other t → same s t ≡ false
ne_same s t e = rw e (same-other t)

-- ---- options

pub names-true : (m : Option ℕ) (n : ℕ) → names m n ≡ true → m ≡ Some n
names-true None n h = absurd (false≢true h)
names-true (Some m) n h = ap (λ (k : ℕ). Some k) (eqb-true m n h)

module _ {A : Type 0} where
  pub some_inj : {x y : A} → Some x ≡ Some y → x ≡ y
  some_inj {x} {y} e = cc

  pub none≢some : {x : A} → None ≡ Some x → ⊥
  none≢some {x} e = let z : ◌≡◌ {A = ℕ} 0 1 = cc in omega arith

  pub is-some : (r : Option A) → is_some r ≡ true → (x : A) × (r ≡ Some x)
  is-some None h = absurd (false≢true h)
  is-some (Some x) h = (x, refl)
