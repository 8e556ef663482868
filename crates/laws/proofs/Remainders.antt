-- What a fill leaves of two orders does not tell one reserve from another, unless one runs out. Assumes nothing.
use Rattle.std.proofs.Common.{◌≡◌, ℕ, ◌-◌, ◌<◌, min, Bool, true, false, cond, eqb, ◌⊎◌, sym, refl, ap, ◌∙◌, subst, ap₂, inl, inr, arith}
use Rattle.std.proofs.lemmas.Bool.{eqb-true, cases_eq}
use Rattle.market.specs.declared.order.Order.{Order}
use Rattle.rules.specs.Base.{write}
use Rattle.rules.specs.Board.{Board}
use Rattle.rules.specs.Fills.{Remainder, stays, restocks, leaves, drawing, remainder, drawn, size_of, remainder_of, fill_of, filled_board, drawn_from}
use Rattle.rules.specs.Draws.{Step, begins, fills, removes, turns, expires, rests, record_of, board_after, hidden_after}
use Rattle.market.specs.declared.record.Record.TheVariants.{Fill}

-- ---- one order

drawn-drawing : (m : ℕ) → drawn (drawing m) ≡ m
drawn-drawing m = go (eqb m 0) refl
  where
    go : (q : Bool) → eqb m 0 ≡ q → drawn (cond q leaves (restocks m)) ≡ m
    go true e = sym (eqb-true m 0 e)
    go false e = refl

-- a reserve that is not used up was not the smaller
plenty : (shown r : ℕ) → 0 < r - drawn (drawing (min shown r)) → min shown r ≡ shown
plenty shown r h = let e = drawn-drawing (min shown r) in omega arith

same-remainder : (left shown r r' : ℕ) → 0 < r - drawn (remainder left shown r) → 0 < r' - drawn (remainder left shown r') →
    remainder left shown r ≡ remainder left shown r'
unfolding remainder
same-remainder left shown r r' h h' = go (eqb left 0) h h'
  where
    go : (q : Bool) → 0 < r - drawn (cond q (drawing (min shown r)) stays) → 0 < r' - drawn (cond q (drawing (min shown r')) stays) →
        cond q (drawing (min shown r)) stays ≡ cond q (drawing (min shown r')) stays
    go true h h' = ap drawing (plenty shown r h ∙ sym (plenty shown r' h'))
    go false h h' = refl

-- ---- two runs

-- v and v' are what was last written for each order in the two runs: where they agree, so do the reserves, and where not, both are
-- above 0
pub record Near (v v' h h' : ℕ → ℕ) : Type 0 where
  pub agree : (n : ℕ) → v n ≡ v' n → h n ≡ h' n
  pub positive : (n : ℕ) → ¬ (v n ≡ v' n) → (0 < h n) × (0 < h' n)

-- where v and v' differ, the reserves stay above 0
abbrev pub Stocked : (v v' h h' : ℕ → ℕ) → Type 0
Stocked v v' h h' = (n : ℕ) → ¬ (v n ≡ v' n) → (0 < h n) × (0 < h' n)

-- a reserve that is above 0 after both orders of a fill were served was above 0 after each
after_first : (h : ℕ → ℕ) (x y : Order) (f g : Remainder) → 0 < drawn_from (drawn_from h x f) y g x.number → 0 < h x.number - drawn f
unfolding write
after_first h x y f g k = grind arith

after-second : (h : ℕ → ℕ) (x y : Order) (f g : Remainder) → 0 < drawn_from (drawn_from h x f) y g y.number → 0 < h y.number - drawn g
unfolding write
after-second h x y f g k = grind arith

one-remainder : (v v' h h' : ℕ → ℕ) (size : ℕ) (o : Order) → Near v v' h h' →
    (¬ (v o.number ≡ v' o.number) → (0 < h o.number - drawn (remainder_of h size o)) × (0 < h' o.number - drawn (remainder_of h' size o))) →
    remainder_of h size o ≡ remainder_of h' size o
unfolding remainder_of
one-remainder v v' h h' size o near k = go (cases_eq (v o.number) (v' o.number))
  where
    left : ℕ
    left = o.displayed - size

    go : (v o.number ≡ v' o.number) ⊎ (v o.number ≡ v' o.number → ⊥) →
        remainder left o.shown (h o.number) ≡ remainder left o.shown (h' o.number)
    go (inl e) = ap (remainder left o.shown) (near.agree o.number e)
    go (inr d) = let p = k d in same-remainder left o.shown (h o.number) (h' o.number) p.0 p.1

written-agrees : (v v' h h' : ℕ → ℕ) (k r r' : ℕ) → ((n : ℕ) → v n ≡ v' n → h n ≡ h' n) → (v k ≡ v' k → r ≡ r') →
    (n : ℕ) → v n ≡ v' n → write k r h n ≡ write k r' h' n
unfolding write
written-agrees v v' h h' k r r' a e n same = go (eqb n k) refl
  where
    go : (q : Bool) → eqb n k ≡ q → cond q r (h n) ≡ cond q r' (h' n)
    go true q = e (subst (λ (m : ℕ). v m ≡ v' m) (eqb-true n k q) same)
    go false q = a n same

-- the step of a draw, from one board and two states of the reserves
pub record Same (v v' h h' : ℕ → ℕ) (b : Board) (d : Step) : Type 0 where
  pub told : record_of h b d ≡ record_of h' b d
  pub board : board_after h b d ≡ board_after h' b d
  pub agree : (n : ℕ) → v n ≡ v' n → hidden_after h d n ≡ hidden_after h' d n

pub same_step : (v v' h h' : ℕ → ℕ) (b : Board) (d : Step) → Near v v' h h' → Stocked v v' (hidden_after h d) (hidden_after h' d) → Same v v' h h' b d
unfolding record_of board_after hidden_after
same_step v v' h h' b (begins t p) near k = record { told = refl; board = refl; agree = near.agree }
same_step v v' h h' b (fills x y) near k =
    let z = size_of x y in
    let f = remainder_of h z x in
    let f' = remainder_of h' z x in
    let g = remainder_of h z y in
    let g' = remainder_of h' z y in
    let e : f ≡ f' =
    one-remainder v v' h h' z x near
    (λ d. let p = k x.number d in (after_first h x y f g p.0, after_first h' x y f' g' p.1)) in
    let i : g ≡ g' =
    one-remainder v v' h h' z y near
    (λ d. let p = k y.number d in (after-second h x y f g p.0, after-second h' x y f' g' p.1)) in
    let first : (n : ℕ) → v n ≡ v' n → drawn_from h x f n ≡ drawn_from h' x f' n =
    written-agrees v v' h h' x.number (h x.number - drawn f) (h' x.number - drawn f') near.agree
    (λ same. ap₂ (λ r q. r - drawn q) (near.agree x.number same) e) in
    record {
      told = ap₂ (λ r q. Fill b.clock.time (fill_of b x y z r q)) e i;
      board = ap₂ (filled_board b x y z) e i;
      agree = written-agrees v v' (drawn_from h x f) (drawn_from h' x f') y.number (drawn_from h x f y.number - drawn g)
          (drawn_from h' x f' y.number - drawn g') first (λ same. ap₂ (λ r q. r - drawn q) (first y.number same) i);
    }
same_step v v' h h' b (removes o why) near k = record { told = refl; board = refl; agree = near.agree }
same_step v v' h h' b (turns t) near k = record { told = refl; board = refl; agree = near.agree }
same_step v v' h h' b (expires o t) near k = record { told = refl; board = refl; agree = near.agree }
same_step v v' h h' b rests near k = record { told = refl; board = refl; agree = near.agree }
