-- Tables with two places for each trader. Assumes nothing.
use Rattle.std.proofs.Common.{◌≡◌, ℕ, zero, suc, ◌+◌, ◌*◌, ◌<◌, ◌≤◌, ◌%◌, Bool, true, false, cond, eqb, List, ◌∷◌, length, get_or, Option, refl, ap, sym, subst, ◌∙◌, ◌≢◌, ⊎_elim, arith}
use Rattle.std.proofs.lemmas.List.{same_lists}
use Rattle.std.proofs.lemmas.Bool.{cases_eq, eqb-true, eqb-false}
use Rattle.std.specs.Array.{IsFromFnResultFrom}
use Rattle.std.specs.Fn.{Called}
use denote.Param.Members.{Mut}
use Rattle.market.specs.declared.order.Side.{Side}
use Rattle.market.specs.declared.order.Side.TheVariants.{Bid, Offer}
use Rattle.rules.specs.Board.{seat, rows, table}
use Rattle.board.specs.Seats.{trader_at, side_at}

-- a trader's place is two past that of the trader before
seat-suc : (t : ℕ) (s : Side) → seat (suc t) s ≡ suc (suc (seat t s))
seat-suc t Bid = omega arith
seat-suc t Offer = omega arith

seat_below : (t : ℕ) (s : Side) (n : ℕ) → seat t s < 2 * n → t < n
seat_below t Bid n l = omega (arith, l)
seat_below t Offer n l = omega (arith, l)

-- the seat with that number
seated : (i : ℕ) → i < 258 → seat (trader_at i) (side_at i) ≡ i
seated i l = go (eqb (i % 2) 0) refl
  where
    go : (b : Bool) → eqb (i % 2) 0 ≡ b → seat (trader_at i) (cond b Bid Offer) ≡ i
    go true e = let z = eqb-true (i % 2) 0 e in omega (arith, l, z)
    go false e = let z : i % 2 ≢ 0 = eqb-false (i % 2) 0 e in omega (arith, l, z)

module _ {X : Type 0} (f : ℕ → Side → Option X) where
  rows-length : (t k : ℕ) → length (rows t k f) ≡ 2 * k
  unfolding rows
  rows-length t zero = refl
  rows-length t (suc k) = let h = rows-length (t + 1) k in omega (arith, h)

  -- what stands in the place of the trader who is j after t
  row_at : (t k j : ℕ) (s : Side) (d : Option X) → j < k → get_or (rows t k f) (seat j s) d ≡ f (t + j) s
  unfolding rows
  row_at t zero j s d l = absurd (omega (arith, l))
  row_at t (suc k) zero Bid d l = let e : t ≡ t + 0 = omega arith in ap (λ n. f n Bid) e
  row_at t (suc k) zero Offer d l = let e : t ≡ t + 0 = omega arith in ap (λ n. f n Offer) e
  row_at t (suc k) (suc j) s d l =
      let e : t + 1 + j ≡ t + suc j = omega arith in
      ap (λ i. get_or (f t Bid ∷ f t Offer ∷ rows (t + 1) k f) i d) (seat-suc j s) ∙
      row_at (t + 1) k j s d (omega (arith, l)) ∙ ap (λ n. f n s) e

  -- a table of which each place holds what f says of its seat is f's table
  pub tabled : (xs : List (Option X)) → length xs ≡ 258 →
      ((i : ℕ) (d : Option X) → i < 258 → get_or xs i d ≡ f (trader_at i) (side_at i)) → xs ≡ table f
  tabled xs n h =
      same_lists xs (table f) (omega (arith, n, rows-length 0 129)) (λ i d l.
      let e = seated i (omega (arith, n, l)) in
      let zero_more : 0 + trader_at i ≡ trader_at i = omega arith in
      let b : trader_at i < 129 = seat_below (trader_at i) (side_at i) 129 (omega (arith, e, n, l)) in
      h i d (omega (arith, n, l)) ∙ sym (ap (λ j. get_or (table f) j d) (sym e) ∙ row_at 0 129 (trader_at i) (side_at i) d b ∙ ap (λ t. f t (side_at i)) zero_more))

-- each item that `array::from_fn` makes is as R says, if a call leaves the closure as it is and gives what R says
pub made_of : {F B : Type 0} (g : Mut F (ℕ × Unit {0}) B) (f : F) (R : ℕ → B → Type 0) (ys : List B) (i n : ℕ) →
    ((x : ℕ) (r : B) (q : F) → Called g f (x, tt) r q → (q ≡ f) × R x r) → IsFromFnResultFrom g f ys i n →
    (k : ℕ) (d : B) → i ≤ k → k < i + n → R k (get_or ys k d)
made_of g f R ys i zero call from k d l m = absurd (omega (arith, l, m))
made_of g f R ys i (suc n) call from k d l m =
    let said = call i from.1 from.0 from.3 in
    ⊎_elim
    (λ e. subst (λ j. R j (get_or ys j d)) (sym e) (subst (R i) (sym (from.2.1 d)) said.1))
    (λ e. made_of g f R ys (i + 1) n call (subst (λ h. IsFromFnResultFrom g h ys (i + 1) n) said.0 from.4) k d (omega (arith, l, e))
    (omega (arith, m)))
    (cases_eq k i)
