-- Where an order stands, and the orders and reserves after something is put there. Assumes nothing.
use Rattle.std.proofs.Common.{◌≡◌, ℕ, suc, ◌+◌, ◌<◌, Bool, true, false, cond, eqb, List, [], ◌∷◌, Some, None, Option, sym, refl, ap, ◌∙◌, add-one, arith}
use Rattle.std.proofs.lemmas.Bool.{eqb-true, eqb-false, ne_eqb, cond_both}
use Rattle.market.specs.declared.order.Order.{Order}
use Rattle.rules.specs.Base.{each, write}
use Rattle.rules.specs.Board.{numbered}
use Rattle.rules.specs.Fills.{replacing, replace}
use Rattle.rules.specs.Rising.{Ascends, Keeps}
use Rattle.rules.proofs.Rows.{write-here, write-there}
use Rattle.std.specs.List.{position_from}
use Rattle.board.specs.Positions.{position_of}
use Rattle.board.specs.Rows.{put_at}

-- ---- positions

abbrev pub next : Option ℕ → Option ℕ
next None = None
next (Some i) = Some (suc i)

further : (i n : ℕ) (os : List Order) → position_from (numbered n) (i + 1) os ≡ next (position_from (numbered n) i os)
further i n [] = refl
further i n (o ∷ os) = go (numbered n o) (further (i + 1) n os)
  where
    go : (b : Bool) → position_from (numbered n) (i + 1 + 1) os ≡ next (position_from (numbered n) (i + 1) os) →
        cond b (Some (i + 1)) (position_from (numbered n) (i + 1 + 1) os) ≡ next (cond b (Some i) (position_from (numbered n) (i + 1) os))
    go true e = ap (λ j. Some j) (add-one i)
    go false e = e

-- where order n stands, one step at a time
abbrev pub row_of : ℕ → List Order → Option ℕ
row_of n [] = None
row_of n (o ∷ os) = cond (numbered n o) (Some 0) (next (row_of n os))

pub position-row : (n : ℕ) (os : List Order) → position_of n os ≡ row_of n os
position-row n [] = refl
position-row n (o ∷ os) = ap (λ r. cond (numbered n o) (Some 0) r) (further 0 n os ∙ ap next (position-row n os))

-- ---- what is put in a row

put_next : {A : Type 0} (s : Option ℕ) (r : Option A) (x : A) (xs : List A) → put_at (next s) r (x ∷ xs) ≡ x ∷ put_at s r xs
put_next None r x xs = refl
put_next (Some i) None x xs = refl
put_next (Some i) (Some y) x xs = refl

-- where numbers begin above n there is no order n
beyond : (n : ℕ) (r : Option Order) (k m : ℕ) (os : List Order) → n < k → Ascends k m os → replace n r os ≡ os
unfolding replace
beyond n r k m [] h a = refl
beyond n r k m (o ∷ os) h a =
    let e : numbered n o ≡ false = ne_eqb o.number n (λ q. omega (arith, a.0)) in
    ap (λ b. replacing b r o (replace n r os)) e ∙ ap (λ xs. o ∷ xs) (beyond n r (suc o.number) m os (omega (arith, a.0)) a.1)

-- numbers ascend past the order with that number
past : (n m : ℕ) (o : Order) (os : List Order) → numbered n o ≡ true → n < suc o.number
past n m o os e = omega (arith, eqb-true o.number n e)

put-row : (n : ℕ) (r : Option Order) (k m : ℕ) (os : List Order) → Ascends k m os → put_at (row_of n os) r os ≡ replace n r os
unfolding replace
put-row n r k m [] a = refl
put-row n r k m (o ∷ os) a = go r (put-row n r (suc o.number) m os a.1) (numbered n o) refl
  where
    go : (r : Option Order) → put_at (row_of n os) r os ≡ replace n r os → (b : Bool) → numbered n o ≡ b →
        put_at (cond b (Some 0) (next (row_of n os))) r (o ∷ os) ≡ replacing b r o (replace n r os)
    go None ih true e = sym (beyond n None (suc o.number) m os (past n m o os e) a.1)
    go (Some p) ih true e = ap (λ xs. p ∷ xs) (sym (beyond n (Some p) (suc o.number) m os (past n m o os e) a.1))
    go r ih false e = put_next (row_of n os) r o os ∙ ap (λ xs. o ∷ xs) ih

pub put-position : (n : ℕ) (r : Option Order) (k m : ℕ) (os : List Order) → Ascends k m os → put_at (position_of n os) r os ≡ replace n r os
put-position n r k m os a = ap (λ p. put_at p r os) (position-row n os) ∙ put-row n r k m os a

-- ---- reserves

abbrev pub reserve_of : (ℕ → ℕ) → Order → ℕ
reserve_of h o = h o.number

-- an order that stays has a reserve
abbrev pub kept : ℕ → Option Order → Option ℕ
kept v None = None
kept v (Some o) = Some v

module _ (n v : ℕ) (h : ℕ → ℕ) where
  apart : (k m : ℕ) (os : List Order) → n < k → Ascends k m os → each (reserve_of (write n v h)) os ≡ each (reserve_of h) os
  unfolding each
  apart k m [] l a = refl
  apart k m (o ∷ os) l a =
      let e = write-there n v h o.number (λ q. omega (arith, a.0)) in
      let f = apart (suc o.number) m os (omega (arith, a.0)) a.1 in
      cc

  reserves-row : (r : Option Order) (k m : ℕ) (os : List Order) → Keeps n r → Ascends k m os →
      each (reserve_of (write n v h)) (replace n r os) ≡ put_at (row_of n os) (kept v r) (each (reserve_of h) os)
  unfolding replace each
  reserves-row r k m [] f a = refl
  reserves-row r k m (o ∷ os) f a = go r f (reserves-row r (suc o.number) m os f a.1) (numbered n o) refl
    where
      go : (r : Option Order) → Keeps n r → each (reserve_of (write n v h)) (replace n r os) ≡ put_at (row_of n os) (kept v r) (each (reserve_of h) os) → (b : Bool) → numbered n o ≡ b →
          each (reserve_of (write n v h)) (replacing b r o (replace n r os)) ≡ put_at (cond b (Some 0) (next (row_of n os))) (kept v r) (h o.number ∷ each (reserve_of h) os)
      go None f ih true e =
          let l = past n m o os e in
          ap (each (reserve_of (write n v h))) (beyond n None (suc o.number) m os l a.1) ∙ apart (suc o.number) m os l a.1
      go (Some p) f ih true e =
          let l = past n m o os e in
          let x = write-here n v h p.number f in
          let y = ap (each (reserve_of (write n v h))) (beyond n (Some p) (suc o.number) m os l a.1) ∙ apart (suc o.number) m os l a.1 in
          cc
      go r f ih false e =
          let x = write-there n v h o.number (eqb-false o.number n e) in
          let y = put_next (row_of n os) (kept v r) (h o.number) (each (reserve_of h) os) in
          cc

  -- the reserves beside the orders, after order n became r with the reserve v, or went
  pub reserves-put : (r : Option Order) (k m : ℕ) (os : List Order) → Keeps n r → Ascends k m os →
      each (reserve_of (write n v h)) (replace n r os) ≡ put_at (position_of n os) (kept v r) (each (reserve_of h) os)
  reserves-put r k m os f a = reserves-row r k m os f a ∙ ap (λ p. put_at p (kept v r) (each (reserve_of h) os)) (sym (position-row n os))

write_same : (n : ℕ) (h : ℕ → ℕ) (os : List Order) → each (reserve_of (write n (h n) h)) os ≡ each (reserve_of h) os
unfolding each write
write_same n h [] = refl
write_same n h (o ∷ os) =
    let e = cond_both (eqb o.number n) (h n) (h o.number) (λ x. x ≡ h o.number) (λ t. ap h (sym (eqb-true o.number n t))) (λ _. refl) in
    let f = write_same n h os in
    cc

-- the reserves beside the orders, after order n went
pub reserves-less : (n : ℕ) (h : ℕ → ℕ) (k m : ℕ) (os : List Order) → Ascends k m os →
    each (reserve_of h) (replace n None os) ≡ put_at (position_of n os) None (each (reserve_of h) os)
reserves-less n h k m os a = sym (write_same n h (replace n None os)) ∙ reserves-put n (h n) h None k m os tt a
