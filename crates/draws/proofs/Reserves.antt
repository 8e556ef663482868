-- An order's reserve, in the row of the order. Assumes nothing.
use Rattle.std.proofs.Common.{◌≡◌, ℕ, Bool, true, false, cond, List, [], ◌∷◌, Some, None, Option, refl, sym, ap, ◌∙◌, inl, inr}
use Rattle.std.proofs.lemmas.Bool.{eqb-true, eqb-false}
use Rattle.market.specs.declared.order.Order.{Order}
use Rattle.rules.specs.Base.{each}
use Rattle.rules.specs.Board.{numbered}
use Rattle.rules.specs.Members.{In}
use Rattle.board.specs.Positions.{position_of}
use Rattle.board.proofs.Placed.{next, row_of, position-row, reserve_of}
use Rattle.draws.specs.Rows.{reserve_at}

reserve-next : (s : Option ℕ) (x : ℕ) (xs : List ℕ) → reserve_at (next s) (x ∷ xs) ≡ reserve_at s xs
reserve-next None x xs = refl
reserve-next (Some i) x xs = refl

reserve-row : (h : ℕ → ℕ) (os : List Order) (o : Order) → In o os → reserve_at (row_of o.number os) (each (reserve_of h) os) ≡ h o.number
unfolding each
reserve-row h [] o i = absurd i
reserve-row h (q ∷ qs) o i = go i (reserve-row h qs o) (numbered o.number q) refl
  where
    go : In o (q ∷ qs) → (In o qs → reserve_at (row_of o.number qs) (each (reserve_of h) qs) ≡ h o.number) → (b : Bool) → numbered o.number q ≡ b →
        reserve_at (cond b (Some 0) (next (row_of o.number qs))) (h q.number ∷ each (reserve_of h) qs) ≡ h o.number
    go i ih true e = ap h (eqb-true q.number o.number e)
    go (inl f) ih false e = absurd (eqb-false q.number o.number e (ap (λ (p : Order). p.number) (sym f)))
    go (inr i) ih false e = reserve-next (row_of o.number qs) (h q.number) (each (reserve_of h) qs) ∙ ih i

-- an order's reserve stands in its row
pub reserve-position : (h : ℕ → ℕ) (os : List Order) (o : Order) → In o os → reserve_at (position_of o.number os) (each (reserve_of h) os) ≡ h o.number
reserve-position h os o i = ap (λ p. reserve_at p (each (reserve_of h) os)) (position-row o.number os) ∙ reserve-row h os o i
