-- Numbers that ascend along a list of orders. Assumes nothing.
use Rattle.std.specs.Prelude.{◌≡◌, ℕ, suc, ◌≤◌, List, [], ◌∷◌, Some, None, Option}
use Rattle.market.specs.declared.order.Order.{Order}

-- from k on, below m
abbrev pub Ascends : ℕ → ℕ → List Order → Type 0
Ascends k m [] = k ≤ m
Ascends k m (o ∷ os) = (k ≤ o.number) × Ascends (suc o.number) m os

-- what takes the place of order n, if anything, has its number
abbrev pub Keeps : ℕ → Option Order → Type 0
Keeps n None = Unit {0}
Keeps n (Some o) = o.number ≡ n
