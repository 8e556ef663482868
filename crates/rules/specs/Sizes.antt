-- How much stands in a book. Assumes nothing.
use Rattle.std.specs.Prelude.{ℕ, ◌+◌, List, [], ◌∷◌}
use Rattle.market.specs.declared.order.Order.{Order}

-- the displayed sizes of orders, and their reserves, told by number
abbrev pub sizes : (ℕ → ℕ) → List Order → ℕ
sizes h [] = 0
sizes h (o ∷ os) = (o.displayed + h o.number) + sizes h os
