-- Who carries a privilege. Assumes nothing.
use Rattle.std.specs.Prelude.{ℕ, Bool, false, ◌==◌}
use Rattle.market.specs.declared.state.Carrier.{Carrier}
use Rattle.market.specs.declared.state.Carrier.TheVariants.{Free, Order as By, Gone}

-- the order with that number carries it
abbrev pub is_by : ℕ → Carrier → Bool
is_by n Free = false
is_by n (By m) = m == n
is_by n Gone = false
