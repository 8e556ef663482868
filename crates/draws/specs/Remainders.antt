-- What a remainder is in the rules, and the reserve that it leaves. Assumes nothing.
use Rattle.std.specs.Prelude.{ℕ, ◌-◌, Some, None, Option}
use Rattle.rules.specs.Fills.{Remainder as Rule, stays, restocks, leaves}
use Rattle.draws.specs.declared.remainder.Remainder.{Remainder}
use Rattle.draws.specs.declared.remainder.Remainder.TheVariants.{Stays, Restocks, Leaves}

abbrev pub meant : Remainder → Rule
meant Stays = stays
meant (Restocks m) = restocks m
meant Leaves = leaves

-- the reserve of an order that is still live
abbrev pub reserve_after : Rule → ℕ → Option ℕ
reserve_after stays r = Some r
reserve_after (restocks m) r = Some (r - m)
reserve_after leaves r = None
