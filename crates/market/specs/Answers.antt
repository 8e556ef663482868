-- The one outcome of a call. Assumes nothing.
use Rattle.std.specs.Prelude.{Result}
use Rattle.market.specs.declared.refusal.Refusal.{Refusal}
use Rattle.market.specs.declared.answer.Accepted.{Accepted}

-- what an accepted call brought, or why the call was refused
abbrev pub Answer : Type 0
Answer = Result Accepted Refusal
