use Rattle.wire_in.proofs.Exact.{read_back, one-meaning, nothing-else}
use Rattle.wire_in.proofs.laws.calls_are_exact.Goals as goal

pub returns : goal.returns
returns c = record { read_back = read_back; one_meaning = one-meaning; nothing_else = nothing-else }
