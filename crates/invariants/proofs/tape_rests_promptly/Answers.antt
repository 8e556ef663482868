use Rattle.invariants.proofs.Prompts.{prompt}
use Rattle.invariants.proofs.tape_rests_promptly.Goals as goal

pub returns : goal.returns
returns c = prompt
