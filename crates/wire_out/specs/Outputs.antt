-- The message that tells an answer. Assumes nothing.
use Rattle.std.specs.Prelude.{Ok, Err}
use Rattle.market.specs.Answers.{Answer}
use Rattle.market.specs.Refusals.{number_of}
use Rattle.market.specs.declared.answer.Accepted.TheVariants.{Entered, Done, Drawn}
use Rattle.wire_out.specs.declared.output.Output.{Output}
use Rattle.wire_out.specs.declared.output.Output.TheVariants.{Record as Recorded, Reply}

abbrev pub output_of : Answer → Output
output_of (Err refusal) = Reply (number_of refusal) 0
output_of (Ok (Entered order)) = Reply 0 order
output_of (Ok Done) = Reply 0 0
output_of (Ok (Drawn told)) = Recorded told
