use Rattle.std.proofs.Common.{rules}
use Rattle.heap_row.specs.Fits.{length-sorted}
use Rattle.heap_row.proofs.heap_row.HeapRowLine.count.Goals as goal

pub returns : goal.returns
returns g c = search (rules, length-sorted)
