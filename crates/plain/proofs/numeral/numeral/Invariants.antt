use Rattle.std.proofs.Common.{◌≡◌, ◌≤◌, true, take}
use Rattle.plain.specs.Numerals.{digits, value}
use Rattle.plain.proofs.numeral.numeral.Given as goal

abbrev pub invariant-loop-byte : goal.invariant-loop-byte
invariant-loop-byte l =
    (digits (take l.byte-index l.word) ≡ true) × (l.n ≡ value (take l.byte-index l.word)) × (l.n ≤ l.most)
