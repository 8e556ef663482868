use Rattle.std.proofs.Common.{ℕ, ◌+◌, length, get_or, Some, sym, ap, ◌∙◌, arith}
use Rattle.std.proofs.lemmas.List.{take_all}
use Rattle.std.proofs.lemmas.Bool.{eqb-false}
use Rattle.plain.specs.Numerals.{digits, value}
use Rattle.plain.proofs.Digits.{value-more, digits_more, no_digit, too_large, all_read, digit-yes, digit-no}
use Rattle.plain.proofs.numeral.numeral.Goals as goal

pub loop-byte-preserved : goal.loop-byte-preserved
loop-byte-preserved c =
    let word = c.args.word.now in
    let i = c.loop-byte.byte-index in
    let d = digit-yes (get_or word i 0) c.in_ok-digit.field-0 c.in_ok-digit.ensures in
    let more = value-more word i c.loop-byte-test.true in
    (digits_more word i c.loop-byte-test.true c.loop-byte.invariant.0 d.0, omega arith, omega arith)

pub returns-in_err-digit-clause-value : goal.returns-in_err-digit-clause-value
returns-in_err-digit-clause-value c =
    let word = c.args.word.now in
    let i = c.loop-byte.byte-index in
    c.from_residual.ensures ∙ no_digit word i c.loop-byte-test.true c.args.most (digit-no (get_or word i 0) c.in_err-digit.ensures)

pub returns-then-from-n-clause-value : goal.returns-then-from-n-clause-value
returns-then-from-n-clause-value c =
    let word = c.args.word.now in
    let i = c.loop-byte.byte-index in
    let d = digit-yes (get_or word i 0) c.in_ok-digit.field-0 c.in_ok-digit.ensures in
    too_large word (i + 1) c.args.most (omega (arith, value-more word i c.loop-byte-test.true))

pub returns-clause-value : goal.returns-clause-value
returns-clause-value c =
    let word = c.args.word.now in
    let all = take_all c.loop-byte.byte-index word c.loop-byte-test.false in
    let n = c.loop-byte.invariant.1 ∙ ap value all in
    let some = eqb-false (length word) 0 (sym c.if-is_empty.ensures) in
    ap (λ (v : ℕ). Some v) n
    ∙ all_read word c.args.most (omega arith) (sym (ap digits all) ∙ c.loop-byte.invariant.0) (omega arith)
