use Rattle.std.proofs.Common.{◌≡◌, ℕ, true, drop, ap, ◌∙◌, rules, tests}
use Rattle.std.proofs.lemmas.Iterator.{YieldsList-from_slice}
use Rattle.std.proofs.lemmas.Iterator.Consumers.{count_from_yields_List}
use Rattle.std.proofs.lemmas.Iterator.Search.{YieldsList-from_take_while}
use Rattle.std.proofs.lemmas.List.{take_rest}
use Rattle.std.proofs.lemmas.List.Folds.{length-prefix_len}
use Rattle.std.specs.List.{prefix_len}
use Rattle.plain.specs.Words.{alike}
use Rattle.plain.proofs.word.trim.Goals as goal

pub returns : goal.returns
returns c =
    let text = c.args.text.now in
    let n = c.count-blanks.result in
    let count : n ≡ prefix_len (alike true) text =
    count_from_yields_List c.take_while.result _ c.count-blanks.ensures.ran
    (YieldsList-from_take_while _ (alike true) (YieldsList-from_slice text cc) c.take_while.ensures.closure c.take_while.ensures.done (λ x b q k. search (rules, tests)))
    ∙ length-prefix_len (alike true) text in
    take_rest text n ∙ ap (λ (i : ℕ). drop i text) count
