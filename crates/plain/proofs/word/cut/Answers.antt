use Rattle.std.proofs.Common.{◌≡◌, ℕ, false, take, drop, ap, ◌∙◌, rules, tests}
use Rattle.std.proofs.lemmas.Iterator.{YieldsList-from_slice}
use Rattle.std.proofs.lemmas.Iterator.Consumers.{count_from_yields_List}
use Rattle.std.proofs.lemmas.Iterator.Search.{YieldsList-from_take_while}
use Rattle.std.proofs.lemmas.List.Folds.{length-prefix_len}
use Rattle.std.specs.List.{prefix_len}
use Rattle.plain.specs.Words.{alike, trimmed}
use Rattle.plain.proofs.word.cut.Goals as goal

pub returns : goal.returns
returns c =
    let all = c.args.text.now in
    let text = c.trim-text.result.now in
    let n = c.count-end.result in
    let count : n ≡ prefix_len (alike false) text =
    count_from_yields_List c.take_while.result _ c.count-end.ensures.ran
    (YieldsList-from_take_while _ (alike false) (YieldsList-from_slice text cc) c.take_while.ensures.closure c.take_while.ensures.done (λ x b q k. search (rules, tests)))
    ∙ length-prefix_len (alike false) text in
    let end : n ≡ prefix_len (alike false) (trimmed all) = count ∙ ap (prefix_len (alike false)) c.trim-text.ensures in
    record {
      first = c.split_at.ensures.front ∙ ap (take n) c.trim-text.ensures ∙ ap (λ (i : ℕ). take i (trimmed all)) end;
      rest = c.split_at.ensures.back ∙ ap (drop n) c.trim-text.ensures ∙ ap (λ (i : ℕ). drop i (trimmed all)) end;
    }
