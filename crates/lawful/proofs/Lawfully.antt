-- The answers that the rules define keep the three laws. Assumes nothing.
use Rattle.std.proofs.Common.{◌≡◌, ℕ, suc, List, [], ◌∷◌, ◌++◌, length, drop, Ok, sym, refl, ap, ◌∙◌, subst, arith}
use Rattle.market.specs.Answers.{Answer}
use Rattle.market.specs.declared.call.Call.{Call}
use Rattle.market.specs.declared.call.Call.TheVariants.{Draw}
use Rattle.market.specs.declared.answer.Accepted.TheVariants.{Drawn}
use Rattle.rules.specs.Board.{Opening, State}
use Rattle.rules.specs.Calls.{step, run, answers, opened}
use Rattle.laws.specs.Hidden.{Lesson, learned}
use Rattle.laws.proofs.Fairly.{fair}
use Rattle.laws.proofs.Hiding.{hidden}
use Rattle.invariants.specs.Prompt.{PromptRun}
use Rattle.invariants.proofs.Prompts.{prompt}
use Rattle.lawful.specs.Lawful.{FairRun, lesson, lessons, HiddenRun, Lawful}

-- ---- runs in two parts

pub run-append : (k : Opening) (S : State) (cs ds : List Call) → run k S (cs ++ ds) ≡ run k (run k S cs) ds
unfolding run
run-append k S [] ds = refl
run-append k S (c ∷ cs) ds = run-append k (step k S c).1 cs ds

pub answers-append : (k : Opening) (S : State) (cs ds : List Call) → answers k S (cs ++ ds) ≡ answers k S cs ++ answers k (run k S cs) ds
unfolding run answers
answers-append k S [] ds = refl
answers-append k S (c ∷ cs) ds = ap (λ (xs : List Answer). (step k S c).0 ∷ xs) (answers-append k (step k S c).1 cs ds)

pub answers-length : (k : Opening) (S : State) (cs : List Call) → length (answers k S cs) ≡ length cs
unfolding answers
answers-length k S [] = refl
answers-length k S (c ∷ cs) = ap suc (answers-length k (step k S c).1 cs)

learned-append : (t : ℕ) (k : Opening) (S : State) (cs ds : List Call) → drop (length cs) (learned t k S (cs ++ ds)) ≡ learned t k (run k S cs) ds
unfolding run learned
learned-append t k S [] ds = refl
learned-append t k S (c ∷ cs) ds = learned-append t k (step k S c).1 cs ds

-- ---- fair

-- two lists that are equal behind fronts of one length
behind : (xs ys : List Answer) (x y : Answer) (xs' ys' : List Answer) → xs ++ (x ∷ xs') ≡ ys ++ (y ∷ ys') → length xs ≡ length ys → x ≡ y
behind [] [] x y xs' ys' e l = cc
behind [] (b ∷ ys) x y xs' ys' e l = absurd (omega (arith, l))
behind (a ∷ xs) [] x y xs' ys' e l = absurd (omega (arith, l))
behind (a ∷ xs) (b ∷ ys) x y xs' ys' e l =
    let rest : xs ++ (x ∷ xs') ≡ ys ++ (y ∷ ys') = cc in
    let less : length xs ≡ length ys = omega (arith, l) in
    behind xs ys x y xs' ys' rest less

fairly : (k : Opening) (earlier calls : List Call) → FairRun k earlier calls (answers k (run k opened earlier) calls)
unfolding answers
fairly k earlier calls before after told_before told_after r is told same =
    let S = run k opened earlier in
    let split : answers k S calls ≡ answers k S before ++ ((step k (run k S before) Draw).0 ∷ answers k (step k (run k S before) Draw).1 after) =
    ap (answers k S) is ∙ answers-append k S before (Draw ∷ after) in
    let here : Ok (Drawn r) ≡ (step k (run k S before) Draw).0 =
    behind told_before (answers k S before) (Ok (Drawn r)) (step k (run k S before) Draw).0 told_after _ (sym told ∙ split) (same ∙ sym (answers-length k S before)) in
    let there : (step k (run k opened (earlier ++ before)) Draw).0 ≡ Ok (Drawn r) =
    ap (λ (X : State). (step k X Draw).0) (run-append k opened earlier before) ∙ sym here in
    fair k (earlier ++ before) r there

-- ---- hidden

lessons-learned : (t : ℕ) (k : Opening) (S : State) (cs : List Call) → lessons t k S cs (answers k S cs) ≡ learned t k S cs
unfolding answers learned
lessons-learned t k S [] = refl
lessons-learned t k S (c ∷ cs) = ap (λ (ls : List Lesson). lesson t c (step k S c).0 (step k S c).1 ∷ ls) (lessons-learned t k (step k S c).1 cs)

hiddenly : (k : Opening) (earlier calls : List Call) → HiddenRun k earlier calls (answers k (run k opened earlier) calls)
hiddenly k earlier calls k' t instead alike each kept =
    lessons-learned t k (run k opened earlier) calls ∙ sym (learned-append t k opened earlier calls) ∙
    ap (drop (length earlier)) (hidden k k' t (earlier ++ calls) instead alike each kept)

-- ---- all three

pub lawful : (k : Opening) (earlier calls : List Call) → Lawful k earlier calls (answers k (run k opened earlier) calls)
lawful k earlier calls =
    record {
      fair = fairly k earlier calls;
      hidden = hiddenly k earlier calls;
      prompt = subst (λ (xs : List Answer). PromptRun k (earlier ++ calls) xs) (answers-append k opened earlier calls) (prompt k (earlier ++ calls));
    }
