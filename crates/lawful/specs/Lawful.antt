-- The three laws of the answers to a run of calls, which come after earlier calls from an opening. Assumes nothing.
use Rattle.std.specs.Prelude.{◌≡◌, ℕ, not, List, [], ◌∷◌, ◌++◌, length, drop, Some, Ok}
use Rattle.std.specs.List.{AllZip}
use Rattle.market.specs.Answers.{Answer}
use Rattle.market.specs.declared.order.Side.TheVariants.{Bid, Offer}
use Rattle.market.specs.declared.record.Record.{Record}
use Rattle.market.specs.declared.call.Call.{Call}
use Rattle.market.specs.declared.call.Call.TheVariants.{Draw}
use Rattle.market.specs.declared.answer.Accepted.TheVariants.{Drawn}
use Rattle.rules.specs.Base.{names, only_if}
use Rattle.rules.specs.Board.{Opening, State}
use Rattle.rules.specs.Calls.{step, run, answers, opened}
use Rattle.rules.specs.Summaries.{summary}
use Rattle.laws.specs.Fair.{FairAt}
use Rattle.laws.specs.Hidden.{OpenedAlike, Alike, NoneRunsOut, caller_of, Lesson, learned}
use Rattle.invariants.specs.Prompt.{PromptRun}

-- whenever a draw is told a fill, the two orders are entitled and ahead of every other entitled one, as of when the draw came; and
-- whenever it is told quiet, a side has no entitled order
abbrev pub FairRun : Opening → List Call → List Call → List Answer → Type 0
FairRun k earlier calls told =
    (before after : List Call) (told_before told_after : List Answer) (r : Record) → calls ≡ before ++ (Draw ∷ after) →
    told ≡ told_before ++ (Ok (Drawn r) ∷ told_after) → length told_before ≡ length before → FairAt (run k opened (earlier ++ before)).board r

-- what all but trader t learn from a call that is told this answer, and of the state after it: the answer if the call is not his, and
-- both summaries
abbrev pub lesson : ℕ → Call → Answer → State → Lesson
lesson t c a S =
    record {
      answer = only_if (not (names (caller_of c) t)) (Some a);
      bids = summary S.board Bid;
      offers = summary S.board Offer;
    }

abbrev pub lessons : ℕ → Opening → State → List Call → List Answer → List Lesson
lessons t k S [] told = []
lessons t k S (c ∷ cs) [] = []
lessons t k S (c ∷ cs) (a ∷ told) = lesson t c a (step k S c).1 ∷ lessons t k (step k S c).1 cs told

-- were the whole run another one, equal but for reserves that trader t writes, of which none runs out, the others would learn the same
abbrev pub HiddenRun : Opening → List Call → List Call → List Answer → Type 0
HiddenRun k earlier calls told =
    (k' : Opening) (t : ℕ) (instead : List Call) → OpenedAlike k k' → AllZip (Alike k t) (earlier ++ calls) instead →
    NoneRunsOut k k' (earlier ++ calls) instead →
    lessons t k (run k opened earlier) calls told ≡ drop (length earlier) (learned t k' opened instead)

pub record Lawful (k : Opening) (earlier calls : List Call) (told : List Answer) : Type 0 where
  pub fair : FairRun k earlier calls told
  pub hidden : HiddenRun k earlier calls told
  pub prompt : PromptRun k (earlier ++ calls) (answers k opened earlier ++ told)

-- so it is of every run, in any two parts
abbrev pub EveryRunIsLawful : Type 0
EveryRunIsLawful = (k : Opening) (earlier calls : List Call) → Lawful k earlier calls (answers k (run k opened earlier) calls)
