-- The tape comes to rest promptly. Assumes nothing.
use Rattle.std.specs.Prelude.{◌≡◌, ℕ, ◌+◌, ◌/◌, ◌≤◌, Bool, true, false, List, [], ◌∷◌, ◌++◌, length, take, drop, Ok, Err}
use Rattle.market.specs.Answers.{Answer}
use Rattle.market.specs.declared.call.Call.{Call}
use Rattle.market.specs.declared.record.Record.{Record}
use Rattle.market.specs.declared.record.Record.TheVariants.{Quiet}
use Rattle.market.specs.declared.answer.Accepted.TheVariants.{Entered, Done, Drawn}
use Rattle.rules.specs.Board.{Opening, State, lot}
use Rattle.rules.specs.Calls.{run, answers, opened}
use Rattle.rules.specs.Members.{In}
use Rattle.rules.specs.Sizes.{sizes}

-- the displayed and reserve sizes of all live orders, in lots
unfoldable pub lots : Opening → State → ℕ
lots k S = sizes S.hidden S.board.orders / lot k

unfoldable pub live : State → ℕ
live S = length S.board.orders

-- an accepted entry, change, cancel or tick
abbrev pub is_accepted : Answer → Bool
is_accepted (Err r) = false
is_accepted (Ok (Entered n)) = true
is_accepted (Ok Done) = true
is_accepted (Ok (Drawn r)) = false

-- the last answer is to such a call, or there is none yet
abbrev pub JustAccepted : List Answer → Type 0
JustAccepted [] = Unit {0}
JustAccepted (a ∷ []) = is_accepted a ≡ true
JustAccepted (a ∷ b ∷ rest) = JustAccepted (b ∷ rest)

-- no answer is to such a call
abbrev pub NoneAccepted : List Answer → Type 0
NoneAccepted [] = Unit {0}
NoneAccepted (a ∷ rest) = (is_accepted a ≡ false) × NoneAccepted rest

-- the records of the draws
abbrev pub tape : List Answer → List Record
tape [] = []
tape (Err r ∷ rest) = tape rest
tape (Ok (Entered n) ∷ rest) = tape rest
tape (Ok Done ∷ rest) = tape rest
tape (Ok (Drawn r) ∷ rest) = r ∷ tape rest

abbrev pub TellsQuiet : List Record → Type 0
TellsQuiet rs = (time : ℕ) × In (Quiet time) rs

-- how many draws may be needed from here on
abbrev pub patience : Opening → State → ℕ
patience k S = lots k S + live S + 4

-- of the answers to all calls, those to the calls that follow the earlier ones
abbrev pub told_of : List Call → List Call → List Answer → List Answer
told_of earlier since told = take (length since) (drop (length earlier) told)

-- a run of calls from the opening, with these answers: wherever an entry, change, cancel or tick was accepted last, or none was yet,
-- and none is while so many draws come, one of those draws answers quiet
abbrev pub PromptRun : Opening → List Call → List Answer → Type 0
PromptRun k calls told =
    (earlier since later : List Call) → calls ≡ earlier ++ (since ++ later) → JustAccepted (take (length earlier) told) →
    NoneAccepted (told_of earlier since told) → patience k (run k opened earlier) ≤ length (tape (told_of earlier since told)) →
    TellsQuiet (take (patience k (run k opened earlier)) (tape (told_of earlier since told)))

abbrev pub Prompt : Type 0
Prompt = (k : Opening) (calls : List Call) → PromptRun k calls (answers k opened calls)
