-- How a book in memory does a call. Assumes nothing.
use Rattle.std.specs.Prelude.{◌≡◌, ℕ, Ok, Err, Result}
use Rattle.line.specs.declared.lines.Line.{Ghosts}
use Rattle.market.specs.Answers.{Answer}
use Rattle.market.specs.Ranks.{BidRank, OfferRank}
use Rattle.market.specs.declared.rank.EndTime.{EndTime}
use Rattle.market.specs.declared.call.Call.{Call}
use Rattle.market.specs.declared.refusal.Refusal.{Refusal}
use Rattle.market.specs.declared.answer.Accepted.TheVariants.{Entered, Done}
use Rattle.rules.specs.Calls.{step}
use Rattle.memory.specs.declared.memory.Memory.{Memory}
use Rattle.memory.specs.Shown.{Shows, Whenever}

-- an entry's answer has the order's number
abbrev pub entry_answer : Result ℕ Refusal → Answer
entry_answer (Ok n) = Ok (Entered n)
entry_answer (Err r) = Err r

-- the answer of the other calls that may be refused
abbrev pub plain_answer : Result (Unit {0}) Refusal → Answer
plain_answer (Ok u) = Ok Done
plain_answer (Err r) = Err r

module _ {L B O E : Type 0} (bl : Ghosts B BidRank) (ol : Ghosts O OfferRank) (el : Ghosts E EndTime) where
  -- the book shows the state that the rules define after the call, and answers what they define
  abbrev pub Obeys : Memory L B O E → Memory L B O E → Call → Answer → Type 0
  Obeys m m' c a =
      Whenever bl ol el m (λ k S. Shows bl ol el m' k (step k S c).1 × (a ≡ (step k S c).0))
