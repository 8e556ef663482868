-- What an answer to an input says, whatever its first message is.
use Rattle.std.proofs.Common.{◌≡◌, ℕ, List, take, Ok, Err, Result, MatchResult, refl, ap, ◌∙◌}
use Rattle.std.specs.Borrow.{Bor}
use Rattle.market.specs.declared.refusal.MessageFault.{MessageFault}
use Rattle.market.specs.declared.refusal.Refusal.{Refusal}
use Rattle.market.specs.declared.refusal.Refusal.TheVariants.{Message as MessageRefusal}
use Rattle.layout.specs.Frames.{Answers, framed, taking, reading_by}
use Rattle.wire.specs.Told.{Told, meant, meaning, telling}
use Rattle.wire.specs.declared.message.Message.{Message}
use Rattle.wire.proofs.EachKind.{of-all-kinds}

abbrev shown : Result Message Refusal × ℕ → Result Told Refusal × ℕ
shown p = (meant p.0, p.1)

taken : (n : ℕ) (r : Result Message MessageFault) → shown (taking n r) ≡ taking n (meant r)
taken n (Ok m) = refl
taken n (Err f) = refl

module _ (input : Bor (List ℕ)) (p : Result Message Refusal × ℕ) where
  by_frame : (f : Result ℕ MessageFault)
      → MatchResult f
      (λ n. (bytes : Bor (List ℕ)) × (r : Result Message MessageFault)
      × (bytes.now ≡ take n input.now) × (bytes.ref_ptr ≡ input.ref_ptr) × (meant r ≡ meaning bytes.now) × (p ≡ taking n r))
      (λ f. p ≡ (Err (MessageRefusal f), 0))
      → shown p ≡ reading_by f meaning input.now
  by_frame (Ok n) (bytes, r, whole, place, means, is) = ap shown is ∙ taken n r ∙ ap (taking n) (means ∙ ap meaning whole)
  by_frame (Err f) is = ap shown is

  pub reads : Answers (λ bytes r. meant r ≡ meaning bytes.now) input p → shown p ≡ telling input.now
  reads answers = by_frame (framed input.now) answers ∙ of-all-kinds input.now
