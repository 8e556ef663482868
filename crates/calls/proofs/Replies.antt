-- A call is refused, and the book stays; or accepted. Assumes nothing.
use Rattle.std.proofs.Common.{◌≡◌, IsErrAnd, Some, None, Ok, Err, Option, Result, sym, ap, subst}
use Rattle.line.specs.declared.lines.Line.{Ghosts}
use Rattle.market.specs.Answers.{Answer}
use Rattle.market.specs.Ranks.{BidRank, OfferRank}
use Rattle.market.specs.declared.rank.EndTime.{EndTime}
use Rattle.market.specs.declared.refusal.Refusal.{Refusal}
use Rattle.rules.specs.Board.{Opening, State}
use Rattle.rules.specs.Calls.{replied}
use Rattle.memory.specs.declared.memory.Memory.{Memory}
use Rattle.memory.specs.Shown.{Shows}

-- the answer of a `?` that returns
pub broken : {X F : Type 0} {e : F} (r : Result X F) → IsErrAnd r (λ y. y ≡ e) → r ≡ Err e
broken (Ok x) h = absurd h
broken (Err y) h = ap (λ z. Err z) h

module _ {L B O E : Type 0} (bl : Ghosts B BidRank) (ol : Ghosts O OfferRank) (el : Ghosts E EndTime) where
  -- the book shows the state of the reply, and this is its answer
  abbrev pub Replies : Memory L B O E → Opening → Answer → Answer × State → Type 0
  Replies m k a reply = Shows bl ol el m k reply.1 × (a ≡ reply.0)

  pub refused : (m : Memory L B O E) (k : Opening) (S S' : State) (a b : Answer) (q : Option Refusal) (r : Refusal) → q ≡ Some r → b ≡ Err r →
      Shows bl ol el m k S → Replies m k b (replied q a S S')
  refused m k S S' a b q r e f w = subst (λ (x : Option Refusal). Replies m k b (replied x a S S')) (sym e) (w, f)

  pub accepted : (m : Memory L B O E) (k : Opening) (S S' : State) (a b : Answer) (q : Option Refusal) → q ≡ None → b ≡ a →
      Shows bl ol el m k S' → Replies m k b (replied q a S S')
  accepted m k S S' a b q e f w = subst (λ (x : Option Refusal). Replies m k b (replied x a S S')) (sym e) (w, f)
