-- Recorded runs in short words: calls, and what is heard of each. Assumes nothing.
use Rattle.std.specs.Prelude.{ℕ, List, [], ◌∷◌, ℤ, pos, Some, None, Ok, Err, Option}
use Rattle.market.specs.Answers.{Answer}
use Rattle.market.specs.Refusals.{number_of}
use Rattle.market.specs.declared.order.Side.{Side}
use Rattle.market.specs.declared.order.Side.TheVariants.{Bid, Offer}
use Rattle.market.specs.declared.order.OrderType.{OrderType}
use Rattle.market.specs.declared.record.Cause.{Cause}
use Rattle.market.specs.declared.record.Cause.TheVariants.{FaKI, FaK, End}
use Rattle.market.specs.declared.record.Record.{Record}
use Rattle.market.specs.declared.record.Record.TheVariants.{Quiet, Fill, Session, Rolling, Fbs, Open, Removal}
use Rattle.market.specs.declared.call.Call.{Call}
use Rattle.market.specs.declared.call.Call.TheVariants.{Entry, Change, Cancel}
use Rattle.market.specs.declared.answer.Accepted.TheVariants.{Entered, Done, Drawn}
use Rattle.market.specs.declared.answer.Summary.{Summary}
use Rattle.rules.specs.Board.{Opening, State}
use Rattle.rules.specs.Calls.{step}
use Rattle.rules.specs.Summaries.{summary}

-- ---- calls

abbrev pub enter : ℕ → Side → OrderType → ℤ → ℕ → ℕ → Option ℕ → Call
enter t s k p d r e = Entry (record { trader = t; side = s; kind = k; price = p; displayed = d; reserve = r; end = e })

abbrev pub change : ℕ → ℕ → ℤ → ℕ → ℕ → Call
change t n p d r = Change (record { trader = t; number = n; price = p; displayed = d; reserve = r })

abbrev pub cancel : ℕ → ℕ → Call
cancel t n = Cancel (record { trader = t; number = n })

-- ---- what is heard

abbrev pub cause_number : Cause → ℕ
cause_number FaKI = 1
cause_number FaK = 2
cause_number End = 3

-- the kind of a record or reply, and its fields
abbrev pub record_shown : Record → List ℤ
record_shown (Quiet t) = pos 16 ∷ pos t ∷ []
record_shown (Fill t f) =
    pos 17 ∷ pos t ∷ f.price ∷ pos f.size ∷ pos f.bid ∷ pos f.bidleft ∷ pos f.offer ∷ pos f.offerleft ∷ []
record_shown (Session t p n) = pos 18 ∷ pos t ∷ p ∷ pos n ∷ []
record_shown (Rolling t) = pos 19 ∷ pos t ∷ []
record_shown (Fbs t) = pos 20 ∷ pos t ∷ []
record_shown (Open t) = pos 21 ∷ pos t ∷ []
record_shown (Removal t n d c) = pos 22 ∷ pos t ∷ pos n ∷ pos d ∷ pos (cause_number c) ∷ []

abbrev pub answer_shown : Answer → List ℤ
answer_shown (Err r) = pos 32 ∷ pos (number_of r) ∷ pos 0 ∷ []
answer_shown (Ok (Entered n)) = pos 32 ∷ pos 0 ∷ pos n ∷ []
answer_shown (Ok Done) = pos 32 ∷ pos 0 ∷ pos 0 ∷ []
answer_shown (Ok (Drawn r)) = record_shown r

abbrev pub summary_shown : Option Summary → List ℤ
summary_shown None = []
summary_shown (Some s) = s.price ∷ pos s.size ∷ []

pub record Heard : Type 0 where
  pub answer : List ℤ
  pub bids : List ℤ
  pub offers : List ℤ

-- of each call its answer, and both summaries after it
unfoldable pub heard : Opening → State → List Call → List Heard
heard k S [] = []
heard k S (c ∷ cs) =
    let r = step k S c in
    record {
      answer = answer_shown r.0;
      bids = summary_shown (summary r.1.board Bid);
      offers = summary_shown (summary r.1.board Offer);
    } ∷
    heard k r.1 cs

abbrev pub h : List ℤ → List ℤ → List ℤ → Heard
h a b o = record { answer = a; bids = b; offers = o }
