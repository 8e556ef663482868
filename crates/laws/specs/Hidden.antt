-- Reserves stay hidden: while none of those that differ runs out, the others learn the same, whatever a trader holds in reserve.
-- Assumes nothing.
use Rattle.std.specs.Prelude.{◌≡◌, ℕ, ◌<◌, true, not, List, [], ◌∷◌, ◌++◌, length, Some, None, Ok, Err, Option}
use Rattle.std.specs.List.{AllZip}
use Rattle.market.specs.Answers.{Answer}
use Rattle.market.specs.declared.order.Side.TheVariants.{Bid, Offer}
use Rattle.market.specs.declared.call.OrderEntry.{OrderEntry}
use Rattle.market.specs.declared.call.OrderChange.{OrderChange}
use Rattle.market.specs.declared.call.Call.{Call}
use Rattle.market.specs.declared.call.Call.TheVariants.{Entry, Change, Cancel, Tick, Draw}
use Rattle.market.specs.declared.answer.Accepted.TheVariants.{Entered, Done, Drawn}
use Rattle.market.specs.declared.answer.Summary.{Summary}
use Rattle.rules.specs.Base.{names, only_if, write}
use Rattle.rules.specs.Board.{Opening, State}
use Rattle.rules.specs.Refusing.{is_size}
use Rattle.rules.specs.Calls.{step, run, answers, opened}
use Rattle.rules.specs.Summaries.{summary}

-- ---- two runs

-- equal settings and rooms
pub record OpenedAlike (k k' : Opening) : Type 0 where
  pub tenor : k.settings.tenor ≡ k'.settings.tenor
  pub timed : k.settings.timed ≡ k'.settings.timed
  pub rolling : k.settings.rolling ≡ k'.settings.rolling
  pub fbs : k.settings.fbs ≡ k'.settings.fbs
  pub bids : k.bids ≡ k'.bids
  pub offers : k.offers ≡ k'.offers
  pub ends : k.ends ≡ k'.ends

-- the entry, and the change, with this reserve
abbrev pub entry_with : ℕ → OrderEntry → OrderEntry
entry_with r e =
    record { trader = e.trader; side = e.side; kind = e.kind; price = e.price; displayed = e.displayed; reserve = r; end = e.end }

abbrev pub change_with : ℕ → OrderChange → OrderChange
change_with r c = record { trader = c.trader; number = c.number; price = c.price; displayed = c.displayed; reserve = r }

-- a reserve that may be written, above 0
pub record Lawful (k : Opening) (r : ℕ) : Type 0 where
  pub size : is_size k r ≡ true
  pub positive : 0 < r

-- two calls that are the same, or that differ in the reserve which trader t writes, lawful in both
pub data Alike (k : Opening) (t : ℕ) : Call → Call → Type 0 where
  same : (c : Call) → Alike k t c c
  entries : (e : OrderEntry) (r r' : ℕ) → e.trader ≡ t → Lawful k r → Lawful k r' →
      Alike k t (Entry (entry_with r e)) (Entry (entry_with r' e))
  changes : (c : OrderChange) (r r' : ℕ) → c.trader ≡ t → Lawful k r → Lawful k r' →
      Alike k t (Change (change_with r c)) (Change (change_with r' c))

-- ---- reserves that differ, and that run out

-- what is noted as last written for each order, after a call with its answer
abbrev pub noted : Call → Answer → (ℕ → ℕ) → ℕ → ℕ
noted (Entry e) (Err r) w = w
noted (Entry e) (Ok (Entered n)) w = write n e.reserve w
noted (Entry e) (Ok Done) w = w
noted (Entry e) (Ok (Drawn r)) w = w
noted (Change c) (Err r) w = w
noted (Change c) (Ok (Entered n)) w = w
noted (Change c) (Ok Done) w = write c.number c.reserve w
noted (Change c) (Ok (Drawn r)) w = w
noted (Cancel c) a w = w
noted (Tick t) a w = w
noted Draw a w = w

unfoldable pub noted_in : Opening → State → List Call → (ℕ → ℕ) → ℕ → ℕ
noted_in k S [] w = w
noted_in k S (c ∷ cs) w = noted_in k (step k S c).1 cs (noted c (step k S c).0 w)

-- the reserve that the last accepted entry or change wrote for each order, or 0
abbrev pub last_written : Opening → List Call → ℕ → ℕ
last_written k cs = noted_in k opened cs (λ n. 0)

-- as a draw comes after the calls, it brings the reserve of order n from above 0 to 0
pub record RunsOut (k : Opening) (cs : List Call) (n : ℕ) : Type 0 where
  pub before : 0 < (run k opened cs).hidden n
  pub after : (run k opened (cs ++ (Draw ∷ []))).hidden n ≡ 0

-- in neither run does a draw do so to an order that was last written with differing sizes
abbrev pub NoneRunsOut : Opening → Opening → List Call → List Call → Type 0
NoneRunsOut k k' cs ds =
    (before after before' after' : List Call) → cs ≡ before ++ (Draw ∷ after) → ds ≡ before' ++ (Draw ∷ after') →
    length before ≡ length before' → (n : ℕ) → ¬ (last_written k before n ≡ last_written k' before' n) →
    ¬ (RunsOut k before n) × ¬ (RunsOut k' before' n)

-- ---- what the others learn

-- the trader who calls; ticks and draws are the host's
abbrev pub caller_of : Call → Option ℕ
caller_of (Entry e) = Some e.trader
caller_of (Change c) = Some c.trader
caller_of (Cancel c) = Some c.trader
caller_of (Tick t) = None
caller_of Draw = None

-- the answer, if it is theirs to know, and both summaries after the call
pub record Lesson : Type 0 where
  pub answer : Option Answer
  pub bids : Option Summary
  pub offers : Option Summary

-- what all but trader t learn from calls: the answer to each that is not his, and the summaries after it
unfoldable pub learned : ℕ → Opening → State → List Call → List Lesson
learned t k S [] = []
learned t k S (c ∷ cs) =
    record {
      answer = only_if (not (names (caller_of c) t)) (Some (step k S c).0);
      bids = summary (step k S c).1.board Bid;
      offers = summary (step k S c).1.board Offer;
    } ∷
    learned t k (step k S c).1 cs

-- ---- the law

abbrev pub Hidden : Type 0
Hidden =
    (k k' : Opening) (t : ℕ) (cs ds : List Call) → OpenedAlike k k' → AllZip (Alike k t) cs ds → NoneRunsOut k k' cs ds →
    learned t k opened cs ≡ learned t k' opened ds

-- more is true: all answers are the same, the trader's own too, and so is all that the board shows
pub record Unseen (k k' : Opening) (cs ds : List Call) : Type 0 where
  pub answered : answers k opened cs ≡ answers k' opened ds
  pub board : (run k opened cs).board ≡ (run k' opened ds).board

abbrev pub HiddenFromAll : Type 0
HiddenFromAll =
    (k k' : Opening) (t : ℕ) (cs ds : List Call) → OpenedAlike k k' → AllZip (Alike k t) cs ds → NoneRunsOut k k' cs ds → Unseen k k' cs ds
