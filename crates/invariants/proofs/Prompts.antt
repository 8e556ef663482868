-- The tape comes to rest promptly, in every run. Assumes nothing.
use Rattle.std.proofs.Common.{◌≡◌, ℕ, zero, suc, ◌<◌, ◌≤◌, Bool, true, false, ◌⊎◌, List, [], ◌∷◌, ◌++◌, length, take, drop, Some, None, Ok, Err, Option, sym, refl, ap, ◌∙◌, subst, inl, inr, arith}
use lib.Seq.{take-append_seam, drop-append_seam}
use Rattle.std.proofs.lemmas.Bool.{true≢false}
use Rattle.market.specs.Answers.{Answer}
use Rattle.market.specs.declared.record.Record.TheVariants.{Quiet}
use Rattle.market.specs.declared.call.Call.{Call}
use Rattle.market.specs.declared.call.Call.TheVariants.{Entry, Change, Cancel, Tick, Draw}
use Rattle.market.specs.declared.refusal.Refusal.{Refusal}
use Rattle.market.specs.declared.answer.Accepted.TheVariants.{Entered, Done}
use Rattle.rules.specs.Board.{Opening, State}
use Rattle.rules.specs.Draws.{decided, record_of, draw}
use Rattle.rules.specs.Refusing.{is_size, owned, entry_refusal, change_refusal, cancel_refusal, tick_refusal}
use Rattle.rules.specs.Calls.{ticked_board, entered_state, changed_state, cancelled_state, replied, step, run, answers, opened}
use Rattle.rules.proofs.Reasons.{opens, why}
use Rattle.invariants.specs.Sound.{Sound}
use Rattle.invariants.specs.Prompt.{lots, live, is_accepted, NoneAccepted, tape, TellsQuiet, patience, told_of, Prompt}
use Rattle.invariants.proofs.Drawn.{after}
use Rattle.invariants.proofs.Sounds.{call-sound, sound}
use Rattle.invariants.proofs.Rests.{is_rest, is-rest}
use Rattle.invariants.proofs.Steady.{Steady, call-steady, run-steady, opened-steady}
use Rattle.invariants.proofs.Nearer.{turns-most, weight, nearer}

-- a draw answers quiet, or leaves the book nearer to rest
next : (k : Opening) (S : State) → Sound k S → Steady k S →
    ((t : ℕ) × ((draw k S).0 ≡ Quiet t)) ⊎ (weight k (step k S Draw).1 < weight k S)
unfolding step draw
next k S q r = go (is_rest (decided k S.board)) refl
  where
    go : (p : Bool) → is_rest (decided k S.board) ≡ p →
        ((t : ℕ) × (record_of S.hidden S.board (decided k S.board) ≡ Quiet t)) ⊎ (weight k (after S (decided k S.board)) < weight k S)
    go true e =
        inl (S.board.clock.wished, unfold record_of in ap (record_of S.hidden S.board) (is-rest (decided k S.board) e))
    go false e = inr (nearer k S (decided k S.board) q r (why k S.board) e)

-- a call that is refused leaves the state
refused : (r : Option Refusal) (a : Answer) (S S' : State) → is_accepted a ≡ true → is_accepted (replied r a S S').0 ≡ false →
    (s : Refusal) × (replied r a S S' ≡ (Err s, S))
refused None a S S' t f = absurd (true≢false (sym t ∙ f))
refused (Some s) a S S' t f = (s, refl)

-- a draw that is answered, or a call that is refused
unanswered : (k : Opening) (S : State) (c : Call) → is_accepted (step k S c).0 ≡ false → (c ≡ Draw) ⊎ ((s : Refusal) × (step k S c ≡ (Err s, S)))
unfolding step
unanswered k S (Entry e) f =
    inr (refused (entry_refusal k S.board e (is_size k e.reserve)) (Ok (Entered S.board.counters.number)) S (entered_state S e) refl f)
unanswered k S (Change c) f =
    inr (refused (change_refusal k S.board c (is_size k c.reserve)) (Ok Done) S (changed_state S c (owned S.board c.trader c.number)) refl f)
unanswered k S (Cancel c) f =
    inr (refused (cancel_refusal S.board c.trader c.number) (Ok Done) S (cancelled_state S (owned S.board c.trader c.number)) refl f)
unanswered k S (Tick t) f =
    inr (refused (tick_refusal S.board t) (Ok Done) S (record { board = ticked_board S.board t; hidden = S.hidden }) refl f)
unanswered k S Draw f = inl refl

-- quiet is among the first n records that these calls draw
abbrev Quietens : Opening → State → List Call → ℕ → Type 0
Quietens k S ds n =
    NoneAccepted (answers k S ds) → n ≤ length (tape (answers k S ds)) → TellsQuiet (take n (tape (answers k S ds)))

after-draw : (k : Opening) (S : State) (ds : List Call) (n : ℕ) → Sound k S → Steady k S → weight k S < n →
    ((n : ℕ) → weight k (step k S Draw).1 < n → Quietens k (step k S Draw).1 ds n) → Quietens k S (Draw ∷ ds) n
unfolding answers step
after-draw k S ds zero q r l ih f m = absurd (omega arith)
after-draw k S ds (suc n) q r l ih f m = go (next k S q r)
  where
    go : ((t : ℕ) × ((draw k S).0 ≡ Quiet t)) ⊎ (weight k (draw k S).1 < weight k S) →
        TellsQuiet ((draw k S).0 ∷ take n (tape (answers k (draw k S).1 ds)))
    go (inl e) = (e.0, inl (sym e.1))
    go (inr w) = let t = ih n (omega arith) f.1 (omega arith) in (t.0, inr t.1)

settles : (k : Opening) (ds : List Call) (S : State) (n : ℕ) → Sound k S → Steady k S → weight k S < n → Quietens k S ds n
unfolding answers
settles k [] S n q r l f m = absurd (omega arith)
settles k (c ∷ ds) S n q r l f m = go (unanswered k S c f.0) (settles k ds)
  where
    go : (c ≡ Draw) ⊎ ((s : Refusal) × (step k S c ≡ (Err s, S))) →
        ((T : State) (n : ℕ) → Sound k T → Steady k T → weight k T < n → Quietens k T ds n) → TellsQuiet (take n (tape (answers k S (c ∷ ds))))
    go (inl e) ih =
        let d = after-draw k S ds n q r l (λ m. ih (step k S Draw).1 m (call-sound k S Draw q) (call-steady k S Draw r)) in
        subst (λ (c : Call). Quietens k S (c ∷ ds) n) (sym e) d f m
    go (inr e) ih =
        subst (λ (x : Answer × State). NoneAccepted (x.0 ∷ answers k x.1 ds) → n ≤ length (tape (x.0 ∷ answers k x.1 ds)) →
        TellsQuiet (take n (tape (x.0 ∷ answers k x.1 ds)))) (sym e.1) (λ f. ih S n q r l f.1) f m

-- ---- a run in two parts

answers-append : (k : Opening) (S : State) (cs ds : List Call) → answers k S (cs ++ ds) ≡ answers k S cs ++ answers k (run k S cs) ds
unfolding answers run
answers-append k S [] ds = refl
answers-append k S (c ∷ cs) ds = ap (λ (t : List Answer). (step k S c).0 ∷ t) (answers-append k (step k S c).1 cs ds)

answers-length : (k : Opening) (S : State) (cs : List Call) → length (answers k S cs) ≡ length cs
unfolding answers
answers-length k S [] = refl
answers-length k S (c ∷ cs) = ap suc (answers-length k (step k S c).1 cs)

told-since : (k : Opening) (earlier since later : List Call) →
    told_of earlier since (answers k opened (earlier ++ (since ++ later))) ≡ answers k (run k opened earlier) since
told-since k earlier since later =
    let S = run k opened earlier in
    let e = answers-append k opened earlier (since ++ later) in
    let f = answers-append k S since later in
    ap (λ (t : List Answer). take (length since) (drop (length earlier) t)) e ∙
    ap (λ (n : ℕ). take (length since) (drop n (answers k opened earlier ++ answers k S (since ++ later)))) (sym (answers-length k opened earlier)) ∙
    ap (take (length since)) (drop-append_seam (answers k opened earlier) (answers k S (since ++ later))) ∙
    ap (take (length since)) f ∙
    ap (λ (n : ℕ). take n (answers k S since ++ answers k (run k S since) later)) (sym (answers-length k S since)) ∙
    take-append_seam (answers k S since) (answers k (run k S since) later)

pub prompt : Prompt
unfolding lots live
prompt k calls earlier since later e j f m =
    let S = run k opened earlier in
    let d : told_of earlier since (answers k opened calls) ≡ answers k S since =
    ap (λ (c : List Call). told_of earlier since (answers k opened c)) e ∙ told-since k earlier since later in
    let t = turns-most S.board.phase k.settings (opens S.board) S.board.session.since S.board.clock.wished in
    subst (λ (told : List Answer). NoneAccepted told → patience k S ≤ length (tape told) → TellsQuiet (take (patience k S) (tape told))) (sym d)
    (settles k since S (patience k S) (sound k earlier) (run-steady k opened earlier (opened-steady k)) (omega arith)) f m
