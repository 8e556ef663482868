-- A run of calls, one after another. Assumes nothing.
use Rattle.std.proofs.Common.{◌≡◌, ℕ, ◌+◌, ◌<◌, min, List, [], ◌∷◌, ◌++◌, length, get_or, take, drop, set, Ok, sym, refl, ap, ◌∙◌, subst, append_assoc, arith}
use Rattle.std.proofs.lemmas.List.{append-nil, take_more, take_more_set, drop_more, drop-set-lt}
use Rattle.line.specs.declared.lines.Line.{Ghosts}
use Rattle.market.specs.Answers.{Answer}
use Rattle.market.specs.Ranks.{BidRank, OfferRank}
use Rattle.market.specs.declared.rank.EndTime.{EndTime}
use Rattle.market.specs.declared.call.Call.{Call}
use Rattle.market.specs.declared.answer.Accepted.TheVariants.{Done}
use Rattle.rules.specs.Board.{Opening, State}
use Rattle.rules.specs.Calls.{step, run, answers, opened}
use Rattle.lawful.specs.Lawful.{Lawful}
use Rattle.lawful.proofs.Lawfully.{run-append, answers-append, lawful}
use Rattle.book.specs.declared.book.Book.{Book}
use Rattle.book.specs.Stands.{Stands, Follows, Played}

-- what stands behind a place that is the same stands behind the next one
pub rest_more : (xs ys : List Answer) (i : ℕ) (a : Answer) → i < length xs → i < length ys → drop i xs ≡ drop i ys →
    drop (i + 1) (set xs i a) ≡ drop (i + 1) ys
rest_more xs ys i a l l' e =
    let p = drop_more xs i (Ok Done) l in
    let q = drop_more ys i (Ok Done) l' in
    let same : drop (i + 1) xs ≡ drop (i + 1) ys = cc in
    drop-set-lt (i + 1) xs i a (omega arith) ∙ same

module _ {L B O E : Type 0} (bl : Ghosts B BidRank) (ol : Ghosts O OfferRank) (el : Ghosts E EndTime) where
  -- the first i calls are played
  abbrev pub SoFar : Book L B O E → Book L B O E → List Call → List Answer → ℕ → Type 0
  SoFar m m' calls room i =
      (k : Opening) (earlier : List Call) → Stands bl ol el m k earlier →
      Stands bl ol el m' k (earlier ++ take i calls) × (take i room ≡ answers k (run k opened earlier) (take i calls))

  pub none-played : (m : Book L B O E) (calls : List Call) (room : List Answer) → SoFar m m calls room 0
  unfolding answers
  none-played m calls room k earlier w = (subst (λ (cs : List Call). Stands bl ol el m k cs) (sym (append-nil earlier)) w, refl)

  pub one_more : (m m₁ m₂ : Book L B O E) (calls : List Call) (room : List Answer) (i : ℕ) (d : Call) (a : Answer) → i < length calls → i < length room →
      SoFar m m₁ calls room i → Follows bl ol el m₁ m₂ (get_or calls i d) a → SoFar m m₂ calls (set room i a) (i + 1)
  unfolding answers
  one_more m m₁ m₂ calls room i d a l l' f g k earlier w =
      let p = f k earlier w in
      let q = g k (earlier ++ take i calls) p.0 in
      let c = get_or calls i d in
      let S = run k opened earlier in
      let e : take (i + 1) calls ≡ take i calls ++ (c ∷ []) = take_more calls i d l in
      let here : a ≡ (step k (run k S (take i calls)) c).0 =
      q.1 ∙ ap (λ (X : State). (step k X c).0) (run-append k opened earlier (take i calls)) in (
        subst (λ (cs : List Call). Stands bl ol el m₂ k cs) (append_assoc earlier (take i calls) (c ∷ []) ∙ ap (λ (cs : List Call). earlier ++ cs) (sym e)) q.0,
        take_more_set room i a l' ∙ ap (λ (xs : List Answer). xs ++ (a ∷ [])) p.1 ∙
            ap (λ (x : Answer). answers k S (take i calls) ++ (x ∷ [])) here ∙ sym (answers-append k S (take i calls) (c ∷ [])) ∙
            ap (answers k S) (sym e),
      )

  pub all-played : (m m' : Book L B O E) (calls : List Call) (room room' : List Answer) (i n : ℕ) → i ≡ n → n ≡ min (length calls) (length room) →
      SoFar m m' calls room' i → drop i room' ≡ drop i room → Played bl ol el m m' calls room room' n
  all-played m m' calls room room' i n e c f r =
      let f' = subst (λ (j : ℕ). SoFar m m' calls room' j) e f in
      record {
        count = c;
        plays = λ k earlier w.
            let p = f' k earlier w in
            record {
              stands = p.0;
              answered = p.1;
              lawful = subst (λ (told : List Answer). Lawful k earlier (take n calls) told) (sym p.1) (lawful k earlier (take n calls));
            };
        rest = subst (λ (j : ℕ). drop j room' ≡ drop j room) e r;
      }
