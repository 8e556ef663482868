-- How a book stands at what the rules make of its opening and the calls since. Assumes nothing.
use Rattle.std.specs.Prelude.{◌≡◌, ℕ, min, List, [], ◌∷◌, ◌++◌, length, take, drop}
use Rattle.line.specs.declared.lines.Line.{Ghosts}
use Rattle.market.specs.Answers.{Answer}
use Rattle.market.specs.Ranks.{BidRank, OfferRank}
use Rattle.market.specs.declared.rank.EndTime.{EndTime}
use Rattle.market.specs.declared.call.Call.{Call}
use Rattle.rules.specs.Board.{Opening}
use Rattle.rules.specs.Calls.{step, run, answers, opened}
use Rattle.lawful.specs.Lawful.{Lawful}
use Rattle.memory.specs.Shown.{Shows}
use Rattle.book.specs.declared.book.Book.{Book}

module _ {L B O E : Type 0} (bl : Ghosts B BidRank) (ol : Ghosts O OfferRank) (el : Ghosts E EndTime) where
  -- the book is in the state that the rules make of this opening followed by these calls: the board and the reserves are that
  -- state's, and its lines hold exactly the ranks of the live bids, of the live offers, and the live end times
  abbrev pub Stands : Book L B O E → Opening → List Call → Type 0
  Stands m k cs = Shows bl ol el m.memory k (run k opened cs)

  -- wherever the book stood, it stands with the call added, and its answer is the one that the rules define there
  abbrev pub Follows : Book L B O E → Book L B O E → Call → Answer → Type 0
  Follows m m' c r = (k : Opening) (cs : List Call) → Stands m k cs → Stands m' k (cs ++ (c ∷ [])) × (r ≡ (step k (run k opened cs) c).0)

  -- wherever the book stood, it stands with the calls added; their answers are the ones that the rules define there, and of the whole
  -- run from the opening the three laws hold, of the answers as they were told
  pub record Plays (m m' : Book L B O E) (calls : List Call) (told : List Answer) (k : Opening) (earlier : List Call) : Type 0 where
    pub stands : Stands m' k (earlier ++ calls)
    pub answered : told ≡ answers k (run k opened earlier) calls
    pub lawful : Lawful k earlier calls told

  -- so many calls as there is room for answers, which are written in their order; the rest of the room is left as it was
  pub record Played (m m' : Book L B O E) (calls : List Call) (room room' : List Answer) (n : ℕ) : Type 0 where
    pub count : n ≡ min (length calls) (length room)
    pub plays : (k : Opening) (earlier : List Call) → Stands m k earlier → Plays m m' (take n calls) (take n room') k earlier
    pub rest : drop n room' ≡ drop n room
