-- From one state that a book shows to the next. Assumes nothing.
use Rattle.std.proofs.Common.{◌≡◌, ℕ, ◌<◌, ◌≤◌, true, List, [], ◌∷◌, ◌++◌, Option, sym, ap, ◌∙◌, subst}
use Rattle.line.specs.declared.lines.Line.{Ghosts}
use Rattle.market.specs.declared.order.Side.TheVariants.{Bid, Offer}
use Rattle.market.specs.declared.order.Order.{Order}
use Rattle.market.specs.declared.rank.EndTime.{EndTime}
use Rattle.rules.specs.Base.{count}
use Rattle.rules.specs.Board.{Opening, Board, State, on}
use Rattle.rules.specs.Fills.{replace}
use Rattle.rules.specs.Refusing.{ending}
use Rattle.rules.specs.Members.{In}
use Rattle.rules.specs.Rising.{Ascends, Keeps}
use Rattle.rules.specs.Standings.{standing}
use Rattle.market.specs.Ranks.{bid_ahead, offer_ahead, end_ahead, BidRank, OfferRank}
use Rattle.board.specs.EndTimes.{end_time}
use Rattle.queues.specs.Lists.{Lists}
use Rattle.queues.specs.Entries.{bid_entry, offer_entry}
use Rattle.board.specs.Memory.{Reserved}
use Rattle.memory.specs.declared.memory.Memory.{Memory}
use Rattle.memory.specs.declared.entries.Entries.{Entries}
use Rattle.memory.specs.Entries.{entries_of, afterwards}
use Rattle.memory.specs.Shown.{opening_of, Queued, Shows, Enlisted, Relisted, Reranked}
use Rattle.memory.proofs.Queues.{Alike, requeued, queued-more, queued-still, queued-by, opening-alone, opening-relisted, opening-enlisted, opening-reranked}

module _ {L B O E : Type 0} (bl : Ghosts B BidRank) (ol : Ghosts O OfferRank) (el : Ghosts E EndTime) where
  -- the lines of a book are left alone
  pub record Untouched (m m' : Memory L B O E) : Type 0 where
    pub settings : m'.settings ≡ m.settings
    pub bids : m'.bids ≡ m.bids
    pub offers : m'.offers ≡ m.offers
    pub ends : m'.ends ≡ m.ends

  carry : (m m' : Memory L B O E) (os : List Order) (b : Board) → Untouched m m' → Queued bl ol el m os b → Queued bl ol el m' os b
  carry m m' os b u q = queued-by bl ol el m m' os b u.bids u.offers u.ends q

  opens : (m m' : Memory L B O E) → Untouched m m' → opening_of bl ol el m' ≡ opening_of bl ol el m
  opens m m' u = opening-alone bl ol el m m' u.settings u.bids u.offers u.ends

  -- the same orders, which stand as they stood
  pub shows-still : (m m' : Memory L B O E) (k : Opening) (S S' : State) → Shows bl ol el m k S → Untouched m m' → m'.board ≡ S'.board →
      Reserved S'.hidden S'.board.orders m'.reserves.items → S'.board.orders ≡ S.board.orders →
      ((p : Order) → In p S.board.orders → standing S'.board p ≡ standing S.board p) → Shows bl ol el m' k S'
  shows-still m m' k S S' w u b r os still =
      record {
        opening = opens m m' u ∙ w.opening;
        board = b;
        reserves = r;
        queued = subst (λ (xs : List Order). Queued bl ol el m' xs S'.board) (sym os)
            (carry m m' S.board.orders S'.board u (queued-still bl ol el m S.board S'.board S.board.orders still w.queued));
      }

  -- one order becomes r, or goes; the board is edited first, then the lines
  pub shows-replaced : (m m₁ m' : Memory L B O E) (k : Opening) (S S' : State) (o : Order) (r : Option Order) (old new : Entries) (n : ℕ) →
      Ascends 1 n S.board.orders → Shows bl ol el m k S → In o S.board.orders → Keeps o.number r → Alike o r →
      S'.board.orders ≡ replace o.number r S.board.orders →
      ((p : Order) → In p S.board.orders → ¬ (p.number ≡ o.number) → standing S'.board p ≡ standing S.board p) →
      Untouched m m₁ → m₁.board ≡ S'.board → Reserved S'.hidden S'.board.orders m₁.reserves.items →
      old ≡ entries_of S.board o → new ≡ afterwards S'.board r → Relisted bl ol el m₁ m' old new → Shows bl ol el m' k S'
  shows-replaced m m₁ m' k S S' o r old new n up w here keeps alike os others u b res e f made =
      let made' = subst (λ (x : Entries). Relisted bl ol el m₁ m' (entries_of S.board o) x) f (subst (λ (x : Entries). Relisted bl ol el m₁ m' x new) e made) in
      record {
        opening = opening-relisted bl ol el m₁ m' old new made ∙ opens m m₁ u ∙ w.opening;
        board = made.same.board ∙ b;
        reserves = subst (λ x. Reserved S'.hidden S'.board.orders x.items) (sym made.same.reserves) res;
        queued = subst (λ (xs : List Order). Queued bl ol el m' xs S'.board) (sym os)
            (requeued bl ol el m₁ m' S.board S'.board S.board.orders o r n up here keeps alike others made'
            (carry m m₁ S.board.orders S.board u w.queued));
      }

  -- one order more; the others stand as they stood
  pub shows_more : (m m₁ m' : Memory L B O E) (k : Opening) (S S' : State) (o : Order) (new : Entries) (n : ℕ) →
      Ascends 1 n S.board.orders → n ≤ o.number → Shows bl ol el m k S → S'.board.orders ≡ S.board.orders ++ (o ∷ []) →
      ((p : Order) → In p S.board.orders → standing S'.board p ≡ standing S.board p) →
      (on Bid o ≡ true → count (on Bid) S.board.orders < k.bids) → (on Offer o ≡ true → count (on Offer) S.board.orders < k.offers) →
      (ending o ≡ true → count ending S.board.orders < k.ends) →
      Untouched m m₁ → m₁.board ≡ S'.board → Reserved S'.hidden S'.board.orders m₁.reserves.items →
      new ≡ entries_of S'.board o → Enlisted bl ol el m₁ m' new → Shows bl ol el m' k S'
  shows_more m m₁ m' k S S' o new n up above w os still x y z u b res f made =
      let is = opens m m₁ u ∙ w.opening in
      record {
        opening = opening-enlisted bl ol el m₁ m' new made ∙ is;
        board = made.same.board ∙ b;
        reserves = subst (λ x. Reserved S'.hidden S'.board.orders x.items) (sym made.same.reserves) res;
        queued = subst (λ (xs : List Order). Queued bl ol el m' xs S'.board) (sym os)
            (queued-more bl ol el m₁ m' S'.board S.board.orders o n up above
            (λ h. subst (λ (c : ℕ). count (on Bid) S.board.orders < c) (sym (ap (λ (q : Opening). q.bids) is)) (x h))
            (λ h. subst (λ (c : ℕ). count (on Offer) S.board.orders < c) (sym (ap (λ (q : Opening). q.offers) is)) (y h))
            (λ h. subst (λ (c : ℕ). count ending S.board.orders < c) (sym (ap (λ (q : Opening). q.ends) is)) (z h))
            (subst (λ (v : Entries). Enlisted bl ol el m₁ m' v) f made)
            (carry m m₁ S.board.orders S'.board u (queued-still bl ol el m S.board S'.board S.board.orders still w.queued)));
      }

  abbrev Queues-bids : Memory L B O E → Board → Type 0
  Queues-bids m v = Lists bid_ahead bl m.bids v.orders (bid_entry v)

  abbrev Queues-offers : Memory L B O E → Board → Type 0
  Queues-offers m v = Lists offer_ahead ol m.offers v.orders (offer_entry v)

  abbrev Queues-ends : Memory L B O E → List Order → Type 0
  Queues-ends m xs = Lists end_ahead el m.ends xs end_time

  -- both sides are ranked anew
  pub shows-reranked : (m m₁ m' : Memory L B O E) (k : Opening) (S S' : State) (n : ℕ) → Ascends 1 n S.board.orders → Shows bl ol el m k S →
      S'.board.orders ≡ S.board.orders → count (on Bid) S.board.orders ≤ k.bids → count (on Offer) S.board.orders ≤ k.offers →
      Untouched m m₁ → m₁.board ≡ S'.board → Reserved S'.hidden S'.board.orders m₁.reserves.items →
      Reranked bl ol el m₁ m' → Shows bl ol el m' k S'
  shows-reranked m m₁ m' k S S' n up w os x y u b res made =
      let is = opens m m₁ u ∙ w.opening in
      let here : m₁.board.orders ≡ S.board.orders = ap (λ (v : Board). v.orders) b ∙ os in
      let up' = subst (λ (xs : List Order). Ascends 1 n xs) (sym here) up in
      let bids = made.bids.lists n up'
      (subst (λ (xs : List Order). count (on Bid) xs ≤ bl.room m₁.bids) (sym here)
      (subst (λ (c : ℕ). count (on Bid) S.board.orders ≤ c) (sym (ap (λ (q : Opening). q.bids) is)) x)) in
      let offers = made.offers.lists n up'
      (subst (λ (xs : List Order). count (on Offer) xs ≤ ol.room m₁.offers) (sym here)
      (subst (λ (c : ℕ). count (on Offer) S.board.orders ≤ c) (sym (ap (λ (q : Opening). q.offers) is)) y)) in
      let ends = (carry m m₁ S.board.orders S.board u w.queued).ends in
      record {
        opening = opening-reranked bl ol el m₁ m' made ∙ is;
        board = made.same.board ∙ b;
        reserves = subst (λ v. Reserved S'.hidden S'.board.orders v.items) (sym made.same.reserves) res;
        queued = record {
          bids = subst (λ (v : Board). Queues-bids m' v) b bids;
          offers = subst (λ (v : Board). Queues-offers m' v) b offers;
          ends = subst (λ (l : E). Lists end_ahead el l S'.board.orders end_time) (sym made.ends) (subst (λ (xs : List Order). Queues-ends m₁ xs) (sym os) ends);
        };
      }
