-- From the lines of one state to those of the next. Assumes nothing.
use Rattle.std.proofs.Common.{◌≡◌, ℕ, ◌<◌, ◌≤◌, Bool, true, false, List, [], ◌∷◌, ◌++◌, Some, None, Option, sym, refl, ap, ◌∙◌, subst, inl, inr, arith}
use Rattle.line.specs.declared.lines.Line.{Ghosts}
use Rattle.market.specs.Ranks.{BidRank, OfferRank, bid_ahead, offer_ahead, end_ahead}
use Rattle.market.specs.declared.settings.Settings.{Settings}
use Rattle.market.specs.declared.order.Side.TheVariants.{Bid, Offer}
use Rattle.market.specs.declared.order.Order.{Order}
use Rattle.market.specs.declared.standing.Standing.{Standing}
use Rattle.market.specs.declared.rank.EndTime.{EndTime}
use Rattle.rules.specs.Base.{is_some, only_if, count, each}
use Rattle.rules.specs.Board.{Opening, Board, on, same}
use Rattle.rules.specs.Fills.{replace}
use Rattle.rules.specs.Refusing.{ending}
use Rattle.rules.specs.Members.{In}
use Rattle.rules.specs.Rising.{Ascends, Keeps}
use Rattle.rules.specs.Standings.{standing, bid_rank, offer_rank}
use Rattle.board.specs.EndTimes.{end_at, end_time}
use Rattle.queues.specs.Entries.{bid_entry, offer_entry}
use Rattle.queues.specs.Lists.{Lists}
use Rattle.queues.specs.Changes.{entry_of}
use Rattle.queues.proofs.Kept.{lists-alike}
use Rattle.memory.specs.declared.memory.Memory.{Memory}
use Rattle.memory.specs.Entries.{entries_of, afterwards}
use Rattle.memory.specs.declared.entries.Entries.{Entries}
use Rattle.memory.specs.Shown.{opening_of, Queued, Enlisted, Relisted, Reranked}

-- what is left of an order is on its side, with its end time
abbrev pub Alike : Order → Option Order → Type 0
Alike o None = Unit {0}
Alike o (Some p) = (p.side ≡ o.side) × (p.end ≡ o.end)

-- ---- entries

never : false ≡ true → ⊥
never z = let zero-is-one : ◌≡◌ {A = ℕ} 0 1 = cc in omega arith

there : {X : Type 0} (b : Bool) (x : X) → is_some (only_if b (Some x)) ≡ b
there true x = refl
there false x = refl

pub bid-same : (b b' : Board) (p : Order) → standing b' p ≡ standing b p → bid_entry b' p ≡ bid_entry b p
bid-same b b' p e =
    ap (λ (s : Standing). let r : BidRank = record { price = record { 0 = p.price }; standing = s; number = p.number } in only_if (on Bid p) (Some r)) e

pub offer-same : (b b' : Board) (p : Order) → standing b' p ≡ standing b p → offer_entry b' p ≡ offer_entry b p
offer-same b b' p e =
    ap (λ (s : Standing). let r : OfferRank = record { price = p.price; standing = s; number = p.number } in only_if (on Offer p) (Some r)) e

bid-kept : (b b' : Board) (o : Order) (r : Option Order) → Alike o r → is_some (afterwards b' r).bid ≡ true → is_some (bid_entry b o) ≡ true
bid-kept b b' o None a h = absurd (never h)
bid-kept b b' o (Some p) a h =
    there (on Bid o) (bid_rank b o) ∙ sym (ap (same Bid) a.0) ∙ sym (there (on Bid p) (bid_rank b' p)) ∙ h

offer-kept : (b b' : Board) (o : Order) (r : Option Order) → Alike o r → is_some (afterwards b' r).offer ≡ true → is_some (offer_entry b o) ≡ true
offer-kept b b' o None a h = absurd (never h)
offer-kept b b' o (Some p) a h =
    there (on Offer o) (offer_rank b o) ∙ sym (ap (same Offer) a.0) ∙ sym (there (on Offer p) (offer_rank b' p)) ∙ h

end-there : (t : Option ℕ) (n : ℕ) → is_some (end_at t n) ≡ is_some t
end-there None n = refl
end-there (Some t) n = refl

end_kept : (b : Board) (o : Order) (r : Option Order) → Alike o r → is_some (afterwards b r).end ≡ true → is_some (end_time o) ≡ true
end_kept b o None a h = absurd (never h)
end_kept b o (Some p) a h =
    end-there o.end o.number ∙ sym (ap (λ (t : Option ℕ). is_some t) a.1) ∙ sym (end-there p.end p.number) ∙ h

bid-after : (b : Board) (r : Option Order) → entry_of (bid_entry b) r ≡ (afterwards b r).bid
bid-after b None = refl
bid-after b (Some o) = refl

offer-after : (b : Board) (r : Option Order) → entry_of (offer_entry b) r ≡ (afterwards b r).offer
offer-after b None = refl
offer-after b (Some o) = refl

end_after : (b : Board) (r : Option Order) → entry_of end_time r ≡ (afterwards b r).end
end_after b None = refl
end_after b (Some o) = refl

-- a function of orders that agrees with another on a list
each_same : {X : Type 0} (os : List Order) (e e' : Order → Option X) → ((p : Order) → In p os → e p ≡ e' p) → each e os ≡ each e' os
unfolding each
each_same [] e e' h = refl
each_same (o ∷ os) e e' h = cons (h o (inl refl)) (each_same os e e' (λ p i. h p (inr i)))
  where
    cons : {X : Type 0} {x y : Option X} {xs ys : List (Option X)} → x ≡ y → xs ≡ ys → (x ∷ xs) ≡ (y ∷ ys)
    cons p q = cc

-- ---- the lines

module _ {L B O E : Type 0} (bl : Ghosts B BidRank) (ol : Ghosts O OfferRank) (el : Ghosts E EndTime) where
  -- one order becomes r, or goes; the others stand as they stood
  pub requeued : (m m' : Memory L B O E) (b b' : Board) (os : List Order) (o : Order) (r : Option Order) (n : ℕ) → Ascends 1 n os → In o os →
      Keeps o.number r → Alike o r → ((p : Order) → In p os → ¬ (p.number ≡ o.number) → standing b' p ≡ standing b p) →
      Relisted bl ol el m m' (entries_of b o) (afterwards b' r) → Queued bl ol el m os b → Queued bl ol el m' (replace o.number r os) b'
  requeued m m' b b' os o r n up here keeps alike others made q =
      record {
        bids = made.bids.lists b b' os o r n up here keeps refl (bid-after b' r) (bid-kept b b' o r alike) (λ p i d. bid-same b b' p (others p i d)) q.bids;
        offers = made.offers.lists b b' os o r n up here keeps refl (offer-after b' r) (offer-kept b b' o r alike) (λ p i d. offer-same b b' p (others p i d)) q.offers;
        ends = made.ends.lists b b' os o r n up here keeps refl (end_after b' r) (end_kept b' o r alike) (λ p i d. refl) q.ends;
      }

  -- one order more
  pub queued-more : (m m' : Memory L B O E) (b : Board) (os : List Order) (o : Order) (n : ℕ) → Ascends 1 n os → n ≤ o.number →
      (on Bid o ≡ true → count (on Bid) os < bl.room m.bids) → (on Offer o ≡ true → count (on Offer) os < ol.room m.offers) →
      (ending o ≡ true → count ending os < el.room m.ends) →
      Enlisted bl ol el m m' (entries_of b o) → Queued bl ol el m os b → Queued bl ol el m' (os ++ (o ∷ [])) b
  queued-more m m' b os o n up above x y z made q =
      record {
        bids = made.bids.lists b os o n up above refl x q.bids;
        offers = made.offers.lists b os o n up above refl y q.offers;
        ends = made.ends.lists b os o n up above refl z q.ends;
      }

  -- the same orders in the same lines, on a board where they stand as they stood
  pub queued-still : (m : Memory L B O E) (b b' : Board) (os : List Order) → ((p : Order) → In p os → standing b' p ≡ standing b p) →
      Queued bl ol el m os b → Queued bl ol el m os b'
  queued-still m b b' os still q =
      record {
        bids = lists-alike bl m.bids os os (bid_entry b) (bid_entry b') (each_same os (bid_entry b) (bid_entry b') (λ p i. sym (bid-same b b' p (still p i)))) q.bids;
        offers = lists-alike ol m.offers os os (offer_entry b) (offer_entry b') (each_same os (offer_entry b) (offer_entry b') (λ p i. sym (offer-same b b' p (still p i)))) q.offers;
        ends = q.ends;
      }

  -- the lines are left alone
  pub queued-by : (m m' : Memory L B O E) (os : List Order) (b : Board) → m'.bids ≡ m.bids → m'.offers ≡ m.offers → m'.ends ≡ m.ends →
      Queued bl ol el m os b → Queued bl ol el m' os b
  queued-by m m' os b x y z q =
      record {
        bids = subst (λ (l : B). Lists bid_ahead bl l os (bid_entry b)) (sym x) q.bids;
        offers = subst (λ (l : O). Lists offer_ahead ol l os (offer_entry b)) (sym y) q.offers;
        ends = subst (λ (l : E). Lists end_ahead el l os end_time) (sym z) q.ends;
      }

  -- ---- settings and rooms

  opening-is : (m m' : Memory L B O E) → m'.settings ≡ m.settings → bl.room m'.bids ≡ bl.room m.bids →
      ol.room m'.offers ≡ ol.room m.offers → el.room m'.ends ≡ el.room m.ends → opening_of bl ol el m' ≡ opening_of bl ol el m
  opening-is m m' s x y z =
      let make : Settings → ℕ → ℕ → ℕ → Opening = λ t p q r. record { settings = t; bids = p; offers = q; ends = r } in
      ap (λ t. make t (bl.room m'.bids) (ol.room m'.offers) (el.room m'.ends)) s ∙
      ap (λ p. make m.settings p (ol.room m'.offers) (el.room m'.ends)) x ∙
      ap (λ q. make m.settings (bl.room m.bids) q (el.room m'.ends)) y ∙
      ap (make m.settings (bl.room m.bids) (ol.room m.offers)) z

  pub opening-relisted : (m m' : Memory L B O E) (old new : Entries) → Relisted bl ol el m m' old new → opening_of bl ol el m' ≡ opening_of bl ol el m
  opening-relisted m m' old new r = opening-is m m' r.same.settings r.bids.room r.offers.room r.ends.room

  pub opening-enlisted : (m m' : Memory L B O E) (new : Entries) → Enlisted bl ol el m m' new → opening_of bl ol el m' ≡ opening_of bl ol el m
  opening-enlisted m m' new r = opening-is m m' r.same.settings r.bids.room r.offers.room r.ends.room

  pub opening-reranked : (m m' : Memory L B O E) → Reranked bl ol el m m' → opening_of bl ol el m' ≡ opening_of bl ol el m
  opening-reranked m m' r = opening-is m m' r.same.settings r.bids.room r.offers.room (ap el.room r.ends)

  pub opening-alone : (m m' : Memory L B O E) → m'.settings ≡ m.settings → m'.bids ≡ m.bids → m'.offers ≡ m.offers → m'.ends ≡ m.ends →
      opening_of bl ol el m' ≡ opening_of bl ol el m
  opening-alone m m' s x y z = opening-is m m' s (ap bl.room x) (ap ol.room y) (ap el.room z)
