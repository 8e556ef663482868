-- A fill ranks its two orders anew, and leaves the others as they stood. Assumes nothing.
use Rattle.std.proofs.Common.{◌≡◌, ℕ, ◌+◌, Bool, true, false, cond, ◌&&◌, List, Some, None, Option, sym, refl, ap, ◌∙◌, subst, arith}
use Rattle.line.specs.declared.lines.Line.{Ghosts}
use Rattle.market.specs.declared.order.Side.{Side}
use Rattle.market.specs.declared.order.Side.TheVariants.{Bid, Offer}
use Rattle.market.specs.declared.order.Order.{Order}
use Rattle.market.specs.declared.state.Phase.{Phase}
use Rattle.market.specs.declared.state.Phase.TheVariants.{Open, Timed, Rolling, Fbs}
use Rattle.market.specs.declared.state.Privilege.{Privilege}
use Rattle.market.specs.Ranks.{BidRank, OfferRank}
use Rattle.market.specs.declared.rank.EndTime.{EndTime}
use Rattle.market.specs.declared.record.Record.TheVariants.{Fill}
use Rattle.rules.specs.Board.{Opening, Board, State, Table, on, in_session}
use Rattle.rules.specs.Standings.{standing, standing_in}
use Rattle.rules.specs.Entitlement.{entitled, entitled_in, first_entitled}
use Rattle.rules.specs.Privileges.{lost}
use Rattle.rules.specs.Fills.{Remainder, stays, restocks, leaves, left, executed, restocked, replace, session_after, privileges_after, size_of, remainder_of, bid_after, offer_after, filled_board, drawn_from}
use Rattle.rules.specs.Draws.{fills, decided, board_after, hidden_after, record_of}
use Rattle.rules.specs.Members.{In}
use Rattle.rules.specs.Rising.{Ascends, Keeps}
use Rattle.rules.proofs.Firsts.{first-in}
use Rattle.rules.proofs.Reasons.{Why, why}
use Rattle.rules.proofs.Rows.{ascends-unique, ascends-replace, replace-in}
use Rattle.rules.proofs.Tests.{same_true}
use Rattle.invariants.specs.Sound.{Sound}
use Rattle.board.specs.Memory.{Reserved}
use Rattle.draws.specs.Settled.{Fills}
use Rattle.draws.specs.declared.fills.Filled.{Filled}
use Rattle.memory.specs.declared.memory.Memory.{Memory}
use Rattle.memory.specs.declared.entries.Entries.{Entries}
use Rattle.memory.specs.Entries.{entries_of, afterwards}
use Rattle.memory.specs.Shown.{Queued, Shows, Relisted}
use Rattle.memory.proofs.Bounds.{bounded}
use Rattle.memory.proofs.Kept.{lost-unseen, standing-unseen}
use Rattle.memory.proofs.Queues.{Alike, requeued, bid-same, offer-same, opening-relisted, opening-alone, queued-by}
use Rattle.memory.proofs.Showing.{Untouched}
use Rattle.drawing.specs.Does.{after}

-- ---- what is left of an order keeps its number, side and end

left-keeps : (f : Remainder) (stamp : ℕ) (o p : Order) → p.number ≡ o.number → Keeps o.number (left f stamp p)
unfolding restocked
left-keeps stays stamp o p e = e
left-keeps (restocks m) stamp o p e = e
left-keeps leaves stamp o p e = tt

left-alike : (f : Remainder) (stamp : ℕ) (o p : Order) → p.side ≡ o.side → p.end ≡ o.end → Alike o (left f stamp p)
unfolding restocked
left-alike stays stamp o p e d = (e, d)
left-alike (restocks m) stamp o p e d = (e, d)
left-alike leaves stamp o p e d = tt

-- ---- standings

-- the privilege that one order may lose leaves the others
after-unseen : (f : Remainder) (o : Order) (ph : Phase) (x y : Option ℕ) (ps : Table Privilege) (p : Order) → ¬ (p.number ≡ o.number) →
    standing_in ph x y (privileges_after f o ps) p ≡ standing_in ph x y ps p
after-unseen stays o ph x y ps p h = refl
after-unseen (restocks m) o ph x y ps p h = refl
after-unseen leaves o ph x y ps p h = standing-unseen o.number (lost o.number) o.trader o.side ph x y ps p (lost-unseen o.number) h

-- a session's last traders are not looked at before it ends
last-same : (ph : Phase) (u v x y : Option ℕ) (ps : Table Privilege) (p : Order) →
    standing_in ph (cond (in_session ph) u x) (cond (in_session ph) v y) ps p ≡ standing_in ph x y ps p
last-same Open u v x y ps p = refl
last-same Timed u v x y ps p = refl
last-same Rolling u v x y ps p = refl
last-same Fbs u v x y ps p = refl

-- the board once the bid has lost what it may lose
halfway : Board → Order → Remainder → Board
halfway b bid f =
    record {
      orders = b.orders;
      phase = b.phase;
      clock = b.clock;
      counters = b.counters;
      session = b.session;
      completions = b.completions;
      privileges = privileges_after f bid b.privileges;
    }

first-half : (b : Board) (bid : Order) (f : Remainder) (p : Order) → ¬ (p.number ≡ bid.number) → standing (halfway b bid f) p ≡ standing b p
unfolding standing halfway
first-half b bid f p h = after-unseen f bid b.phase b.session.buyer b.session.seller b.privileges p h

second-half : (b : Board) (bid offer : Order) (size : ℕ) (f g : Remainder) (p : Order) → ¬ (p.number ≡ offer.number) →
    standing (filled_board b bid offer size f g) p ≡ standing (halfway b bid f) p
unfolding standing halfway filled_board session_after
second-half b bid offer size f g p h =
    last-same b.phase (Some bid.trader) (Some offer.trader) b.session.buyer b.session.seller
    (privileges_after g offer (privileges_after f bid b.privileges)) p ∙
    after-unseen g offer b.phase b.session.buyer b.session.seller (privileges_after f bid b.privileges) p h

-- ---- entries

entries-same : (b b' : Board) (p : Order) → standing b' p ≡ standing b p → entries_of b' p ≡ entries_of b p
entries-same b b' p e =
    let make : Option BidRank → Option OfferRank → Entries = λ x y. record { bid = x; offer = y; end = (entries_of b p).end } in
    ap (λ x. make x (entries_of b' p).offer) (bid-same b b' p e) ∙ ap (make (entries_of b p).bid) (offer-same b b' p e)

afterwards-same : (b b' : Board) (n : ℕ) (r : Option Order) → Keeps n r → ((p : Order) → p.number ≡ n → standing b' p ≡ standing b p) →
    afterwards b' r ≡ afterwards b r
afterwards-same b b' n None k h = refl
afterwards-same b b' n (Some p) k h = entries-same b b' p (h p k)

-- ---- the pair

and_left : (a b : Bool) → a && b ≡ true → a ≡ true
and_left true b h = refl
and_left false b h = h

sided : (b : Board) (s : Side) (o : Order) → first_entitled b s ≡ Some o → In o b.orders × (o.side ≡ s)
unfolding first_entitled entitled
sided b s o e =
    let i = first-in (entitled b s) _ b.orders o e in
    (i.0, same_true s o.side (and_left (on s o) (entitled_in b.phase b o) i.1))

bid-is-no-offer : Bid ≡ Offer → ⊥
bid-is-no-offer e = let zero-is-one : ◌≡◌ {A = ℕ} 0 1 = cc in omega arith

apart : (k m : ℕ) (os : List Order) (x y : Order) → Ascends k m os → In x os → In y os → x.side ≡ Bid → y.side ≡ Offer → x.number ≡ y.number → ⊥
apart k m os x y up i j p q e = bid-is-no-offer (sym p ∙ ap (λ (o : Order). o.side) (ascends-unique k m os x y up i j e) ∙ q)

module _ {L B O E : Type 0} (bl : Ghosts B BidRank) (ol : Ghosts O OfferRank) (el : Ghosts E EndTime) where
  -- the lines, after both orders are listed anew
  pair-queued : (m m₁ m₂ m₃ : Memory L B O E) (b : Board) (bid offer : Order) (size : ℕ) (f g : Remainder) (n : ℕ) (old new old' new' : Entries) →
      Ascends 1 n b.orders → In bid b.orders → In offer b.orders → (bid.number ≡ offer.number → ⊥) → Untouched bl ol el m m₁ →
      old ≡ entries_of b bid → new ≡ afterwards (filled_board b bid offer size f g) (bid_after b bid size f) →
      old' ≡ entries_of b offer → new' ≡ afterwards (filled_board b bid offer size f g) (offer_after b offer size f g) →
      Relisted bl ol el m₁ m₂ old new → Relisted bl ol el m₂ m₃ old' new' → Queued bl ol el m b.orders b →
      Queued bl ol el m₃ (filled_board b bid offer size f g).orders (filled_board b bid offer size f g)
  unfolding filled_board executed
  pair-queued m m₁ m₂ m₃ b bid offer size f g n old new old' new' up here there ne u e₁ e₂ e₃ e₄ r₁ r₂ q =
      let b' = filled_board b bid offer size f g in
      let bid' = bid_after b bid size f in
      let offer' = offer_after b offer size f g in
      let keeps₁ : Keeps bid.number bid' = left-keeps f b.counters.stamp bid (executed (in_session b.phase) (b.counters.fills + 1) size bid) refl in
      let keeps₂ : Keeps offer.number offer' = left-keeps g _ offer (executed (in_session b.phase) (b.counters.fills + 1) size offer) refl in
      let alike₁ : Alike bid bid' = left-alike f b.counters.stamp bid (executed (in_session b.phase) (b.counters.fills + 1) size bid) refl refl in
      let alike₂ : Alike offer offer' = left-alike g _ offer (executed (in_session b.phase) (b.counters.fills + 1) size offer) refl refl in
      let half : afterwards b' bid' ≡ afterwards (halfway b bid f) bid' =
      afterwards-same (halfway b bid f) b' bid.number bid' keeps₁ (λ p e. second-half b bid offer size f g p (λ z. ne (sym e ∙ z))) in
      let made₁ : Relisted bl ol el m₁ m₂ (entries_of b bid) (afterwards (halfway b bid f) bid') =
      subst (λ (x : Entries). Relisted bl ol el m₁ m₂ (entries_of b bid) x) (e₂ ∙ half) (subst (λ (x : Entries). Relisted bl ol el m₁ m₂ x new) e₁ r₁) in
      let made₂ : Relisted bl ol el m₂ m₃ (entries_of (halfway b bid f) offer) (afterwards b' offer') =
      subst (λ (x : Entries). Relisted bl ol el m₂ m₃ (entries_of (halfway b bid f) offer) x) e₄
      (subst (λ (x : Entries). Relisted bl ol el m₂ m₃ x new') (e₃ ∙ sym (entries-same b (halfway b bid f) offer (first-half b bid f offer (λ z. ne (sym z))))) r₂) in
      let q₁ = requeued bl ol el m₁ m₂ b (halfway b bid f) b.orders bid bid' n up here keeps₁ alike₁ (λ p i d. first-half b bid f p d) made₁
      (queued-by bl ol el m m₁ b.orders b u.bids u.offers u.ends q) in
      requeued bl ol el m₂ m₃ (halfway b bid f) b' (replace bid.number bid' b.orders) offer offer' n
      (ascends-replace 1 n bid.number bid' b.orders keeps₁ up)
      (replace-in bid.number bid' b.orders offer there (λ z. ne (sym z))) keeps₂ alike₂
      (λ p i d. second-half b bid offer size f g p d) made₂ q₁

  -- the state after a fill
  pub traded : (m m₁ m₂ m₃ : Memory L B O E) (k : Opening) (S : State) (bid offer : Order) (r : Filled) (old new old' new' : Entries) →
      Sound k S → Shows bl ol el m k S → decided k S.board ≡ fills bid offer → Untouched bl ol el m m₁ →
      Fills m.board m.reserves.items bid offer m₁.board m₁.reserves.items r →
      old ≡ entries_of m.board bid → new ≡ afterwards m₁.board r.bid →
      old' ≡ entries_of m.board offer → new' ≡ afterwards m₁.board r.offer →
      Relisted bl ol el m₁ m₂ old new → Relisted bl ol el m₂ m₃ old' new' →
      Shows bl ol el m₃ k (after S (fills bid offer)) × (Fill m.board.clock.time r.fill ≡ record_of S.hidden S.board (fills bid offer))
  unfolding board_after hidden_after record_of
  traded m m₁ m₂ m₃ k S bid offer r old new old' new' sound w d u filled e₁ e₂ e₃ e₄ r₁ r₂ =
      let b = S.board in
      let n = b.counters.number in
      let size = size_of bid offer in
      let f = remainder_of S.hidden size bid in
      let g = remainder_of S.hidden size offer in
      let b' = filled_board b bid offer size f g in
      let pair : Why k b (fills bid offer) = subst (Why k b) d (why k b) in
      let x = sided b Bid bid pair.0 in
      let y = sided b Offer offer pair.1 in
      let up = sound.row.rising in
      let ne : bid.number ≡ offer.number → ⊥ = apart 1 n b.orders bid offer up x.0 y.0 x.1 y.1 in
      let t = subst (λ (v : Board). Fills v m.reserves.items bid offer m₁.board m₁.reserves.items r) w.board filled
      1 n S.hidden (bounded k S sound) up x.0 y.0 ne w.reserves in (
        record {
          opening =
              opening-relisted bl ol el m₂ m₃ old' new' r₂ ∙ opening-relisted bl ol el m₁ m₂ old new r₁ ∙
              opening-alone bl ol el m m₁ u.settings u.bids u.offers u.ends ∙ w.opening;
          board = r₂.same.board ∙ r₁.same.board ∙ t.board;
          reserves = subst (λ (v : Board). Reserved (drawn_from (drawn_from S.hidden bid f) offer g) v.orders m₃.reserves.items) t.board
              (t.reserves ∙ sym (ap (λ v. v.items) (r₂.same.reserves ∙ r₁.same.reserves)));
          queued = pair-queued m m₁ m₂ m₃ b bid offer size f g n old new old' new' up x.0 y.0 ne u
              (e₁ ∙ ap (λ (v : Board). entries_of v bid) w.board)
              (e₂ ∙ ap (λ (v : Board). afterwards v r.bid) t.board ∙ ap (λ (v : Option Order). afterwards b' v) t.bid_left)
              (e₃ ∙ ap (λ (v : Board). entries_of v offer) w.board)
              (e₄ ∙ ap (λ (v : Board). afterwards v r.offer) t.board ∙ ap (λ (v : Option Order). afterwards b' v) t.offer_left) r₁ r₂ w.queued;
        },
        ap (λ (v : Board). Fill v.clock.time r.fill) w.board ∙ ap (Fill b.clock.time) t.told,
      )
