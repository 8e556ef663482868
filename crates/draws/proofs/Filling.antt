-- A fill settled for both of its orders is the fill of the rules. Assumes nothing.
use Rattle.std.proofs.Common.{◌≡◌, ℕ, ◌+◌, ◌-◌, ◌^◌, ◌<◌, List, ℤ, Option, sym, ap, ◌∙◌, subst, arith}
use Rattle.market.specs.declared.order.Order.{Order}
use Rattle.market.specs.declared.record.Fill.{Fill}
use Rattle.rules.specs.Board.{Board, in_session}
use Rattle.rules.specs.Entitlement.{prior_left}
use Rattle.rules.specs.Fills.{Remainder, stays, restocks, leaves, drawn, stamp_after, size_of, remainder, remainder_of, displayed_of, session_after, fill_price, bid_after, offer_after, fill_of, filled_board, drawn_from}
use Rattle.rules.specs.Members.{In}
use Rattle.rules.specs.Rising.{Ascends}
use Rattle.rules.proofs.Rows.{write-there, ascends-replace, replace-in}
use Rattle.board.specs.Memory.{Bounded, Reserved}
use Rattle.draws.specs.Settled.{left_of, settled_board, SettledBy, Traded, FilledBy}
use Rattle.draws.specs.declared.fills.Filled.{Filled}
use Rattle.draws.proofs.Settling.{keeps-left}

stamp-room : (f : Remainder) (s : ℕ) → s + 2 < 2 ^ 64 → stamp_after f s + 1 < 2 ^ 64
stamp-room stays s h = omega arith
stamp-room (restocks m) s h = omega arith
stamp-room leaves s h = omega arith

-- the board after both orders are settled, with the fill counted and the session's last fill told
abbrev pub finished : ℕ → Order → Order → Board → Board
finished n bid offer b =
    record {
      orders = b.orders;
      phase = b.phase;
      clock = b.clock;
      counters = record {
        number = b.counters.number;
        stamp = b.counters.stamp;
        fills = n;
        writes = b.counters.writes;
        incoming = b.counters.incoming;
      };
      session = session_after b.phase (prior_left b.orders) b.clock.time bid offer b.session;
      completions = b.completions;
      privileges = b.privileges;
    }

abbrev pub fill_with : Order → Order → ℤ → ℕ → ℕ → ℕ → Fill
fill_with bid offer price size x y =
    record { price = price; size = size; bid = bid.number; bidleft = x; offer = offer.number; offerleft = y }

same-fill : (bid offer : Order) {p p' : ℤ} {size x x' y y' : ℕ} → p ≡ p' → x ≡ x' → y ≡ y' → fill_with bid offer p size x y ≡ fill_with bid offer p' size x' y'
same-fill bid offer e f g = cc

module _ (h : ℕ → ℕ) (b : Board) (bid offer : Order) (size n : ℕ) (apart : bid.number ≡ offer.number → ⊥) where
  abbrev f : Remainder
  f = remainder_of h size bid

  abbrev g : Remainder
  g = remainder_of h size offer

  -- the reserves after the bid is settled
  abbrev pub between : ℕ → ℕ
  between = drawn_from h bid f

  abbrev halfway : Board
  halfway = settled_board b bid size n f

  -- what the offer's part of the fill asks holds after the bid's
  pub onward : (k m : ℕ) (b' : Board) → b' ≡ halfway → Bounded b → Ascends k m b.orders → In offer b.orders →
      (b'.counters.stamp + 1 < 2 ^ 64) × Ascends k m b'.orders × In offer b'.orders
  unfolding settled_board
  onward k m b' e w a i =
      subst (λ (x : Board). (x.counters.stamp + 1 < 2 ^ 64) × Ascends k m x.orders × In offer x.orders) (sym e) (
        stamp-room f b.counters.stamp w.stamp,
        ascends-replace k m bid.number (left_of b bid size n f) b.orders (keeps-left f b.counters.stamp (in_session b.phase) n size bid) a,
        replace-in bid.number (left_of b bid size n f) b.orders offer i (λ q. apart (sym q)),
      )

  -- the bid's part leaves the offer's reserve as it is
  same-remainder : remainder_of between size offer ≡ g
  unfolding remainder_of
  same-remainder =
      ap (remainder (offer.displayed - size) offer.shown) (write-there bid.number (h bid.number - drawn f) h offer.number (λ q. apart (sym q)))

  module _ (b' b'' : Board) (rs' rs'' : List ℕ) (x y : Option Order) (one : SettledBy h b bid size n b' rs' x) (two : SettledBy between b' offer size n b'' rs'' y) (e : n ≡ b.counters.fills + 1) where
    both-settled : b'' ≡ settled_board halfway offer size n g
    both-settled = two.board ∙ ap (λ r. settled_board b' offer size n r) same-remainder ∙ ap (λ c. settled_board c offer size n g) one.board

    bid-left : x ≡ bid_after b bid size f
    bid-left = one.order ∙ ap (λ n. left_of b bid size n f) e

    offer-left : y ≡ offer_after b offer size f g
    unfolding settled_board
    offer-left =
        two.order ∙ ap (λ r. left_of b' offer size n r) same-remainder ∙ ap (λ c. left_of c offer size n g) one.board ∙
        ap (λ n. left_of (settled_board b bid size n f) offer size n g) e

    finished-is : finished n bid offer b'' ≡ filled_board b bid offer size f g
    unfolding settled_board filled_board
    finished-is =
        ap (finished n bid offer) both-settled ∙
        ap (λ n. finished n bid offer (settled_board (settled_board b bid size n f) offer size n g)) e

    traded : (price : ℤ) → price ≡ fill_price (in_session b.phase) b bid offer → (u v : ℕ) → u ≡ displayed_of x → v ≡ displayed_of y →
        (c : Board) → c ≡ finished n bid offer b'' → (r : Filled) → r ≡ record { fill = fill_with bid offer price size u v; bid = x; offer = y } →
        Traded h b bid offer size f g c rs'' r
    unfolding fill_of
    traded price p u v s t c d r q =
        record {
          board = d ∙ finished-is;
          told = ap (λ (z : Filled). z.fill) q ∙ same-fill bid offer p (s ∙ ap displayed_of bid-left) (t ∙ ap displayed_of offer-left);
          bid_left = ap (λ (z : Filled). z.bid) q ∙ bid-left;
          offer_left = ap (λ (z : Filled). z.offer) q ∙ offer-left;
          reserves =
              subst (λ (z : Board). Reserved (drawn_from between offer g) z.orders rs'') (sym d)
              (subst (λ (r : Remainder). Reserved (drawn_from between offer r) b''.orders rs'') same-remainder two.reserves);
        }

    pub filled : size ≡ size_of bid offer → (price : ℤ) → price ≡ fill_price (in_session b.phase) b bid offer → (u v : ℕ) → u ≡ displayed_of x → v ≡ displayed_of y →
        (c : Board) → c ≡ finished n bid offer b'' → (r : Filled) → r ≡ record { fill = fill_with bid offer price size u v; bid = x; offer = y } →
        FilledBy h b bid offer c rs'' r
    filled is price p u v s t c d r q =
        subst (λ z. Traded h b bid offer z (remainder_of h z bid) (remainder_of h z offer) c rs'' r) is (traded price p u v s t c d r q)
