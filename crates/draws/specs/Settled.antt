-- What a fill does to one of its two orders, and to both. Assumes nothing.
use Rattle.std.specs.Prelude.{◌≡◌, ℕ, ◌+◌, ◌^◌, ◌<◌, List, Option, ◌≢◌}
use Rattle.market.specs.declared.order.Order.{Order}
use Rattle.rules.specs.Board.{Board, in_session}
use Rattle.rules.specs.Fills.{Remainder, executed, left, stamp_after, replace, completions_after, privileges_after, size_of, remainder_of, bid_after, offer_after, fill_of, filled_board, drawn_from}
use Rattle.rules.specs.Members.{In}
use Rattle.rules.specs.Rising.{Ascends}
use Rattle.board.specs.Memory.{Bounded, Reserved}
use Rattle.draws.specs.declared.fills.Filled.{Filled}

-- the order after fill n, if it is still live
abbrev pub left_of : Board → Order → ℕ → ℕ → Remainder → Option Order
left_of b o size n f = left f b.counters.stamp (executed (in_session b.phase) n size o)

-- the board after fill n is settled for one order
unfoldable pub settled_board : Board → Order → ℕ → ℕ → Remainder → Board
settled_board b o size n f =
    record {
      orders = replace o.number (left_of b o size n f) b.orders;
      phase = b.phase;
      clock = b.clock;
      counters = record {
        number = b.counters.number;
        stamp = stamp_after f b.counters.stamp;
        fills = b.counters.fills;
        writes = b.counters.writes;
        incoming = b.counters.incoming;
      };
      session = b.session;
      completions =
          completions_after f (in_session b.phase) o.trader o.side (record { fill = n; number = b.counters.number })
          b.completions;
      privileges = privileges_after f o b.privileges;
    }

-- the board, the reserves beside its orders, and what is left of the order, after fill n is settled for it; h are the reserves by
-- number before
pub record SettledBy (h : ℕ → ℕ) (b : Board) (o : Order) (size n : ℕ) (b' : Board) (rs' : List ℕ) (r : Option Order) : Type 0 where
  pub board : b' ≡ settled_board b o size n (remainder_of h size o)
  pub order : r ≡ left_of b o size n (remainder_of h size o)
  pub reserves : Reserved (drawn_from h o (remainder_of h size o)) b'.orders rs'

-- so it is for a live order, while numbers ascend and there is a stamp to take, whatever the reserves by number are
abbrev pub Settles : Board → List ℕ → Order → ℕ → ℕ → Board → List ℕ → Option Order → Type 0
Settles b rs o size n b' rs' r =
    (k m : ℕ) (h : ℕ → ℕ) → b.counters.stamp + 1 < 2 ^ 64 → Ascends k m b.orders → In o b.orders → Reserved h b.orders rs →
    SettledBy h b o size n b' rs' r

-- the board, the reserves beside its orders, and what is told, after the bid and the offer traded so much and this was left of
-- them; h are the reserves by number before
pub record Traded (h : ℕ → ℕ) (b : Board) (bid offer : Order) (size : ℕ) (f g : Remainder) (b' : Board) (rs' : List ℕ) (r : Filled) : Type 0 where
  pub board : b' ≡ filled_board b bid offer size f g
  pub told : r.fill ≡ fill_of b bid offer size f g
  pub bid_left : r.bid ≡ bid_after b bid size f
  pub offer_left : r.offer ≡ offer_after b offer size f g
  pub reserves : Reserved (drawn_from (drawn_from h bid f) offer g) b'.orders rs'

-- the same for the smaller displayed size, and for what the reserves leave of the orders
abbrev pub FilledBy : (ℕ → ℕ) → Board → Order → Order → Board → List ℕ → Filled → Type 0
FilledBy h b bid offer b' rs' r =
    Traded h b bid offer (size_of bid offer) (remainder_of h (size_of bid offer) bid) (remainder_of h (size_of bid offer) offer) b' rs' r

-- so it is for two live orders, while numbers ascend and no counter is near its end, whatever the reserves by number are
abbrev pub Fills : Board → List ℕ → Order → Order → Board → List ℕ → Filled → Type 0
Fills b rs bid offer b' rs' r =
    (k m : ℕ) (h : ℕ → ℕ) → Bounded b → Ascends k m b.orders → In bid b.orders → In offer b.orders →
    (bid.number ≢ offer.number) → Reserved h b.orders rs → FilledBy h b bid offer b' rs' r
