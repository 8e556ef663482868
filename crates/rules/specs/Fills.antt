-- What a fill does to its two orders and to the board. A reserve is read in `remainder` alone. Assumes nothing.
use Rattle.std.specs.Prelude.{ℕ, ◌+◌, ◌-◌, min, Bool, true, false, cond, not, ◌&&◌, List, [], ◌∷◌, ℤ, Some, None, Option, ◌==◌}
use Rattle.market.specs.declared.order.Side.{Side}
use Rattle.market.specs.declared.order.Order.{Order}
use Rattle.market.specs.declared.state.Phase.{Phase}
use Rattle.market.specs.declared.state.Phase.TheVariants.{Open, Timed, Rolling, Fbs}
use Rattle.market.specs.declared.state.Session.{Session}
use Rattle.market.specs.declared.state.Completion.{Completion}
use Rattle.market.specs.declared.state.Privilege.{Privilege}
use Rattle.market.specs.declared.record.Fill.{Fill}
use Rattle.rules.specs.Base.{names, write}
use Rattle.rules.specs.Board.{Board, Table, numbered, in_session}
use Rattle.rules.specs.Entitlement.{prior_left}
use Rattle.rules.specs.Privileges.{completed, lost, adjust}

-- ---- the reserve

-- what a fill leaves of an order: it stays as it is, draws so much from its reserve, or leaves, filled whole
pub data Remainder : Type 0 where
  stays : Remainder
  restocks : ℕ → Remainder
  leaves : Remainder

abbrev pub drawing : ℕ → Remainder
drawing m = cond (m == 0) leaves (restocks m)

-- a fill that leaves nothing displayed draws the smaller of shown size and reserve
unfoldable pub remainder : ℕ → ℕ → ℕ → Remainder
remainder left shown reserve = cond (left == 0) (drawing (min shown reserve)) stays

abbrev pub drawn : Remainder → ℕ
drawn stays = 0
drawn (restocks m) = m
drawn leaves = 0

-- ---- the two orders

abbrev pub first_fill : Bool → ℕ → Option ℕ → Option ℕ
first_fill session n None = cond session (Some n) None
first_fill session n (Some k) = Some k

-- the order after fill n took this size of what it displayed
unfoldable pub executed : Bool → ℕ → ℕ → Order → Order
executed session n size o =
    record {
      number = o.number;
      trader = o.trader;
      side = o.side;
      kind = o.kind;
      price = o.price;
      displayed = o.displayed - size;
      shown = o.shown;
      end = o.end;
      stamp = o.stamp;
      filled = true;
      first = first_fill session n o.first;
      prior = o.prior;
    }

-- the order with m displayed and a new stamp: it is prior no more
unfoldable pub restocked : ℕ → ℕ → Order → Order
restocked m stamp o =
    record {
      number = o.number;
      trader = o.trader;
      side = o.side;
      kind = o.kind;
      price = o.price;
      displayed = m;
      shown = o.shown;
      end = o.end;
      stamp = stamp;
      filled = o.filled;
      first = o.first;
      prior = false;
    }

abbrev pub left : Remainder → ℕ → Order → Option Order
left stays stamp o = Some o
left (restocks m) stamp o = Some (restocked m stamp o)
left leaves stamp o = None

-- a restock takes a stamp
abbrev pub stamp_after : Remainder → ℕ → ℕ
stamp_after stays n = n
stamp_after (restocks m) n = n + 1
stamp_after leaves n = n

abbrev pub displayed_of : Option Order → ℕ
displayed_of None = 0
displayed_of (Some o) = o.displayed

abbrev pub replacing : Bool → Option Order → Order → List Order → List Order
replacing false r o os = o ∷ os
replacing true None o os = os
replacing true (Some p) o os = p ∷ os

-- order n becomes r, or goes
unfoldable pub replace : ℕ → Option Order → List Order → List Order
replace n r [] = []
replace n r (o ∷ os) = replacing (numbered n o) r o (replace n r os)

-- ---- the rest of the board

abbrev pub completions_after : Remainder → Bool → ℕ → Side → Completion → Table Completion → Table Completion
completions_after stays session t s c cs = cs
completions_after (restocks m) session t s c cs = cs
completions_after leaves false t s c cs = cs
completions_after leaves true t s c cs = completed t s c cs

abbrev pub privileges_after : Remainder → Order → Table Privilege → Table Privilege
privileges_after stays o ps = ps
privileges_after (restocks m) o ps = ps
privileges_after leaves o ps = adjust (lost o.number) o.trader o.side ps

-- no prior order is left before the session's first quiet: the trigger's trader owns the aggressive side
abbrev pub aggressor_after : Phase → Bool → Session → Option ℕ
aggressor_after Open priors s = s.aggressor
aggressor_after Timed priors s = cond (not s.settled && not priors) (Some s.trigger) s.aggressor
aggressor_after Rolling priors s = s.aggressor
aggressor_after Fbs priors s = s.aggressor

-- a session's last fill, and who made it
unfoldable pub session_after : Phase → Bool → ℕ → Order → Order → Session → Session
session_after phase priors time bid offer s =
    record {
      price = s.price;
      passive = s.passive;
      owner = s.owner;
      trigger = s.trigger;
      aggressor = aggressor_after phase priors s;
      settled = s.settled;
      since = s.since;
      last = cond (in_session phase) time s.last;
      buyer = cond (in_session phase) (Some bid.trader) s.buyer;
      seller = cond (in_session phase) (Some offer.trader) s.seller;
    }

-- in a session at its price, otherwise at the price of the order that is not incoming
abbrev pub fill_price : Bool → Board → Order → Order → ℤ
fill_price true b bid offer = b.session.price
fill_price false b bid offer = cond (names b.counters.incoming bid.number) offer.price bid.price

-- the smaller displayed size
unfoldable pub size_of : Order → Order → ℕ
size_of bid offer = min bid.displayed offer.displayed

unfoldable pub remainder_of : (ℕ → ℕ) → ℕ → Order → Remainder
remainder_of h size o = remainder (o.displayed - size) o.shown (h o.number)

-- the two orders after the fill, the bid's restock first
abbrev pub bid_after : Board → Order → ℕ → Remainder → Option Order
bid_after b bid size f = left f b.counters.stamp (executed (in_session b.phase) (b.counters.fills + 1) size bid)

abbrev pub offer_after : Board → Order → ℕ → Remainder → Remainder → Option Order
offer_after b offer size f g =
    left g (stamp_after f b.counters.stamp) (executed (in_session b.phase) (b.counters.fills + 1) size offer)

abbrev pub orders_after : Board → Order → Order → ℕ → Remainder → Remainder → List Order
orders_after b bid offer size f g =
    replace offer.number (offer_after b offer size f g) (replace bid.number (bid_after b bid size f) b.orders)

abbrev pub completion_now : Board → Completion
completion_now b = record { fill = b.counters.fills + 1; number = b.counters.number }

-- what the tape tells of the fill
unfoldable pub fill_of : Board → Order → Order → ℕ → Remainder → Remainder → Fill
fill_of b bid offer size f g =
    record {
      price = fill_price (in_session b.phase) b bid offer;
      size = size;
      bid = bid.number;
      bidleft = displayed_of (bid_after b bid size f);
      offer = offer.number;
      offerleft = displayed_of (offer_after b offer size f g);
    }

-- the board after a fill of `size`, by what it leaves of the two orders
unfoldable pub filled_board : Board → Order → Order → ℕ → Remainder → Remainder → Board
filled_board b bid offer size f g =
    record {
      orders = orders_after b bid offer size f g;
      phase = b.phase;
      clock = b.clock;
      counters = record {
        number = b.counters.number;
        stamp = stamp_after g (stamp_after f b.counters.stamp);
        fills = b.counters.fills + 1;
        writes = b.counters.writes;
        incoming = b.counters.incoming;
      };
      session =
          session_after b.phase (prior_left (orders_after b bid offer size f g)) b.clock.time bid offer b.session;
      completions =
          completions_after g (in_session b.phase) offer.trader offer.side (completion_now b)
          (completions_after f (in_session b.phase) bid.trader bid.side (completion_now b) b.completions);
      privileges = privileges_after g offer (privileges_after f bid b.privileges);
    }

-- the reserves after it
abbrev pub drawn_from : (ℕ → ℕ) → Order → Remainder → ℕ → ℕ
drawn_from h o f = write o.number (h o.number - drawn f) h
