-- One draw does the first of five things that applies, and answers one record. Assumes nothing.
use Rattle.std.specs.Prelude.{ℕ, ◌+◌, max, Bool, true, false, cond, not, ◌&&◌, List, ℤ, Some, None, Option, nat_le, nat_lt}
use Rattle.market.specs.declared.settings.Settings.{Settings}
use Rattle.market.specs.declared.order.Side.{Side}
use Rattle.market.specs.declared.order.Side.TheVariants.{Bid, Offer}
use Rattle.market.specs.declared.order.OrderType.{OrderType}
use Rattle.market.specs.declared.order.OrderType.TheVariants.{FaS, FaK, FaKI}
use Rattle.market.specs.declared.order.Order.{Order}
use Rattle.market.specs.declared.state.Phase.{Phase}
use Rattle.market.specs.declared.state.Phase.TheVariants.{Open, Timed, Rolling, Fbs}
use Rattle.market.specs.declared.state.Clock.{Clock}
use Rattle.market.specs.declared.state.Session.{Session}
use Rattle.market.specs.declared.state.Privilege.{Privilege}
use Rattle.market.specs.declared.record.Cause.{Cause}
use Rattle.market.specs.declared.record.Cause.TheVariants.{FaKI as ImmediateCause, FaK as KillCause, End as EndCause}
use Rattle.market.specs.declared.record.Record.{Record}
use Rattle.market.specs.declared.record.Record.TheVariants.{Quiet, Fill, Session as SessionRecord, Rolling as RollingRecord, Fbs as FbsRecord, Open as OpenRecord, Removal}
use Rattle.rules.specs.Base.{eq_z, or_else, only_if, find, first, each}
use Rattle.rules.specs.Board.{Opening, Board, State, Table, empty, other, on, meet, in_session, is_open, numbered, ordered}
use Rattle.rules.specs.Standings.{ahead}
use Rattle.rules.specs.Entitlement.{first_entitled}
use Rattle.rules.specs.Privileges.{granted, freed, adjust}
use Rattle.rules.specs.Fills.{size_of, remainder_of, replace, fill_of, filled_board, drawn_from}

-- ---- which step applies

pub data Step : Type 0 where
  begins : (trigger passive : Order) → Step
  fills : (bid offer : Order) → Step
  removes : Order → Cause → Step
  turns : (time : ℕ) → Step
  expires : Order → (time : ℕ) → Step
  rests : Step

abbrev pub both : (Order → Order → Step) → Option Order → Option Order → Option Step
both f None y = None
both f (Some x) None = None
both f (Some x) (Some y) = Some (f x y)

-- the incoming order, if it is live
abbrev pub incoming_of : Option ℕ → List Order → Option Order
incoming_of None os = None
incoming_of (Some n) os = ordered n os

-- the first by rank of the side that an order meets
abbrev pub passive_for : Board → Option Order → Option Order
passive_for b None = None
passive_for b (Some o) = first (on (other o.side)) (ahead b) b.orders

-- step 1: in Open, if prices meet, a session begins; the incoming order triggers it
unfoldable pub opening : Board → Option Step
opening b =
    let trigger = incoming_of b.counters.incoming b.orders in
    only_if (is_open b.phase && meet b.orders) (both begins trigger (passive_for b trigger))

-- step 2: the first entitled order of each side trade
unfoldable pub pairing : Board → Option Step
pairing b = both fills (first_entitled b Bid) (first_entitled b Offer)

abbrev pub must_go : Bool → OrderType → Bool → Bool
must_go session FaS filled = false
must_go session FaK filled = filled && not session
must_go session FaKI filled = true

abbrev pub cause_of : OrderType → Cause
cause_of FaS = KillCause
cause_of FaK = KillCause
cause_of FaKI = ImmediateCause

-- it is FaKI, or is FaK, filled in part and outside a session
unfoldable pub goes : Board → Order → Bool
goes b o = must_go (in_session b.phase) o.kind o.filled

abbrev pub as_removal : Option Order → Option Step
as_removal None = None
as_removal (Some o) = Some (removes o (cause_of o.kind))

-- step 3: the lowest-numbered order that must go is removed
unfoldable pub removing : Board → Option Step
removing b = as_removal (find (goes b) b.orders)

-- when the phase ends
abbrev pub phase_end : Phase → Settings → Session → Option ℕ
phase_end Open s c = None
phase_end Timed s c = Some (c.since + s.timed)
phase_end Rolling s c = Some (max c.since (c.last + s.rolling))
phase_end Fbs s c = Some (c.since + s.fbs)

abbrev pub ends_by : ℕ → Option ℕ → Bool
ends_by t None = false
ends_by t (Some e) = nat_le e t

abbrev pub due_by : ℕ → Order → Bool
due_by t o = ends_by t o.end

abbrev pub before : Option ℕ → Option ℕ → Bool
before None b = false
before (Some a) None = true
before (Some a) (Some b) = nat_lt a b

abbrev pub ends_sooner : Order → Order → Bool
ends_sooner o p = before o.end p.end

abbrev pub ending_at : Option ℕ → Order → Option (Order × ℕ)
ending_at None o = None
ending_at (Some e) o = Some (o, e)

abbrev pub with_end : Option Order → Option (Order × ℕ)
with_end None = None
with_end (Some o) = ending_at o.end o

-- of the orders that end by t the first, with its end time
unfoldable pub expiring : ℕ → List Order → Option (Order × ℕ)
expiring t os = with_end (first (due_by t) ends_sooner os)

-- a phase's end goes before an end time at the same moment
abbrev pub earlier : ℕ → Option ℕ → Option (Order × ℕ) → Option Step
earlier w None None = None
earlier w None (Some x) = Some (expires x.0 x.1)
earlier w (Some t) None = only_if (nat_le t w) (Some (turns t))
earlier w (Some t) (Some x) = Some (cond (nat_le t x.1) (turns t) (expires x.0 x.1))

-- step 4: the earliest moment that is due by the wished time
unfoldable pub coming : Opening → Board → Option Step
coming k b =
    earlier b.clock.wished (phase_end b.phase k.settings b.session) (expiring b.clock.wished b.orders)

-- step 5: nothing is left to do
unfoldable pub decided : Opening → Board → Step
decided k b = or_else (opening b) (or_else (pairing b) (or_else (removing b) (or_else (coming k b) rests)))

-- ---- a session begins

-- every order starts the session without a fill; the passive side's orders at the price are prior; the trigger is re-priced
unfoldable pub started : ℕ → Side → ℤ → Order → Order
started trigger passive p o =
    record {
      number = o.number;
      trader = o.trader;
      side = o.side;
      kind = o.kind;
      price = cond (numbered trigger o) p o.price;
      displayed = o.displayed;
      shown = o.shown;
      end = o.end;
      stamp = o.stamp;
      filled = o.filled;
      first = None;
      prior = on passive o && eq_z o.price p;
    }

unfoldable pub begun_board : Board → Order → Order → Board
begun_board b trigger passive =
    record {
      orders = each (started trigger.number passive.side passive.price) b.orders;
      phase = Timed;
      clock = b.clock;
      counters = b.counters;
      session = record {
        price = passive.price;
        passive = passive.side;
        owner = passive.trader;
        trigger = trigger.trader;
        aggressor = None;
        settled = false;
        since = b.clock.time;
        last = b.clock.time;
        buyer = None;
        seller = None;
      };
      completions = empty;
      privileges = empty;
    }

-- ---- an order is removed, at t

abbrev pub reaching : ℕ → Clock → Clock
reaching t c = record { time = t; wished = c.wished; quiet = c.quiet }

unfoldable pub removed_board : Board → ℕ → Order → Board
removed_board b t o =
    record {
      orders = replace o.number None b.orders;
      phase = b.phase;
      clock = reaching t b.clock;
      counters = b.counters;
      session = b.session;
      completions = b.completions;
      privileges = adjust (freed o.number) o.trader o.side b.privileges;
    }

-- ---- a phase ends, at t

abbrev pub phase_after : Phase → Phase
phase_after Open = Open
phase_after Timed = Rolling
phase_after Rolling = Fbs
phase_after Fbs = Open

abbrev pub turn_record : Phase → ℕ → Record
turn_record Open t = OpenRecord t
turn_record Timed t = RollingRecord t
turn_record Rolling t = FbsRecord t
turn_record Fbs t = OpenRecord t

-- privileges are settled as the FBS Period begins, and end with it
abbrev pub privileges_in : Phase → Board → Table Privilege
privileges_in Open b = empty
privileges_in Timed b = empty
privileges_in Rolling b = granted b.orders b.completions
privileges_in Fbs b = empty

abbrev pub begun_at : ℕ → Session → Session
begun_at t s =
    record {
      price = s.price;
      passive = s.passive;
      owner = s.owner;
      trigger = s.trigger;
      aggressor = s.aggressor;
      settled = s.settled;
      since = t;
      last = s.last;
      buyer = s.buyer;
      seller = s.seller;
    }

unfoldable pub turned_board : Board → ℕ → Board
turned_board b t =
    record {
      orders = b.orders;
      phase = phase_after b.phase;
      clock = reaching t b.clock;
      counters = b.counters;
      session = begun_at t b.session;
      completions = b.completions;
      privileges = privileges_in b.phase b;
    }

-- ---- the tape is quiet

abbrev pub settled_session : Session → Session
settled_session s =
    record {
      price = s.price;
      passive = s.passive;
      owner = s.owner;
      trigger = s.trigger;
      aggressor = s.aggressor;
      settled = true;
      since = s.since;
      last = s.last;
      buyer = s.buyer;
      seller = s.seller;
    }

unfoldable pub rested_board : Board → Board
rested_board b =
    record {
      orders = b.orders;
      phase = b.phase;
      clock = record { time = b.clock.wished; wished = b.clock.wished; quiet = true };
      counters = b.counters;
      session = settled_session b.session;
      completions = b.completions;
      privileges = b.privileges;
    }

-- ---- a draw

unfoldable pub record_of : (ℕ → ℕ) → Board → Step → Record
record_of h b (begins trigger passive) = SessionRecord b.clock.time passive.price passive.number
record_of h b (fills x y) = Fill b.clock.time (fill_of b x y (size_of x y) (remainder_of h (size_of x y) x) (remainder_of h (size_of x y) y))
record_of h b (removes o why) = Removal b.clock.time o.number o.displayed why
record_of h b (turns t) = turn_record b.phase t
record_of h b (expires o t) = Removal t o.number o.displayed EndCause
record_of h b rests = Quiet b.clock.wished

unfoldable pub board_after : (ℕ → ℕ) → Board → Step → Board
board_after h b (begins trigger passive) = begun_board b trigger passive
board_after h b (fills x y) = filled_board b x y (size_of x y) (remainder_of h (size_of x y) x) (remainder_of h (size_of x y) y)
board_after h b (removes o why) = removed_board b b.clock.time o
board_after h b (turns t) = turned_board b t
board_after h b (expires o t) = removed_board b t o
board_after h b rests = rested_board b

unfoldable pub hidden_after : (ℕ → ℕ) → Step → ℕ → ℕ
hidden_after h (begins trigger passive) = h
hidden_after h (fills x y) =
    drawn_from (drawn_from h x (remainder_of h (size_of x y) x)) y (remainder_of h (size_of x y) y)
hidden_after h (removes o why) = h
hidden_after h (turns t) = h
hidden_after h (expires o t) = h
hidden_after h rests = h

-- the record that a draw answers, and the state after it
unfoldable pub draw : Opening → State → Record × State
draw k S =
    let step = decided k S.board in (
      record_of S.hidden S.board step,
      record { board = board_after S.hidden S.board step; hidden = hidden_after S.hidden step },
    )
