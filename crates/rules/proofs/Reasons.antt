-- Why a draw takes the step that it takes. Assumes nothing.
use Rattle.std.proofs.Common.{◌≡◌, ℕ, ◌≤◌, Bool, true, false, cond, ◌&&◌, leb, ◌⊎◌, List, Some, None, Option, refl, inl, inr, le_trans}
use Rattle.std.proofs.lemmas.Bool.{leb-true, and_parts}
use Rattle.market.specs.declared.order.Side.{Side}
use Rattle.market.specs.declared.order.Side.TheVariants.{Bid, Offer}
use Rattle.market.specs.declared.order.Order.{Order}
use Rattle.market.specs.declared.state.Phase.{Phase}
use Rattle.rules.specs.Base.{or_else, only_if, is_some, find, first}
use Rattle.rules.specs.Board.{Opening, Board, on, other, meet, is_open}
use Rattle.rules.specs.Standings.{ahead}
use Rattle.rules.specs.Entitlement.{first_entitled}
use Rattle.rules.specs.Draws.{Step, begins, fills, removes, turns, expires, rests, both, incoming_of, passive_for, opening, pairing, cause_of, goes, as_removal, removing, phase_end, ends_by, due_by, ends_sooner, ending_at, with_end, expiring, earlier, coming, decided}
use Rattle.rules.specs.Members.{In}
use Rattle.rules.proofs.Tests.{none≢some, some_inj, eq-same}
use Rattle.rules.proofs.Members.{find-in}
use Rattle.rules.proofs.Firsts.{first-none, first-in}
use Rattle.rules.proofs.Prices.{meet-crossed}

-- ---- what a step says of the board

-- in Open prices meet, and the incoming order is live: a session begins
abbrev pub opens_in : Phase → Option ℕ → List Order → Bool
opens_in ph n os = (is_open ph && meet os) && is_some (incoming_of n os)

abbrev pub opens : Board → Bool
opens b = opens_in b.phase b.counters.incoming b.orders

-- a side has no entitled order
abbrev pub Unpaired : Board → Type 0
Unpaired b = (first_entitled b Bid ≡ None) ⊎ (first_entitled b Offer ≡ None)

pub record Begins (b : Board) (x y : Order) : Type 0 where
  pub begun : opens b ≡ true
  pub trigger : incoming_of b.counters.incoming b.orders ≡ Some x
  pub passive : first (on (other x.side)) (ahead b) b.orders ≡ Some y

-- no session begins, and no pair is there
pub record Idle (b : Board) : Type 0 where
  pub closed : opens b ≡ false
  pub unpaired : Unpaired b

pub record Turns (k : Opening) (b : Board) (t : ℕ) : Type 0 where
  pub idle : Idle b
  pub ends : phase_end b.phase k.settings b.session ≡ Some t
  pub due : t ≤ b.clock.wished

pub record Expires (b : Board) (o : Order) (t : ℕ) : Type 0 where
  pub idle : Idle b
  pub listed : In o b.orders
  pub ends : o.end ≡ Some t
  pub due : t ≤ b.clock.wished

abbrev pub Why : Opening → Board → Step → Type 0
Why k b (begins x y) = Begins b x y
Why k b (fills x y) = (first_entitled b Bid ≡ Some x) × (first_entitled b Offer ≡ Some y)
Why k b (removes o c) = Idle b × In o b.orders × (goes b o ≡ true) × (c ≡ cause_of o.kind)
Why k b (turns t) = Turns k b t
Why k b (expires o t) = Expires b o t
Why k b rests = Idle b

-- ---- an order that ends

pub expiring-in : (w : ℕ) (os : List Order) (x : Order × ℕ) → expiring w os ≡ Some x → In x.0 os × (x.0.end ≡ Some x.1) × (x.1 ≤ w)
unfolding expiring
expiring-in w os x e = go (first (due_by w) ends_sooner os) refl e
  where
    ends : (o : Order) → first (due_by w) ends_sooner os ≡ Some o → (t : Option ℕ) → o.end ≡ t → ending_at t o ≡ Some x →
        In x.0 os × (x.0.end ≡ Some x.1) × (x.1 ≤ w)
    ends o oe None te f = absurd (none≢some f)
    ends o oe (Some t) te f =
        let i = first-in (due_by w) ends_sooner os o oe in
        let due : ends_by w (Some t) ≡ true = rw te at i.1 in
        let same : (o, t) ≡ x = some_inj f in
        rw (← same) (i.0, te, leb-true t w due)

    go : (r : Option Order) → first (due_by w) ends_sooner os ≡ r → with_end r ≡ Some x → In x.0 os × (x.0.end ≡ Some x.1) × (x.1 ≤ w)
    go None re f = absurd (none≢some f)
    go (Some o) re f = ends o re o.end refl f

-- ---- why

-- both sides have orders where prices meet
there : (os : List Order) → meet os ≡ true → (s : Side) → (o : Order) × In o os × (on s o ≡ true)
there os h Bid = let c = meet-crossed os h in (c.bid, c.bids, eq-same Bid c.bid.side c.is_bid)
there os h Offer = let c = meet-crossed os h in (c.offer, c.offers, eq-same Offer c.offer.side c.is_offer)

idle-why : (k : Opening) (b : Board) → Idle b → Why k b (or_else (removing b) (or_else (coming k b) rests))
unfolding removing coming
idle-why k b idle =
    go (find (goes b) b.orders) refl (phase_end b.phase k.settings b.session) refl (expiring w b.orders) refl
  where
    w : ℕ
    w = b.clock.wished

    turn : (t : ℕ) → phase_end b.phase k.settings b.session ≡ Some t → t ≤ w → Why k b (turns t)
    turn t te l = record { idle = idle; ends = te; due = l }

    expire : (x : Order × ℕ) → expiring w b.orders ≡ Some x → Why k b (expires x.0 x.1)
    expire x xe = let i = expiring-in w b.orders x xe in record { idle = idle; listed = i.0; ends = i.1; due = i.2 }

    timed : (q : Bool) (t : ℕ) → leb t w ≡ q → phase_end b.phase k.settings b.session ≡ Some t →
        Why k b (or_else (only_if q (Some (turns t))) rests)
    timed true t qe te = turn t te (leb-true t w qe)
    timed false t qe te = idle

    either : (q : Bool) (t : ℕ) (x : Order × ℕ) → leb t x.1 ≡ q → phase_end b.phase k.settings b.session ≡ Some t →
        expiring w b.orders ≡ Some x → Why k b (cond q (turns t) (expires x.0 x.1))
    either true t x qe te xe = turn t te (le_trans (leb-true t x.1 qe) (expiring-in w b.orders x xe).2)
    either false t x qe te xe = expire x xe

    go : (r : Option Order) → find (goes b) b.orders ≡ r → (e : Option ℕ) → phase_end b.phase k.settings b.session ≡ e →
        (d : Option (Order × ℕ)) → expiring w b.orders ≡ d → Why k b (or_else (as_removal r) (or_else (earlier w e d) rests))
    go (Some o) re e ee d de = let i = find-in (goes b) b.orders o re in (idle, i.0, i.1, refl)
    go None re None ee None de = idle
    go None re None ee (Some x) de = expire x de
    go None re (Some t) ee None de = timed (leb t w) t refl ee
    go None re (Some t) ee (Some x) de = either (leb t x.1) t x refl ee de

pub why : (k : Opening) (b : Board) → Why k b (decided k b)
unfolding decided opening pairing
why k b = go (is_open b.phase && meet b.orders) refl (incoming_of b.counters.incoming b.orders) refl
  where
    rest : Step
    rest = or_else (removing b) (or_else (coming k b) rests)

    pair : (x : Option Order) → first_entitled b Bid ≡ x → (y : Option Order) → first_entitled b Offer ≡ y → opens b ≡ false →
        Why k b (or_else (both fills x y) rest)
    pair None xe y ye c = idle-why k b (record { closed = c; unpaired = inl xe })
    pair (Some x) xe None ye c = idle-why k b (record { closed = c; unpaired = inr ye })
    pair (Some x) xe (Some y) ye c = (xe, ye)

    begin : (t : Order) → incoming_of b.counters.incoming b.orders ≡ Some t → (p : Option Order) →
        first (on (other t.side)) (ahead b) b.orders ≡ p → meet b.orders ≡ true → opens b ≡ true →
        Why k b (or_else (both begins (Some t) p) (or_else (both fills (first_entitled b Bid) (first_entitled b Offer)) rest))
    begin t te None pe m c =
        let o = there b.orders m (other t.side) in
        absurd (first-none (on (other t.side)) (ahead b) b.orders pe o.0 o.1 o.2)
    begin t te (Some p) pe m c = record { begun = c; trigger = te; passive = pe }

    go : (q : Bool) → is_open b.phase && meet b.orders ≡ q → (t : Option Order) → incoming_of b.counters.incoming b.orders ≡ t →
        Why k b (or_else (only_if q (both begins t (passive_for b t))) (or_else (both fills (first_entitled b Bid) (first_entitled b Offer)) rest))
    go false qe t te = pair (first_entitled b Bid) refl (first_entitled b Offer) refl (rw qe refl)
    go true qe None te = pair (first_entitled b Bid) refl (first_entitled b Offer) refl (rw (qe, te) refl)
    go true qe (Some t) te =
        begin t te (first (on (other t.side)) (ahead b) b.orders) refl (and_parts (is_open b.phase) (meet b.orders) qe).1 (rw (qe, te) refl)
