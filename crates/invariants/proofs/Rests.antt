-- What a book at rest has left to do: nothing. Assumes nothing.
use Rattle.std.proofs.Common.{◌≡◌, ℕ, Bool, true, false, cond, ◌&&◌, leb, ◌⊎◌, List, Some, None, Option, sym, refl, ap, ◌∙◌, subst, inl, inr}
use Rattle.std.proofs.lemmas.Bool.{false≢true, both_ways, cases_Bool, le-leb}
use Rattle.market.specs.declared.settings.Settings.{Settings}
use Rattle.market.specs.declared.order.Side.{Side}
use Rattle.market.specs.declared.order.Side.TheVariants.{Bid, Offer}
use Rattle.market.specs.declared.order.Order.{Order}
use Rattle.market.specs.declared.state.Phase.{Phase}
use Rattle.market.specs.declared.state.Phase.TheVariants.{Open, Timed, Rolling, Fbs}
use Rattle.market.specs.declared.state.Session.{Session}
use Rattle.rules.specs.Base.{or_else, only_if, find, first}
use Rattle.rules.specs.Board.{Opening, Board, on, same, meet, is_open}
use Rattle.rules.specs.Standings.{ahead}
use Rattle.rules.specs.Entitlement.{passively, aggressively, prior_left, in_timed, entitled_in, entitled, first_entitled}
use Rattle.rules.specs.Draws.{Step, begins, fills, removes, turns, expires, rests, both, incoming_of, opening, pairing, goes, as_removal, removing, phase_end, ends_by, due_by, ends_sooner, ending_at, with_end, expiring, earlier, coming, decided, settled_session, rested_board}
use Rattle.rules.specs.Members.{In}
use Rattle.rules.proofs.Tests.{none≢some}
use Rattle.rules.proofs.Members.{find_none}
use Rattle.rules.proofs.Firsts.{first-none, first-in}
use Rattle.rules.proofs.Reasons.{opens, Unpaired, Idle, Why, why}

-- no order of the side is entitled
abbrev pub Nobody : Board → Side → Type 0
Nobody b s = (o : Order) → In o b.orders → entitled b s o ≡ false

pub record Rest (k : Opening) (b : Board) : Type 0 where
  pub closed : opens b ≡ false
  pub unpaired : Nobody b Bid ⊎ Nobody b Offer
  pub stays : (o : Order) → In o b.orders → goes b o ≡ false
  pub phase : ends_by b.clock.wished (phase_end b.phase k.settings b.session) ≡ false
  pub ends : (o : Order) → In o b.orders → due_by b.clock.wished o ≡ false

-- ---- a book that rests has nothing to do

abbrev pub is_rest : Step → Bool
is_rest (begins x y) = false
is_rest (fills x y) = false
is_rest (removes o c) = false
is_rest (turns t) = false
is_rest (expires o t) = false
is_rest rests = true

pub is-rest : (d : Step) → is_rest d ≡ true → d ≡ rests
is-rest (begins x y) h = absurd (false≢true h)
is-rest (fills x y) h = absurd (false≢true h)
is-rest (removes o c) h = absurd (false≢true h)
is-rest (turns t) h = absurd (false≢true h)
is-rest (expires o t) h = absurd (false≢true h)
is-rest rests h = refl

past-opening : (q : Bool) (t y : Option Order) (d : Step) → is_rest (or_else (only_if q (both begins t y)) d) ≡ true → is_rest d ≡ true
past-opening false t y d h = h
past-opening true None y d h = h
past-opening true (Some t) None d h = h
past-opening true (Some t) (Some y) d h = absurd (false≢true h)

past-pairing : (x y : Option Order) (d : Step) → is_rest (or_else (both fills x y) d) ≡ true → is_rest d ≡ true
past-pairing None y d h = h
past-pairing (Some x) None d h = h
past-pairing (Some x) (Some y) d h = absurd (false≢true h)

past-removing : (r : Option Order) (d : Step) → is_rest (or_else (as_removal r) d) ≡ true → (r ≡ None) × (is_rest d ≡ true)
past-removing None d h = (refl, h)
past-removing (Some o) d h = absurd (false≢true h)

past-coming : (w : ℕ) (e : Option ℕ) (d : Option (Order × ℕ)) → is_rest (or_else (earlier w e d) rests) ≡ true → (ends_by w e ≡ false) × (d ≡ None)
past-coming w None None h = (refl, refl)
past-coming w None (Some x) h = absurd (false≢true h)
past-coming w (Some t) None h = go (leb t w) refl h
  where
    go : (q : Bool) → leb t w ≡ q → is_rest (or_else (only_if q (Some (turns t))) rests) ≡ true → (leb t w ≡ false) × ◌≡◌ {A = Option (Order × ℕ)} None None
    go true qe h = absurd (false≢true h)
    go false qe h = (qe, refl)
past-coming w (Some t) (Some x) h = go (leb t x.1) h
  where
    go : (q : Bool) → is_rest (cond q (turns t) (expires x.0 x.1)) ≡ true → (leb t w ≡ false) × ◌≡◌ {A = Option (Order × ℕ)} (Some x) None
    go true h = absurd (false≢true h)
    go false h = absurd (false≢true h)

none-due : (w : ℕ) (os : List Order) → expiring w os ≡ None → (o : Order) → In o os → due_by w o ≡ false
unfolding expiring
none-due w os e o i = go (cases_Bool (due_by w o)) (first (due_by w) ends_sooner os) refl e
  where
    ends : (p : Order) → due_by w p ≡ true → (t : Option ℕ) → p.end ≡ t → ending_at t p ≡ None → ⊥
    ends p h None te f = false≢true (rw te at h)
    ends p h (Some t) te f = none≢some (sym f)

    go : (due_by w o ≡ true) ⊎ (due_by w o ≡ false) → (r : Option Order) → first (due_by w) ends_sooner os ≡ r → with_end r ≡ None → due_by w o ≡ false
    go (inr n) r re f = n
    go (inl d) None re f = absurd (first-none (due_by w) ends_sooner os re o i d)
    go (inl d) (Some p) re f = absurd (ends p (first-in (due_by w) ends_sooner os p re).1 p.end refl f)

pub refuted : (q : Bool) → (q ≡ true → ⊥) → q ≡ false
refuted true f = absurd (f refl)
refuted false f = refl

nobody : (b : Board) (s : Side) → first_entitled b s ≡ None → Nobody b s
unfolding first_entitled
nobody b s e o i = refuted (entitled b s o) (first-none (entitled b s) (ahead b) b.orders e o i)

pub at_rest : (k : Opening) (b : Board) → is_rest (decided k b) ≡ true → Rest k b
unfolding decided opening pairing removing coming
at_rest k b r =
    let idle : Idle b = subst (Why k b) (is-rest (decided k b) r) (why k b) in
    let p = past-removing (find (goes b) b.orders) _ (past-pairing (first_entitled b Bid) (first_entitled b Offer) _
    (past-opening (is_open b.phase && meet b.orders) (incoming_of b.counters.incoming b.orders) _ _ r)) in
    let c = past-coming b.clock.wished (phase_end b.phase k.settings b.session) (expiring b.clock.wished b.orders) p.1 in
    record {
      closed = idle.closed;
      unpaired = either idle.unpaired;
      stays = λ o i. refuted (goes b o) (find_none (goes b) b.orders p.0 o i);
      phase = c.0;
      ends = none-due b.clock.wished b.orders c.1;
    }
  where
    either : (first_entitled b Bid ≡ None) ⊎ (first_entitled b Offer ≡ None) → Nobody b Bid ⊎ Nobody b Offer
    either (inl h) = inl (nobody b Bid h)
    either (inr h) = inr (nobody b Offer h)

-- ---- a book that has nothing to do rests

pub none_first : (b : Board) (s : Side) → Nobody b s → first_entitled b s ≡ None
unfolding first_entitled
none_first b s n = go (first_entitled b s) refl
  where
    go : (r : Option Order) → first_entitled b s ≡ r → r ≡ None
    go None e = refl
    go (Some x) e =
        let i = first-in (entitled b s) (ahead b) b.orders x e in absurd (both_ways (entitled b s x) (n x i.0) i.1)

pub no-pair : (b : Board) → Nobody b Bid ⊎ Nobody b Offer → Unpaired b
no-pair b (inl n) = inl (none_first b Bid n)
no-pair b (inr n) = inr (none_first b Offer n)

pub rest-rests : (k : Opening) (b : Board) (d : Step) → Rest k b → Why k b d → is_rest d ≡ true
rest-rests k b (begins x y) q w = absurd (both_ways (opens b) q.closed w.begun)
rest-rests k b (fills x y) q w = unfold first_entitled in
    let i = first-in (entitled b Bid) (ahead b) b.orders x w.0 in
    let j = first-in (entitled b Offer) (ahead b) b.orders y w.1 in go i j q.unpaired
  where
    go : In x b.orders × (entitled b Bid x ≡ true) → In y b.orders × (entitled b Offer y ≡ true) → Nobody b Bid ⊎ Nobody b Offer → false ≡ true
    go i j (inl n) = absurd (both_ways (entitled b Bid x) (n x i.0) i.1)
    go i j (inr n) = absurd (both_ways (entitled b Offer y) (n y j.0) j.1)
rest-rests k b (removes o c) q w = absurd (both_ways (goes b o) (q.stays o w.1) w.2)
rest-rests k b (turns t) q w =
    let e : ends_by b.clock.wished (Some t) ≡ false = rw w.ends at q.phase in
    absurd (both_ways (leb t b.clock.wished) e (le-leb t b.clock.wished w.due))
rest-rests k b (expires o t) q w =
    let e : ends_by b.clock.wished (Some t) ≡ false = rw w.ends at (q.ends o w.listed) in
    absurd (both_ways (leb t b.clock.wished) e (le-leb t b.clock.wished w.due))
rest-rests k b rests q w = refl

-- ---- being quiet changes nothing that is left to do

settled-timed : (p : Bool) (b : Board) (o : Order) → in_timed p (rested_board b) o ≡ in_timed p b o
unfolding rested_board
settled-timed true b o = go (prior_left b.orders)
  where
    go : (q : Bool) → passively q (settled_session b.session) o ≡ passively q b.session o
    go true = refl
    go false = refl
settled-timed false b o = go b.session.aggressor
  where
    go : (r : Option ℕ) → aggressively r (settled_session b.session) o ≡ aggressively r b.session o
    go None = refl
    go (Some t) = refl

settled-entitled : (p : Phase) (b : Board) (o : Order) → entitled_in p (rested_board b) o ≡ entitled_in p b o
unfolding rested_board
settled-entitled Open b o = refl
settled-entitled Timed b o = settled-timed (same o.side b.session.passive) b o
settled-entitled Rolling b o = refl
settled-entitled Fbs b o = refl

settled-end : (p : Phase) (s : Settings) (c : Session) → phase_end p s (settled_session c) ≡ phase_end p s c
settled-end Open s c = refl
settled-end Timed s c = refl
settled-end Rolling s c = refl
settled-end Fbs s c = refl

pub rest-stays : (k : Opening) (b : Board) → Rest k b → Rest k (rested_board b)
unfolding rested_board goes entitled
rest-stays k b q =
    record {
      closed = q.closed;
      unpaired = either q.unpaired;
      stays = q.stays;
      phase = ap (ends_by b.clock.wished) (settled-end b.phase k.settings b.session) ∙ q.phase;
      ends = q.ends;
    }
  where
    still : (s : Side) → Nobody b s → Nobody (rested_board b) s
    still s n o i = ap (λ (v : Bool). on s o && v) (settled-entitled b.phase b o) ∙ n o i

    either : Nobody b Bid ⊎ Nobody b Offer → Nobody (rested_board b) Bid ⊎ Nobody (rested_board b) Offer
    either (inl n) = inl (still Bid n)
    either (inr n) = inr (still Offer n)
