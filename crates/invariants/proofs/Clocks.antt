-- Time goes on, from moment to moment. Assumes nothing.
use Rattle.std.proofs.Common.{◌≡◌, ℕ, ◌<◌, ◌≤◌, Bool, true, false, cond, ◌&&◌, ltb, leb, ◌⊎◌, List, Some, None, Option, sym, refl, subst, inl, inr, le_trans, le_refl, arith}
use Rattle.std.proofs.lemmas.Bool.{false≢true, cases_Bool, leb-true, leb-false, ltb-true, ltb-false, le-ltb, lt-ltb, cases_lt}
use Rattle.market.specs.declared.order.Order.{Order}
use Rattle.market.specs.declared.order.Side.TheVariants.{Bid, Offer}
use Rattle.rules.specs.Base.{or_else, only_if, find, first}
use Rattle.rules.specs.Board.{Opening, Board, meet, is_open}
use Rattle.rules.specs.Entitlement.{first_entitled}
use Rattle.rules.specs.Draws.{Step, begins, fills, removes, turns, expires, rests, both, incoming_of, opening, pairing, goes, as_removal, removing, phase_end, ends_by, due_by, before, ends_sooner, ending_at, with_end, expiring, earlier, coming, decided}
use Rattle.rules.specs.Members.{In}
use Rattle.rules.proofs.Tests.{none≢some, some_inj}
use Rattle.rules.proofs.Firsts.{Ranked, first-none, first-in, first-leads}
use Rattle.rules.proofs.Reasons.{expiring-in}
use Rattle.invariants.specs.Sound.{NotPast, Timely}

-- ---- end times

not-due : (w : ℕ) (e : Option ℕ) → ends_by w e ≡ false → NotPast w e
not-due w None h = tt
not-due w (Some t) h = let l = leb-false t w h in omega arith

pub not-past-yet : (s t : ℕ) (e : Option ℕ) → s ≤ t → NotPast t e → NotPast s e
not-past-yet s t None l h = tt
not-past-yet s t (Some u) l h = le_trans l h

before-asymmetric : (a b : Option ℕ) → before a b ≡ true → before b a ≡ false
before-asymmetric None b h = absurd (false≢true h)
before-asymmetric (Some a) None h = refl
before-asymmetric (Some a) (Some b) h = let l = ltb-true a b h in le-ltb b a (omega arith)

before_split : (a b c : Option ℕ) → before a c ≡ true → (before a b ≡ true) ⊎ (before b c ≡ true)
before_split None b c h = absurd (false≢true h)
before_split (Some a) None c h = inl refl
before_split (Some a) (Some b) None h = inr refl
before_split (Some a) (Some b) (Some c) h = go (cases_lt a b)
  where
    go : (a < b) ⊎ (b ≤ a) → (ltb a b ≡ true) ⊎ (ltb b c ≡ true)
    go (inl l) = inl (lt-ltb a b l)
    go (inr l) = let m = ltb-true a c h in inr (lt-ltb b c (omega arith))

ends-ranked : (w : ℕ) → Ranked (due_by w) ends_sooner
ends-ranked w =
    record {
      asymmetric = λ x y hx hy. before-asymmetric x.end y.end;
      split = λ x y z hx hy hz. before_split x.end y.end z.end;
    }

-- no order ends before t
abbrev pub NonePast : ℕ → List Order → Type 0
NonePast t os = (o : Order) → In o os → NotPast t o.end

unbefore : (e : Option ℕ) (t : ℕ) → before e (Some t) ≡ false → NotPast t e
unbefore None t h = tt
unbefore (Some u) t h = ltb-false u t h

expiring-none : (w : ℕ) (os : List Order) → expiring w os ≡ None → NonePast w os
unfolding expiring
expiring-none w os e o i = go (cases_Bool (due_by w o)) (first (due_by w) ends_sooner os) refl e
  where
    none-ends : (p : Order) → due_by w p ≡ true → (t : Option ℕ) → p.end ≡ t → ending_at t p ≡ None → ⊥
    none-ends p h None te f = false≢true (rw te at h)
    none-ends p h (Some t) te f = none≢some (sym f)

    go : (due_by w o ≡ true) ⊎ (due_by w o ≡ false) → (r : Option Order) → first (due_by w) ends_sooner os ≡ r → with_end r ≡ None → NotPast w o.end
    go (inr n) r re f = not-due w o.end n
    go (inl d) None re f = absurd (first-none (due_by w) ends_sooner os re o i d)
    go (inl d) (Some p) re f = absurd (none-ends p (first-in (due_by w) ends_sooner os p re).1 p.end refl f)

expiring-first : (w : ℕ) (os : List Order) (x : Order × ℕ) → expiring w os ≡ Some x → NonePast x.1 os
unfolding expiring
expiring-first w os x e o i = go (first (due_by w) ends_sooner os) refl e
  where
    due : (p : Order) → first (due_by w) ends_sooner os ≡ Some p → (t : ℕ) → p.end ≡ Some t → t ≤ w → (due_by w o ≡ true) ⊎ (due_by w o ≡ false) → NotPast t o.end
    due p pe t te l (inl d) =
        let n = first-leads (due_by w) ends_sooner (ends-ranked w) os p pe o i d in
        let m : before o.end (Some t) ≡ false = rw te at n in unbefore o.end t m
    due p pe t te l (inr n) = not-past-yet t w o.end l (not-due w o.end n)

    ends : (p : Order) → first (due_by w) ends_sooner os ≡ Some p → (t : Option ℕ) → p.end ≡ t → ending_at t p ≡ Some x → NotPast x.1 o.end
    ends p pe None te f = absurd (none≢some f)
    ends p pe (Some t) te f =
        let same : (p, t) ≡ x = some_inj f in
        let d : ends_by w (Some t) ≡ true = rw te at (first-in (due_by w) ends_sooner os p pe).1 in
        subst (λ (y : Order × ℕ). NotPast y.1 o.end) same (due p pe t te (leb-true t w d) (cases_Bool (due_by w o)))

    go : (r : Option Order) → first (due_by w) ends_sooner os ≡ r → with_end r ≡ Some x → NotPast x.1 o.end
    go None re f = absurd (none≢some f)
    go (Some p) re f = ends p re p.end refl f

-- ---- the moment that a draw reaches

-- it is not past the wished time, nor a moment that is to come
pub record Onward (k : Opening) (b : Board) (t : ℕ) : Type 0 where
  pub due : t ≤ b.clock.wished
  pub phase : NotPast t (phase_end b.phase k.settings b.session)
  pub ends : NonePast t b.orders

abbrev pub reached : Board → Step → ℕ
reached b (begins x y) = b.clock.time
reached b (fills x y) = b.clock.time
reached b (removes o c) = b.clock.time
reached b (turns t) = t
reached b (expires o t) = t
reached b rests = b.clock.wished

pub onward : (k : Opening) (b : Board) → Timely k b.phase b.clock b.session b.orders → Onward k b (reached b (decided k b))
unfolding decided opening pairing removing coming
onward k b q =
    begin (is_open b.phase && meet b.orders) (incoming_of b.counters.incoming b.orders) _ _
    (pair (first_entitled b Bid) (first_entitled b Offer) _
    (remove (find (goes b) b.orders) _ (come (phase_end b.phase k.settings b.session) refl (expiring w b.orders) refl)))
  where
    w : ℕ
    w = b.clock.wished

    Good : Step → Type 0
    Good d = Onward k b (reached b d)

    still : Onward k b b.clock.time
    still = record { due = q.time; phase = q.phase; ends = q.ends }

    come : (e : Option ℕ) → phase_end b.phase k.settings b.session ≡ e → (d : Option (Order × ℕ)) → expiring w b.orders ≡ d →
        Good (or_else (earlier w e d) rests)
    come None ee None de =
        record { due = le_refl w; phase = subst (NotPast w) (sym ee) tt; ends = expiring-none w b.orders de }
    come None ee (Some x) de =
        record { due = (expiring-in w b.orders x de).2; phase = subst (NotPast x.1) (sym ee) tt; ends = expiring-first w b.orders x de }
    come (Some t) ee None de = timed (leb t w) refl
      where
        timed : (p : Bool) → leb t w ≡ p → Good (or_else (only_if p (Some (turns t))) rests)
        timed true pe =
            let l = leb-true t w pe in
            record { due = l; phase = subst (NotPast t) (sym ee) (le_refl t); ends = λ o i. not-past-yet t w o.end l (expiring-none w b.orders de o i) }
        timed false pe =
            record { due = le_refl w; phase = subst (NotPast w) (sym ee) (let l = leb-false t w pe in omega arith); ends = expiring-none w b.orders de }
    come (Some t) ee (Some x) de = either (leb t x.1) refl
      where
        either : (p : Bool) → leb t x.1 ≡ p → Good (cond p (turns t) (expires x.0 x.1))
        either true pe =
            let l = leb-true t x.1 pe in
            record {
              due = le_trans l (expiring-in w b.orders x de).2;
              phase = subst (NotPast t) (sym ee) (le_refl t);
              ends = λ o i. not-past-yet t x.1 o.end l (expiring-first w b.orders x de o i);
            }
        either false pe =
            record {
              due = (expiring-in w b.orders x de).2;
              phase = subst (NotPast x.1) (sym ee) (let l = leb-false t x.1 pe in omega arith);
              ends = expiring-first w b.orders x de;
            }

    remove : (r : Option Order) (d : Step) → Good d → Good (or_else (as_removal r) d)
    remove None d g = g
    remove (Some o) d g = still

    pair : (x y : Option Order) (d : Step) → Good d → Good (or_else (both fills x y) d)
    pair None y d g = g
    pair (Some x) None d g = g
    pair (Some x) (Some y) d g = still

    begin : (p : Bool) (t y : Option Order) (d : Step) → Good d → Good (or_else (only_if p (both begins t y)) d)
    begin false t y d g = g
    begin true None y d g = g
    begin true (Some t) None d g = g
    begin true (Some t) (Some y) d g = still
