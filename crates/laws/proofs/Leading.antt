-- The test of ranks tells who is ahead. Assumes nothing.
use Rattle.std.proofs.Common.{◌≡◌, ℕ, ◌<◌, Bool, true, false, cond, eqb, ltb, ◌⊎◌, ℤ, ◌<ℤ◌, Some, None, Option, sym, refl, ap, ◌∙◌, inl, inr, arith}
use Rattle.std.proofs.lemmas.Int.{ints}
use Rattle.std.proofs.lemmas.Bool.{both_ways, eqb-true, eqb-false, eq-eqb, ltb-true}
use Rattle.std.proofs.lemmas.Bool.Decides.{nat_tests}
use Rattle.line.specs.Order.{lower, lower_z}
use Rattle.market.specs.Ranks.{class_number, place, earlier, sooner}
use Rattle.market.specs.declared.order.Side.{Side}
use Rattle.market.specs.declared.order.Side.TheVariants.{Bid, Offer}
use Rattle.market.specs.declared.order.Order.{Order}
use Rattle.market.specs.declared.state.Phase.{Phase}
use Rattle.market.specs.declared.state.Phase.TheVariants.{Open, Timed, Rolling, Fbs}
use Rattle.market.specs.declared.state.Session.{Session}
use Rattle.market.specs.declared.state.Priority.{Priority}
use Rattle.market.specs.declared.state.Priority.TheVariants.{First as FirstPriority, Second as SecondPriority}
use Rattle.market.specs.declared.state.Carrier.{Carrier}
use Rattle.market.specs.declared.state.Carrier.TheVariants.{Free, Order as By, Gone}
use Rattle.market.specs.declared.state.Privilege.{Privilege}
use Rattle.market.specs.declared.standing.Standing.{Standing}
use Rattle.market.specs.declared.standing.Standing.TheVariants.{Last, First, Second, Plain}
use Rattle.rules.specs.Base.{names}
use Rattle.rules.specs.Board.{Board, lookup}
use Rattle.rules.specs.Standings.{plain as plainly, privileged, carrying, favoured as favoured_by, last_on, standing_in, standing, bid_rank, offer_rank, ahead_on}
use Rattle.rules.proofs.Tests.{names-true, none≢some, some_inj}
use Rattle.laws.specs.Fair.{LastTrader, Favoured, Carries, Stands, favoured, first, second, plain, Earlier, Before, Ahead}

-- ---- an order's standing is its class and its place

last-true : (s : Side) (c : Session) (t : ℕ) → names (last_on s c.buyer c.seller) t ≡ true → LastTrader s c t
last-true Bid c t h = names-true c.buyer t h
last-true Offer c t h = names-true c.seller t h

last-false : (s : Side) (c : Session) (t : ℕ) → names (last_on s c.buyer c.seller) t ≡ false → ¬ (LastTrader s c t)
last-false Bid c t h e = both_ways (names c.buyer t) h (rw e (eq-eqb t t refl))
last-false Offer c t h e = both_ways (names c.seller t) h (rw e (eq-eqb t t refl))

open-fbs : Open ≡ Fbs → ⊥
open-fbs e = let z : ◌≡◌ {A = ℕ} 0 1 = cc in omega arith

timed-fbs : Timed ≡ Fbs → ⊥
timed-fbs e = let z : ◌≡◌ {A = ℕ} 0 1 = cc in omega arith

rolling-fbs : Rolling ≡ Fbs → ⊥
rolling-fbs e = let z : ◌≡◌ {A = ℕ} 0 1 = cc in omega arith

-- the order does not carry a privilege whose carrier is another
not_carried : (b : Board) (o : Order) (x : Privilege) → lookup b.privileges o.trader o.side ≡ Some x →
    ¬ (x.carrier ≡ By o.number) → (p : Priority) (n : ℕ) → ¬ (Carries b o p n)
not_carried b o x e f p n h = f (ap (λ (y : Privilege). y.carrier) (some_inj (sym e ∙ h)))

free-by : {n : ℕ} → Free ≡ By n → ⊥
free-by {n} e = let z : ◌≡◌ {A = ℕ} 0 1 = cc in omega arith

gone-by : {n : ℕ} → Gone ≡ By n → ⊥
gone-by {n} e = let z : ◌≡◌ {A = ℕ} 0 1 = cc in omega arith

by-inj : {m n : ℕ} → By m ≡ By n → m ≡ n
by-inj {m} {n} e = cc

-- of an order that is not favoured, in the FBS Period
module _ (b : Board) (o : Order) (fbs : b.phase ≡ Fbs) (not_last : ¬ (Favoured b o)) where
  earned : (x : Privilege) → lookup b.privileges o.trader o.side ≡ Some x → x.carrier ≡ By o.number →
      (p : Priority) → x.priority ≡ p → Stands b o (privileged p x.earned)
  earned x e c FirstPriority pe =
      first x.earned fbs not_last
      (e ∙ ap (λ (y : Privilege). Some y) (λ i. record { priority = pe i; earned = x.earned; carrier = c i }))
  earned x e c SecondPriority pe =
      second x.earned fbs not_last
      (e ∙ ap (λ (y : Privilege). Some y) (λ i. record { priority = pe i; earned = x.earned; carrier = c i }))

  carried : (x : Privilege) → lookup b.privileges o.trader o.side ≡ Some x → (c : Carrier) → x.carrier ≡ c →
      Stands b o (carrying c x o)
  carried x e Free ce = plain (λ f. (not_last, not_carried b o x e (λ h. free-by (sym ce ∙ h))))
  carried x e (By n) ce = go (eqb n o.number) refl
    where
      go : (q : Bool) → eqb n o.number ≡ q → Stands b o (cond q (privileged x.priority x.earned) (plainly o))
      go true qe = earned x e (ce ∙ ap (λ (m : ℕ). By m) (eqb-true n o.number qe)) x.priority refl
      go false qe = plain (λ f. (not_last, not_carried b o x e (λ h. eqb-false n o.number qe (by-inj (sym ce ∙ h)))))
  carried x e Gone ce = plain (λ f. (not_last, not_carried b o x e (λ h. gone-by (sym ce ∙ h))))

  by-privilege : (x : Option Privilege) → lookup b.privileges o.trader o.side ≡ x → Stands b o (favoured_by x o)
  by-privilege None e = plain (λ f. (not_last, λ p n h. none≢some (sym e ∙ h)))
  by-privilege (Some x) e = carried x e x.carrier refl

in-class : (b : Board) (o : Order) → Stands b o (standing b o)
unfolding standing
in-class b o = go b.phase refl
  where
    favours : b.phase ≡ Fbs → (q : Bool) → names (last_on o.side b.session.buyer b.session.seller) o.trader ≡ q →
        Stands b o (cond q (Last o.stamp) (favoured_by (lookup b.privileges o.trader o.side) o))
    favours e true qe = favoured e (last-true o.side b.session o.trader qe)
    favours e false qe =
        by-privilege b o e (last-false o.side b.session o.trader qe) (lookup b.privileges o.trader o.side) refl

    go : (ph : Phase) → b.phase ≡ ph → Stands b o (standing_in ph b.session.buyer b.session.seller b.privileges o)
    go Open e = plain (λ f. absurd (open-fbs (sym e ∙ f)))
    go Timed e = plain (λ f. absurd (timed-fbs (sym e ∙ f)))
    go Rolling e = plain (λ f. absurd (rolling-fbs (sym e ∙ f)))
    go Fbs e = favours e (names (last_on o.side b.session.buyer b.session.seller) o.trader) refl

-- ---- what the test tells

lower-ways : (a b : ℕ) (r : Bool) → lower a b r ≡ true → (a < b) ⊎ ((a ≡ b) × (r ≡ true))
lower-ways a b true h = grind (arith, nat_tests)
lower-ways a b false h = grind (arith, nat_tests)

lower_z-ways : (a b : ℤ) (r : Bool) → lower_z a b r ≡ true → (a <ℤ b) ⊎ ((a ≡ b) × (r ≡ true))
lower_z-ways a b true h = grind (arith, ints)
lower_z-ways a b false h = grind (arith, ints)

earlier-ways : (x y : Standing) (r : Bool) → earlier x y r ≡ true → Earlier x (place y) ⊎ ((place x ≡ place y) × (r ≡ true))
earlier-ways (Last m) y r h = lower-ways m (place y) r h
earlier-ways (First m) y r h = lower-ways m (place y) r h
earlier-ways (Second m) y r h = back (lower-ways (place y) m.0 r h)
  where
    back : (place y < m.0) ⊎ ((place y ≡ m.0) × (r ≡ true)) → (place y < m.0) ⊎ ((m.0 ≡ place y) × (r ≡ true))
    back (inl k) = inl k
    back (inr k) = inr (sym k.0, k.1)
earlier-ways (Plain m) y r h = lower-ways m (place y) r h

pub ahead-from : (b : Board) (s : Side) (o p : Order) → ahead_on s b o p ≡ true → Ahead b s o p
unfolding sooner
ahead-from b s o p h =
    record { standing = c; stands = in-class b o; against = d; other = in-class b p; before = before s h }
  where
    c : Standing
    c = standing b o

    d : Standing
    d = standing b p

    Placed : Type 0
    Placed = Earlier c (place d) ⊎ ((place c ≡ place d) × (o.number < p.number))

    Ranked : Type 0
    Ranked = (class_number c < class_number d) ⊎ ((class_number c ≡ class_number d) × Placed)

    by_place : Earlier c (place d) ⊎ ((place c ≡ place d) × (ltb o.number p.number ≡ true)) → Placed
    by_place (inl k) = inl k
    by_place (inr k) = inr (k.0, ltb-true o.number p.number k.1)

    by-class : (class_number c < class_number d) ⊎
        ((class_number c ≡ class_number d) × (earlier c d (ltb o.number p.number) ≡ true)) → Ranked
    by-class (inl k) = inl k
    by-class (inr k) = inr (k.0, by_place (earlier-ways c d (ltb o.number p.number) k.1))

    ranked : sooner (offer_rank b o) (offer_rank b p) ≡ true → Ranked
    ranked k = by-class (lower-ways (class_number c) (class_number d) _ k)

    before : (s : Side) → ahead_on s b o p ≡ true → Before s o c p d
    before Bid h = go (lower_z-ways p.price o.price _ h)
      where
        go : (p.price <ℤ o.price) ⊎ ((p.price ≡ o.price) × (sooner (bid_rank b o) (bid_rank b p) ≡ true)) → Before Bid o c p d
        go (inl k) = inl k
        go (inr k) = inr (sym k.0, ranked k.1)
    before Offer h = go (lower_z-ways o.price p.price _ h)
      where
        go : (o.price <ℤ p.price) ⊎ ((o.price ≡ p.price) × (sooner (offer_rank b o) (offer_rank b p) ≡ true)) → Before Offer o c p d
        go (inl k) = inl k
        go (inr k) = inr (k.0, ranked k.1)
