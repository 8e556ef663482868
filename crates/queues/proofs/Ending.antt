-- The head of the end times names the order that ends first. Assumes nothing.
use Rattle.std.proofs.Common.{◌≡◌, ℕ, suc, ◌<◌, ◌≤◌, Bool, true, false, cond, ltb, ◌⊎◌, List, [], ◌∷◌, Some, None, Option, sym, refl, ap, ◌∙◌, subst, inl, inr, ⊎_elim, arith}
use Rattle.std.proofs.lemmas.Bool.{false≢true, leb-true, le-leb, ltb-true, ltb-false, lt-ltb, le-ltb, cond_both}
use Rattle.std.proofs.lemmas.Bool.Decides.{nat_tests}
use Rattle.line.specs.Order.{lower}
use Rattle.line.specs.Held.{first_of}
use Rattle.market.specs.Ranks.{end_ahead}
use Rattle.market.specs.declared.order.Order.{Order}
use Rattle.market.specs.declared.rank.EndTime.{EndTime}
use Rattle.rules.specs.Base.{first, contest}
use Rattle.rules.specs.Draws.{due_by, ends_by, ends_sooner, ending_at, with_end, expiring}
use Rattle.rules.specs.Members.{In}
use Rattle.rules.specs.Rising.{Ascends}
use Rattle.rules.proofs.Firsts.{first-in}
use Rattle.rules.proofs.Rows.{ascends-in, ascends-unique, in-ordered}
use Rattle.rules.proofs.Tests.{some_inj, none≢some}
use Rattle.rules.specs.Board.{ordered}
use Rattle.board.specs.EndTimes.{end_at, end_time}
use Rattle.queues.specs.Lists.{Shows}
use Rattle.queues.specs.Walks.{with_time, ending_by}
use Rattle.queues.proofs.Heads.{head-leads}
use Rattle.queues.proofs.Walked.{first-not}

-- ---- end times of orders

record Ends (o : Order) (t n : ℕ) : Type 0 where
  pub end : o.end ≡ Some t
  pub number : o.number ≡ n

ends-from : (o : Order) (x : EndTime) → end_time o ≡ Some x → Ends o x.end x.number
ends-from o x h = go o.end refl h
  where
    go : (r : Option ℕ) → o.end ≡ r → end_at r o.number ≡ Some x → Ends o x.end x.number
    go None q k = absurd (none≢some k)
    go (Some t) q k =
        let e = some_inj k in
        record { end = q ∙ ap (λ (z : EndTime). Some z.end) e; number = ap (λ (z : EndTime). z.number) e }

-- an order that is due has an end time, and an entry
record Due (o : Order) (wished : ℕ) : Type 0 where
  pub entry : EndTime
  pub is : end_time o ≡ Some entry
  pub soon : entry.end ≤ wished

due : (o : Order) (wished : ℕ) → due_by wished o ≡ true → Due o wished
due o wished h = go o.end refl h
  where
    go : (r : Option ℕ) → o.end ≡ r → ends_by wished r ≡ true → Due o wished
    go None q k = absurd (false≢true k)
    go (Some t) q k = record { entry = record { end = t; number = o.number }; is = ap (λ (r : Option ℕ). end_at r o.number) q; soon = leb-true t wished k }

-- ---- which of two ends first

lower-ways : (a b : ℕ) (r : Bool) → lower a b r ≡ true → (a < b) ⊎ ((a ≡ b) × (r ≡ true))
lower-ways a b true h = grind (arith, nat_tests)
lower-ways a b false h = grind (arith, nat_tests)

sooner-ways : (x y : EndTime) → end_ahead x y ≡ true → (x.end < y.end) ⊎ ((x.end ≡ y.end) × (x.number < y.number))
sooner-ways x y h = ⊎_elim (λ l. inl l) (λ r. inr (r.0, ltb-true x.number y.number r.1)) (lower-ways x.end y.end (ltb x.number y.number) h)

-- o has the end time t; the other ends later, or at once and has a later number
abbrev After : ℕ → ℕ → Order → Type 0
After t n p = (u : ℕ) × (p.end ≡ Some u) × ((t < u) ⊎ ((t ≡ u) × (n < p.number)))

-- among the candidates, o ends first, or at once and has the lowest number
module _ (p : Order → Bool) (t : ℕ) (o : Order) (is : o.end ≡ Some t) where
  later-not : (y : Order) → (y ≡ o) ⊎ After t o.number y → ends_sooner y o ≡ false
  later-not y (inl e) = rw (e, is) (le-ltb t t (omega arith))
  later-not y (inr (u, q, inl l)) = rw (q, is) (le-ltb u t (omega arith))
  later-not y (inr (u, q, inr l)) = rw (q, is) (le-ltb u t (omega (arith, l.0)))

  pub first_ends : (k m : ℕ) (os : List Order) → Ascends k m os → In o os → p o ≡ true → ((y : Order) → In y os → p y ≡ true → (y ≡ o) ⊎ After t o.number y) →
      first p ends_sooner os ≡ Some o
  unfolding first
  first_ends k m [] a i h lead = absurd i
  first_ends k m (w ∷ ws) a (inl e) h lead = go (first p ends_sooner ws) refl (first-in p ends_sooner ws)
    where
      pw : p w ≡ true
      pw = subst (λ (v : Order). p v ≡ true) e h

      go : (r : Option Order) → first p ends_sooner ws ≡ r → ((z : Order) → first p ends_sooner ws ≡ Some z → In z ws × (p z ≡ true)) → contest (p w) ends_sooner w r ≡ Some o
      go None q there = rw pw (ap (λ (v : Order). Some v) (sym e))
      go (Some y) q there =
          let l = there y q in
          let f : ends_sooner y w ≡ false = subst (λ (v : Order). ends_sooner y v ≡ false) e (later-not y (lead y (inr l.0) l.1)) in
          rw (pw, f) (ap (λ (v : Order). Some v) (sym e))
  first_ends k m (w ∷ ws) a (inr i) h lead = go (first_ends (suc w.number) m ws a.1 i h (λ y j. lead y (inr j))) (p w) refl
    where
      beats : (w ≡ o) ⊎ After t o.number w → cond (ends_sooner o w) o w ≡ o
      beats (inl e) = pick (ends_sooner o w)
        where
          pick : (b : Bool) → cond b o w ≡ o
          pick true = refl
          pick false = e
      beats (inr (u, q, inl l)) = rw (is, q, lt-ltb t u l)
      beats (inr (u, q, inr l)) = absurd (omega (arith, l.1, (ascends-in (suc w.number) m ws o a.1 i).0))

      go : first p ends_sooner ws ≡ Some o → (b : Bool) → p w ≡ b → contest b ends_sooner w (first p ends_sooner ws) ≡ Some o
      go ih false q = ih
      go ih true q = rw ih (ap (λ (v : Order). Some v) (beats (lead w (inl refl) q)))

-- ---- the head of the line

module _ (k m : ℕ) (os : List Order) (a : Ascends k m os) (wished : ℕ) where
  none-ends : Shows end_ahead [] os end_time → None ≡ expiring wished os
  unfolding expiring
  none-ends w = ap with_end (first-not (due_by wished) ends_sooner os (λ y i h. let d = due y wished h in w.each y d.entry i d.is))

  module _ (x : EndTime) (xs : List EndTime) (w : Shows end_ahead (x ∷ xs) os end_time) where
    sooner : (y : Order) → In y os → (d : Due y wished) → (d.entry ≡ x) ⊎ ((x.end < d.entry.end) ⊎ ((x.end ≡ d.entry.end) × (x.number < d.entry.number)))
    sooner y i d = ⊎_elim (λ e. inl e) (λ h. inr (sooner-ways x d.entry h)) (head-leads end_ahead x xs w.ordered d.entry (w.each y d.entry i d.is))

    later-ends : wished < x.end → None ≡ expiring wished os
    unfolding expiring
    later-ends l = ap with_end (first-not (due_by wished) ends_sooner os (λ y i h. let d = due y wished h in late d (sooner y i d)))
      where
        late : {y : Order} (d : Due y wished) → (d.entry ≡ x) ⊎ ((x.end < d.entry.end) ⊎ ((x.end ≡ d.entry.end) × (x.number < d.entry.number))) → ⊥
        late d (inl e) = omega (arith, ap (λ (z : EndTime). z.end) e, d.soon)
        late d (inr (inl h)) = omega (arith, d.soon)
        late d (inr (inr h)) = omega (arith, h.0, d.soon)

    head-ends : x.end ≤ wished → with_time (ordered x.number os) x.end ≡ expiring wished os
    unfolding expiring
    head-ends l = go (w.only x (inl refl))
      where
        go : ((o : Order) × In o os × (end_time o ≡ Some x)) → with_time (ordered x.number os) x.end ≡ with_end (first (due_by wished) ends_sooner os)
        go (o, i, is) =
            let e = ends-from o x is in
            let here : ordered x.number os ≡ Some o = ap (λ (n : ℕ). ordered n os) (sym e.number) ∙ in-ordered k m os o a i in
            let soon : due_by wished o ≡ true = ap (ends_by wished) e.end ∙ le-leb x.end wished l in
            let there : first (due_by wished) ends_sooner os ≡ Some o = first_ends (due_by wished) x.end o e.end k m os a i soon (λ y j h. let d = due y wished h in lead y j d (sooner y j d)) in
            ap (λ (r : Option Order). with_time r x.end) here ∙ sym (ap with_end there ∙ ap (λ (r : Option ℕ). ending_at r o) e.end)
          where
            lead : (y : Order) → In y os → (d : Due y wished) → (d.entry ≡ x) ⊎ ((x.end < d.entry.end) ⊎ ((x.end ≡ d.entry.end) × (x.number < d.entry.number))) →
                (y ≡ o) ⊎ After x.end o.number y
            lead y j d (inl q) =
                inl (ascends-unique k m os y o a j i ((ends-from y d.entry d.is).number ∙ ap (λ (z : EndTime). z.number) q ∙ sym (ends-from o x is).number))
            lead y j d (inr (inl h)) = inr (d.entry.end, (ends-from y d.entry d.is).end, inl h)
            lead y j d (inr (inr h)) =
                inr (d.entry.end, (ends-from y d.entry d.is).end, inr (h.0, omega (arith, h.1, (ends-from y d.entry d.is).number, (ends-from o x is).number)))

  pub ends-first : (xs : List EndTime) → Shows end_ahead xs os end_time → ending_by wished os (first_of xs) ≡ expiring wished os
  ends-first [] w = none-ends w
  ends-first (x ∷ xs) w =
      cond_both (ltb wished x.end) None (with_time (ordered x.number os) x.end) (λ (r : Option (Order × ℕ)). r ≡ expiring wished os)
      (λ h. later-ends x xs w (ltb-true wished x.end h)) (λ h. head-ends x xs w (ltb-false wished x.end h))
