-- Entries that show orders: one order more, one fewer, and other orders with the same entries. Assumes nothing.
use Rattle.std.proofs.Common.{◌≡◌, ℕ, suc, ◌+◌, ◌<◌, ◌≤◌, Bool, true, false, cond, ◌⊎◌, List, [], ◌∷◌, ◌++◌, length, is_ok, Some, None, Ok, Err, Option, sym, refl, ap, ◌∙◌, subst, inl, inr, ⊎_elim, arith}
use Rattle.std.proofs.lemmas.List.{append-nil, append_assoc}
use Rattle.std.proofs.lemmas.Bool.{false≢true, cond_both}
use Rattle.line.specs.Order.{Order as TotalOrder}
use Rattle.line.specs.Held.{holds, with_entry, without}
use Rattle.line.specs.Answers.{put_answer, take_answer}
use Rattle.line.specs.declared.lines.LineFault.TheVariants.{NotHeld}
use Rattle.line.proofs.Chains.{ordered-with, ordered-without}
use Rattle.line.proofs.Lists.{length-with}
use Rattle.line.proofs.Refusals.{put-ok}
use Rattle.market.specs.declared.order.Order.{Order}
use Rattle.rules.specs.Base.{is_some, each, count}
use Rattle.rules.specs.Fills.{replace}
use Rattle.rules.specs.Members.{In}
use Rattle.rules.specs.Rising.{Ascends, Keeps}
use Rattle.rules.proofs.Members.{in-each, each_in, in-push, push-in}
use Rattle.rules.proofs.Rows.{ascends-unique, in-replace, replace-in, replaced-in}
use Rattle.rules.proofs.Tests.{some_inj, none≢some}
use Rattle.queues.specs.Lists.{Shows}
use Rattle.queues.specs.Changes.{added, taken, filled, entry_of}
use Rattle.queues.proofs.Held.{in-with, with_in, in_without, without_in, in-holds, not-held, without-shorter, without_fewer}

-- ---- the same entries

-- each entry of the ones is an entry of the others
abbrev pub Covers : {X : Type 0} → List Order → (Order → Option X) → List Order → (Order → Option X) → Type 0
Covers {X} os e os' e' = (o : Order) (x : X) → In o os → e o ≡ Some x → (p : Order) × In p os' × (e' p ≡ Some x)

module _ {X : Type 0} {ahead : X → X → Bool} {xs : List X} (os os' : List Order) (e e' : Order → Option X) where
  pub shows-pass : Covers os e os' e' → Covers os' e' os e → Shows ahead xs os e → Shows ahead xs os' e'
  shows-pass f b w =
      record {
        ordered = w.ordered;
        each = λ o x i q. let r = b o x i q in w.each r.0 x r.1 r.2;
        only = λ x i. let r = w.only x i in f r.0 x r.1 r.2;
      }

-- orders with the same entries, place by place
pub alike-covers : {X : Type 0} (os os' : List Order) (e e' : Order → Option X) → each e os ≡ each e' os' → Covers os e os' e'
alike-covers {X} os os' e e' q o x i h =
    let r = in-each e' os' (e o) (subst (λ (ys : List (Option X)). In (e o) ys) q (each_in e os o i)) in (r.0, r.1, sym r.2 ∙ h)

-- ---- one more, one fewer

-- one order more: the others are the same
pub record Joins (os os' : List Order) (o : Order) : Type 0 where
  pub old : (p : Order) → In p os' → In p os ⊎ (p ≡ o)
  pub kept : (p : Order) → In p os → In p os'
  pub here : In o os'

module _ {X : Type 0} {ahead : X → X → Bool} (t : TotalOrder ahead) (e : Order → Option X) (os os' : List Order) (o : Order) (xs : List X) where
  pub shows_more : (x : X) → e o ≡ Some x → holds ahead x xs ≡ false → Joins os os' o → Shows ahead xs os e → Shows ahead (with_entry ahead x xs) os' e
  shows_more x is free j w =
      record {
        ordered = ordered-with t x xs free w.ordered;
        each = λ p y i q. with_in ahead x xs y (to p y q (j.old p i));
        only = λ y i. from y (in-with ahead x xs y i);
      }
    where
      to : (p : Order) (y : X) → e p ≡ Some y → In p os ⊎ (p ≡ o) → (y ≡ x) ⊎ In y xs
      to p y q (inl i) = inr (w.each p y i q)
      to p y q (inr r) = inl (some_inj (sym q ∙ ap e r ∙ is))

      from : (y : X) → (y ≡ x) ⊎ In y xs → (p : Order) × In p os' × (e p ≡ Some y)
      from y (inl q) = (o, j.here, is ∙ ap (λ (z : X). Some z) (sym q))
      from y (inr i) = let r = w.only y i in (r.0, j.kept r.0 r.1, r.2)

  pub shows-no-more : e o ≡ None → Joins os os' o → Shows ahead xs os e → Shows ahead xs os' e
  shows-no-more is j =
      shows-pass os os' e e (λ p x i q. (p, j.kept p i, q)) (λ p x i q. (p, ⊎_elim (λ k. k) (λ r. absurd (none≢some (sym is ∙ ap e (sym r) ∙ q))) (j.old p i), q))

  -- one order fewer; entries of different orders differ
  pub shows-fewer : (x : X) → e o ≡ Some x → ((p : Order) (y : X) → In p os' → e p ≡ Some y → In p os × ¬ (y ≡ x)) → ((p : Order) → In p os → ¬ (p ≡ o) → In p os') →
      Shows ahead xs os e → Shows ahead (without ahead x xs) os' e
  shows-fewer x is b f w =
      record {
        ordered = ordered-without ahead x xs w.ordered;
        each = λ p y i q. let r = b p y i q in without_in t x xs y (w.each p y r.0 q) r.1;
        only = λ y i. from y (in_without t x xs y i);
      }
    where
      from : (y : X) → In y xs × ¬ (y ≡ x) → (p : Order) × In p os' × (e p ≡ Some y)
      from y i = let r = w.only y i.0 in (r.0, f r.0 r.1 (λ q. i.1 (some_inj (sym r.2 ∙ ap e q ∙ is))), r.2)

-- ---- the row of orders with one in the place of another

pub push-joins : (os : List Order) (o : Order) → Joins os (os ++ (o ∷ [])) o
push-joins os o = record { old = in-push os o; kept = λ p i. push-in os o p (inl i); here = push-in os o o (inr refl) }

-- what is left are the others
pub left_in : (n : ℕ) (os : List Order) (p : Order) → In p (replace n None os) → In p os × ¬ (p.number ≡ n)
left_in n os p i = ⊎_elim (λ e. absurd (none≢some e)) (λ r. r) (in-replace n None os p i)

pub replace-joins : (n : ℕ) (os : List Order) (o z : Order) → In o os → o.number ≡ n → Joins (replace n None os) (replace n (Some z) os) z
replace-joins n os o z i q =
    record {
      old = λ p j. ⊎_elim (λ e. inr (sym (some_inj e))) (λ r. inl (replace-in n None os p r.0 r.1)) (in-replace n (Some z) os p j);
      kept = λ p j. let r = left_in n os p j in replace-in n (Some z) os p r.0 r.1;
      here = replaced-in n z os o i q;
    }

-- ---- entries added and taken, by order

-- entries carry their order's number
abbrev pub Named : {X : Type 0} → (X → ℕ) → (Order → Option X) → Type 0
Named {X} number e = (o : Order) (x : X) → e o ≡ Some x → number x ≡ o.number

-- it has an entry
abbrev pub having : {X : Type 0} → (Order → Option X) → Order → Bool
having e o = is_some (e o)

-- the entries fit the room, and show the orders
abbrev pub Fitting : {X : Type 0} → (X → X → Bool) → ℕ → List X → List Order → (Order → Option X) → Type 0
Fitting ahead room xs os e = (length xs ≤ room) × Shows ahead xs os e

module _ {X : Type 0} {ahead : X → X → Bool} (t : TotalOrder ahead) (number : X → ℕ) (room : ℕ) where
  -- of an order with a new number
  module _ (e : Order → Option X) (named : Named number e) (os os' : List Order) (o : Order) (j : Joins os os' o) (new' : (p : Order) → In p os → ¬ (p.number ≡ o.number)) (xs : List X) where
    fresh : (x : X) → e o ≡ Some x → Shows ahead xs os e → holds ahead x xs ≡ false
    fresh x is w = not-held t x xs (λ i. let r = w.only x i in new' r.0 r.1 (sym (named r.0 x r.2) ∙ named o x is))

    pub fitting-added : (new : Option X) → e o ≡ new → (is_some new ≡ true → length xs < room) → Fitting ahead room xs os e → Fitting ahead room (added ahead room new xs) os' e
    fitting-added None is free (f, w) = (f, shows-no-more t e os os' o xs is j w)
    fitting-added (Some x) is free (f, w) =
        let h = fresh x is w in
        let l : length xs < room = free refl in
        let ok : is_ok (put_answer ahead x room xs) ≡ true = ap is_ok (sym (put-ok ahead x room xs h l)) in
        subst (λ (b : Bool). Fitting ahead room (cond b (with_entry ahead x xs) xs) os' e) (sym ok)
        (omega (arith, length-with ahead x xs), shows_more t e os os' o xs x is h j w)

  module _ (e : Order → Option X) (named : Named number e) (k m : ℕ) (os : List Order) (a : Ascends k m os) (o : Order) (i : In o os) (xs : List X) where
    -- its entry is held
    held : (x : X) → e o ≡ Some x → Shows ahead xs os e → is_ok (take_answer ahead x xs) ≡ true
    held x is w = ap (λ (q : Bool). is_ok (cond q (Ok tt) (Err NotHeld))) (in-holds t x xs (w.each o x i is))

    pub fitting-taken : (old : Option X) → e o ≡ old → Fitting ahead room xs os e → Fitting ahead room (taken ahead old xs) (replace o.number None os) e
    fitting-taken None is (f, w) = (
      f,
      shows-pass os (replace o.number None os) e e
          (λ p x j q. (p, replace-in o.number None os p j (λ n. none≢some (sym is ∙ ap e (sym (ascends-unique k m os p o a j i n)) ∙ q)), q))
          (λ p x j q. (p, (left_in o.number os p j).0, q)) w,
    )
    fitting-taken (Some x) is (f, w) =
        subst (λ (q : Bool). Fitting ahead room (cond q (without ahead x xs) xs) (replace o.number None os) e) (sym (held x is w)) (
          omega (arith, without-shorter ahead x xs),
          shows-fewer t e os (replace o.number None os) o xs x is
              (λ p y j q. let r = left_in o.number os p j in (r.0, λ z. r.1 (sym (named p y q) ∙ ap number z ∙ named o x is)))
              (λ p j n. replace-in o.number None os p j (λ q. n (ascends-unique k m os p o a j i q))) w,
        )

    -- taking an entry out makes room
    pub taken-room : (old : Option X) → e o ≡ old → is_some old ≡ true → Fitting ahead room xs os e → length (taken ahead old xs) < room
    taken-room None is h w = absurd (false≢true h)
    taken-room (Some x) is h (f, w) =
        subst (λ (q : Bool). length (cond q (without ahead x xs) xs) < room) (sym (held x is w)) (omega (arith, without_fewer t x xs (w.each o x i is)))

  -- r, if anything, in the place of o
  module _ (e e' : Order → Option X) (named : Named number e) (named' : Named number e') (k m : ℕ) (os : List Order) (a : Ascends k m os) (o : Order) (i : In o os)
      (same : (p : Order) → In p os → ¬ (p.number ≡ o.number) → e' p ≡ e p) (xs : List X) where
    others : (old : Option X) → e o ≡ old → Fitting ahead room xs os e → Fitting ahead room (taken ahead old xs) (replace o.number None os) e'
    others old is w =
        let rest = replace o.number None os in
        let v = fitting-taken e named k m os a o i xs old is w in
        let eq : (p : Order) → In p rest → e' p ≡ e p = λ p j. let r = left_in o.number os p j in same p r.0 r.1 in
        (v.0, shows-pass rest rest e e' (λ p x j q. (p, j, eq p j ∙ q)) (λ p x j q. (p, j, sym (eq p j) ∙ q)) v.1)

    pub fitting-replaced : (r : Option Order) → Keeps o.number r → (old new : Option X) → e o ≡ old → entry_of e' r ≡ new → (is_some new ≡ true → is_some old ≡ true) →
        Fitting ahead room xs os e → Fitting ahead room (added ahead room new (taken ahead old xs)) (replace o.number r os) e'
    fitting-replaced None keeps old new is is' some w =
        subst (λ (n : Option X). Fitting ahead room (added ahead room n (taken ahead old xs)) (replace o.number None os) e') is' (others old is w)
    fitting-replaced (Some z) keeps old new is is' some w =
        fitting-added e' named' (replace o.number None os) (replace o.number (Some z) os) z (replace-joins o.number os o z i refl)
        (λ p j q. (left_in o.number os p j).1 (q ∙ keeps)) (taken ahead old xs) new is' (λ h. taken-room e named k m os a o i xs old is (some h) w) (others old is w)

  -- one after another
  module _ (e : Order → Option X) (named : Named number e) where
    pub fitting-filled : (front os : List Order) (k m : ℕ) (xs : List X) → ((p : Order) → In p front → p.number < k) → Ascends k m os →
        length xs + count (having e) os ≤ room → Fitting ahead room xs front e → Fitting ahead room (filled ahead room (each e os) xs) (front ++ os) e
    unfolding each count
    fitting-filled front [] k m xs low a h w = subst (λ (os : List Order). Fitting ahead room xs os e) (sym (append-nil front)) w
    fitting-filled front (o ∷ os) k m xs low a h w =
        subst (λ (ps : List Order). Fitting ahead room (filled ahead room (each e os) (added ahead room (e o) xs)) ps e) (append_assoc front (o ∷ []) os)
        (fitting-filled (front ++ (o ∷ [])) os (suc o.number) m (added ahead room (e o) xs) low' a.1 (room_for (e o) h)
        (fitting-added e named front (front ++ (o ∷ [])) o (push-joins front o) (λ p i q. omega (arith, low p i, a.0)) xs (e o) refl (space (e o) h) w))
      where
        low' : (p : Order) → In p (front ++ (o ∷ [])) → p.number < suc o.number
        low' p i = ⊎_elim (λ j. omega (arith, low p j, a.0)) (λ q. omega (arith, ap (λ (x : Order). x.number) q)) (in-push front o p i)

        space : (n : Option X) → length xs + (cond (is_some n) 1 0 + count (having e) os) ≤ room → is_some n ≡ true → length xs < room
        space None h q = absurd (false≢true q)
        space (Some x) h q = omega arith

        room_for : (n : Option X) → length xs + (cond (is_some n) 1 0 + count (having e) os) ≤ room → length (added ahead room n xs) + count (having e) os ≤ room
        room_for None h = omega arith
        room_for (Some x) h =
            cond_both (is_ok (put_answer ahead x room xs)) (with_entry ahead x xs) xs (λ (ys : List X). length ys + count (having e) os ≤ room) (λ _. omega (arith, length-with ahead x xs)) (λ _. omega arith)
