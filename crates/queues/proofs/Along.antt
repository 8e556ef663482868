-- What a walk along a line has left, from one entry to the next. Assumes nothing.
use Rattle.std.proofs.Common.{◌≡◌, Bool, true, false, cond, List, [], ◌∷◌, Some, None, Option, sym, refl, ap, ◌∙◌, subst}
use Rattle.std.specs.List.{filter}
use Rattle.std.proofs.lemmas.Bool.{and_parts}
use Rattle.line.specs.Order.{Order as TotalOrder}
use Rattle.line.specs.Held.{Ordered, leads, in_order, behind, first_of}
use Rattle.queues.specs.Walking.{with_behind}
use Rattle.rules.proofs.Tests.{some_inj, none≢some}

module _ {X : Type 0} {ahead : X → X → Bool} (t : TotalOrder ahead) where
  -- an entry that leads a list is ahead of all of it
  all-behind : (x : X) (ys : List X) → leads ahead x ys ≡ true → filter (ahead x) ys ≡ ys
  all-behind x [] h = refl
  all-behind x (y ∷ ys) h =
      let q = and_parts (ahead x y) (leads ahead x ys) h in
      ap (λ (b : Bool). cond b (y ∷ filter (ahead x) ys) (filter (ahead x) ys)) q.0 ∙ ap (λ (zs : List X). y ∷ zs) (all-behind x ys q.1)

  -- and so is one that is ahead of that entry
  further : (x y : X) → ahead x y ≡ true → (ys : List X) → leads ahead y ys ≡ true → filter (ahead x) ys ≡ ys
  further x y e [] h = refl
  further x y e (z ∷ ys) h =
      let q = and_parts (ahead y z) (leads ahead y ys) h in
      ap (λ (b : Bool). cond b (z ∷ filter (ahead x) ys) (filter (ahead x) ys)) (t.transitive x y z e q.0) ∙ ap (λ (zs : List X). z ∷ zs) (further x y e ys q.1)

  -- from the first entry on, all are left
  pub from-first : (xs : List X) → Ordered ahead xs → with_behind ahead (first_of xs) xs ≡ xs
  from-first [] h = refl
  from-first (x ∷ xs) h =
      ap (λ (b : Bool). x ∷ cond b (x ∷ filter (ahead x) xs) (filter (ahead x) xs)) (t.irreflexive x) ∙
      ap (λ (zs : List X). x ∷ zs) (all-behind x xs (and_parts (leads ahead x xs) (in_order ahead xs) h).0)

  -- one of those that y leads is not ahead of y
  led : (x y : X) (ys : List X) → leads ahead y ys ≡ true → (z : X) → behind ahead x ys ≡ Some z → ahead y z ≡ true
  led x y [] h z e = absurd (none≢some e)
  led x y (w ∷ ws) h z e = let q = and_parts (ahead y w) (leads ahead y ws) h in go (led x y ws q.1 z) q.0 (ahead x w) e
    where
      go : (behind ahead x ws ≡ Some z → ahead y z ≡ true) → ahead y w ≡ true → (b : Bool) → cond b (Some w) (behind ahead x ws) ≡ Some z → ahead y z ≡ true
      go more q true p = subst (λ (v : X). ahead y v ≡ true) (some_inj p) q
      go more q false p = more p

  back : (y z : X) → ahead y z ≡ true → ahead z y ≡ false
  back y z h = go (ahead z y) refl
    where
      go : (b : Bool) → ahead z y ≡ b → b ≡ false
      go false p = refl
      go true p = sym (t.transitive y z y h p) ∙ t.irreflexive y

  -- what stands before an entry is not left
  later : (y : X) (ys : List X) (o : Option X) → ((z : X) → o ≡ Some z → ahead y z ≡ true) → with_behind ahead o ys ≡ with_behind ahead o (y ∷ ys)
  later y ys None h = refl
  later y ys (Some z) h = sym (ap (λ (b : Bool). z ∷ cond b (y ∷ filter (ahead z) ys) (filter (ahead z) ys)) (back y z (h z refl)))

  -- behind an entry are left the next and those behind it
  pub onwards : (x : X) (xs : List X) → Ordered ahead xs → filter (ahead x) xs ≡ with_behind ahead (behind ahead x xs) xs
  onwards x [] h = refl
  onwards x (y ∷ ys) h = go (onwards x ys (and_parts (leads ahead y ys) (in_order ahead ys) h).1) (ahead x y) refl
    where
      go : filter (ahead x) ys ≡ with_behind ahead (behind ahead x ys) ys → (b : Bool) → ahead x y ≡ b → cond b (y ∷ filter (ahead x) ys) (filter (ahead x) ys) ≡ with_behind ahead (cond b (Some y) (behind ahead x ys)) (y ∷ ys)
      go more true e =
          ap (λ (zs : List X). y ∷ zs) (further x y e ys (and_parts (leads ahead y ys) (in_order ahead ys) h).0) ∙ sym (from-first (y ∷ ys) h)
      go more false e = more ∙ later y ys (behind ahead x ys) (led x y ys (and_parts (leads ahead y ys) (in_order ahead ys) h).0)
