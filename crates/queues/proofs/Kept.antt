-- A line after one change lists the orders after it. Assumes nothing.
use Rattle.std.proofs.Common.{◌≡◌, ℕ, ◌+◌, ◌<◌, ◌≤◌, Bool, List, [], ◌∷◌, ◌++◌, length, get_or, drop, None, Option, sym, refl, ap, ◌∙◌, subst, arith}
use Rattle.std.proofs.lemmas.List.{drop_more, drop_all}
use Rattle.line.specs.Order.{Order as TotalOrder}
use Rattle.line.specs.declared.lines.Line.{Ghosts}
use Rattle.market.specs.declared.order.Order.{Order}
use Rattle.rules.specs.Base.{is_some, each, count}
use Rattle.rules.specs.Board.{Board}
use Rattle.rules.specs.Fills.{replace}
use Rattle.rules.specs.Rising.{Ascends}
use Rattle.rules.proofs.Rows.{ascends-in}
use Rattle.queues.specs.Lists.{Shows, Lists}
use Rattle.queues.specs.Changes.{added, taken, filled, Enlists, Unlists, Relists, Refills}
use Rattle.queues.proofs.Shown.{Named, Fitting, having, push-joins, shows-pass, alike-covers, fitting-added, fitting-taken, fitting-replaced, fitting-filled}
use Rattle.queues.proofs.Sized.{sized, count-alike}

module _ {L X : Type 0} {ahead : X → X → Bool} (g : Ghosts L X) where
  from-fitting : (l : L) (os : List Order) (e : Order → Option X) (room : ℕ) (ys : List X) → g.entries l ≡ ys → Fitting ahead room ys os e → Lists ahead g l os e
  from-fitting l os e room ys is w = subst (λ (zs : List X). Shows ahead zs os e) (sym is) w.1

  -- a line that is left alone lists other orders: with the same entries, place by place
  pub lists-alike : (l : L) (os os' : List Order) (e e' : Order → Option X) → each e os ≡ each e' os' → Lists ahead g l os e → Lists ahead g l os' e'
  lists-alike l os os' e e' q = shows-pass os os' e e' (alike-covers os os' e e' q) (alike-covers os' os e' e (sym q))

  -- a line that holds nothing lists no orders
  pub lists-none : (l : L) (e : Order → Option X) → g.entries l ≡ [] → Lists ahead g l [] e
  lists-none l e is = from-fitting l [] e (g.room l) [] is (omega arith, record { ordered = refl; each = λ o x i q. i; only = λ x i. absurd i })

-- ---- a line filled by one order after another

-- the next of the orders adds its entry, and the rest do as before
pub filled_more : {X : Type 0} (ahead : X → X → Bool) (e : Order → Option X) (room r : ℕ) (os : List Order) (i : ℕ) (d : Order) (new : Option X) (xs xs' zs : List X) →
    i < length os → new ≡ e (get_or os i d) → r ≡ room → xs' ≡ added ahead r new xs → filled ahead room (each e (drop i os)) xs ≡ zs → filled ahead room (each e (drop (i + 1) os)) xs' ≡ zs
unfolding each
filled_more {X} ahead e room r os i d new xs xs' zs l is rooms more inv =
    let rest = each e (drop (i + 1) os) in
    ap (λ (ys : List X). filled ahead room rest ys) (more ∙ ap (λ (n : ℕ). added ahead n new xs) rooms ∙ ap (λ (n : Option X). added ahead room n xs) is) ∙
    sym (ap (λ (ps : List Order). filled ahead room (each e ps) xs) (drop_more os i d l)) ∙ inv

pub filled-all : {X : Type 0} (ahead : X → X → Bool) (e : Order → Option X) (room : ℕ) (os : List Order) (i : ℕ) (xs zs : List X) →
    length os ≤ i → filled ahead room (each e (drop i os)) xs ≡ zs → xs ≡ zs
unfolding each
filled-all ahead e room os i xs zs l inv = sym (ap (λ (ps : List Order). filled ahead room (each e ps) xs) (drop_all i os l)) ∙ inv

-- ---- what the line lists then

module _ {L X : Type 0} {ahead : X → X → Bool} (t : TotalOrder ahead) (number : X → ℕ) (mine : Order → Bool) (entry : Board → Order → Option X)
    (has : (b : Board) (o : Order) → is_some (entry b o) ≡ mine o) (named : (b : Board) → Named number (entry b)) (g : Ghosts L X) (fits : (l : L) → length (g.entries l) ≤ g.room l) where
  -- a line holds as many entries as there are orders of its own
  pub lists_length : (l : L) (b : Board) (k m : ℕ) (os : List Order) → Ascends k m os → Lists ahead g l os (entry b) → length (g.entries l) ≡ count mine os
  lists_length l b k m os a w =
      sized t number (entry b) (named b) k m os (g.entries l) a w ∙ count-alike (having (entry b)) mine (has b) os

  module _ (l l' : L) (rooms : g.room l' ≡ g.room l) where
    pub enlists : (new : Option X) → g.entries l' ≡ added ahead (g.room l) new (g.entries l) → Enlists ahead mine entry g l l' new
    enlists new is =
        record {
          room = rooms;
          entries = is;
          lists = λ b os o m a le q free w.
              let size = lists_length l b 1 m os a w in
              from-fitting g l' (os ++ (o ∷ [])) (entry b) (g.room l) (added ahead (g.room l) new (g.entries l)) is
              (fitting-added t number (g.room l) (entry b) (named b) os (os ++ (o ∷ [])) o (push-joins os o) (λ p i r. omega (arith, (ascends-in 1 m os p a i).1)) (g.entries l) new q
              (λ h. omega (arith, size, free (sym (has b o) ∙ ap is_some q ∙ h))) (fits l, w));
        }

    pub unlists : (old : Option X) → g.entries l' ≡ taken ahead old (g.entries l) → Unlists ahead mine entry g l l' old
    unlists old is =
        record {
          room = rooms;
          entries = is;
          lists = λ b os o m a i q w.
              from-fitting g l' (replace o.number None os) (entry b) (g.room l) (taken ahead old (g.entries l)) is
              (fitting-taken t number (g.room l) (entry b) (named b) 1 m os a o i (g.entries l) old q (fits l, w));
        }

    pub relists : (old new : Option X) → g.entries l' ≡ added ahead (g.room l) new (taken ahead old (g.entries l)) → Relists ahead mine entry g l l' old new
    relists old new is =
        record {
          room = rooms;
          entries = is;
          lists = λ b b' os o r m a i keeps q q' some same w.
              from-fitting g l' (replace o.number r os) (entry b') (g.room l) (added ahead (g.room l) new (taken ahead old (g.entries l))) is
              (fitting-replaced t number (g.room l) (entry b) (entry b') (named b) (named b') 1 m os a o i same (g.entries l) r keeps old new q q' some (fits l, w));
        }

  pub refills : (l l' : L) (b : Board) → g.room l' ≡ g.room l → g.entries l' ≡ filled ahead (g.room l) (each (entry b) b.orders) [] → Refills ahead mine entry g l l' b
  refills l l' b rooms is =
      record {
        room = rooms;
        entries = is;
        lists = λ m a h.
            from-fitting g l' b.orders (entry b) (g.room l) (filled ahead (g.room l) (each (entry b) b.orders) []) is
            (fitting-filled t number (g.room l) (entry b) (named b) [] b.orders 1 m [] (λ p i. absurd i) a
            (omega (arith, h, count-alike (having (entry b)) mine (has b) b.orders))
            (omega arith, record { ordered = refl; each = λ o x i q. i; only = λ x i. absurd i }));
      }
