-- What a fill leaves of its two orders, and of the row of orders. Assumes nothing.
use Rattle.std.proofs.Common.{◌≡◌, ℕ, ◌+◌, ◌-◌, ◌≤◌, min, Bool, true, false, cond, eqb, ◌⊎◌, List, length, Some, None, Option, sym, refl, ◌∙◌, subst, inl, inr, le_trans, arith}
use Rattle.std.proofs.lemmas.Bool.{eqb-false}
use Rattle.market.specs.declared.order.Order.{Order}
use Rattle.rules.specs.Board.{Opening, lot}
use Rattle.rules.specs.Refusing.{is_size}
use Rattle.rules.specs.Fills.{Remainder, stays, restocks, leaves, drawing, remainder, drawn, executed, restocked, left, replace, size_of, remainder_of, drawn_from}
use Rattle.rules.specs.Members.{In}
use Rattle.rules.specs.Rising.{Keeps}
use Rattle.rules.specs.Sizes.{sizes}
use Rattle.rules.proofs.Tests.{some_inj, none≢some}
use Rattle.rules.proofs.Rows.{in-replace, replace-in, replace-shorter, write-here, write-there}
use Rattle.rules.proofs.Sizes.{worth, sizes-replace}
use Rattle.invariants.specs.Sound.{Lawful, Row}
use Rattle.invariants.proofs.Lots.{size_none, size-minus, size-min, a-lot}
use Rattle.invariants.proofs.Orders.{Instead, row-replace}

-- ---- one order

-- z is what is left of o: a fill takes of its sizes alone
pub record Left (o z : Order) : Type 0 where
  pub number : z.number ≡ o.number
  pub trader : z.trader ≡ o.trader
  pub side : z.side ≡ o.side
  pub price : z.price ≡ o.price
  pub end : z.end ≡ o.end
  pub prior : z.prior ≡ true → o.prior ≡ true

pub left-whole : (o : Order) → Left o o
left-whole o = record { number = refl; trader = refl; side = refl; price = refl; end = refl; prior = λ h. h }

pub left-again : (o p q : Order) → Left o p → Left p q → Left o q
left-again o p q a b =
    record {
      number = b.number ∙ a.number;
      trader = b.trader ∙ a.trader;
      side = b.side ∙ a.side;
      price = b.price ∙ a.price;
      end = b.end ∙ a.end;
      prior = λ h. a.prior (b.prior h);
    }

-- a fill of this size turns o, with the reserve r, into o'
pub record Served (k : Opening) (size r : ℕ) (o : Order) (f : Remainder) (o' : Option Order) : Type 0 where
  pub used : worth o' (r - drawn f) + size ≤ o.displayed + r
  pub left : (z : Order) → o' ≡ Some z → Left o z
  pub lawful : (z : Order) → o' ≡ Some z → Lawful k (r - drawn f) z

served : (k : Opening) (size r : ℕ) (o : Order) (session : Bool) (fill stamp : ℕ) → Lawful k r o → is_size k size ≡ true → size ≤ o.displayed →
    Served k size r o (remainder (o.displayed - size) o.shown r) (left (remainder (o.displayed - size) o.shown r) stamp (executed session fill size o))
unfolding remainder executed restocked
served k size r o session fill stamp w z le = go (eqb (o.displayed - size) 0) refl
  where
    m : ℕ
    m = min o.shown r

    is_m : is_size k m ≡ true
    is_m = size-min k o.shown r w.shown w.reserve

    draws : (q : Bool) → eqb m 0 ≡ q →
        Served k size r o (cond q leaves (restocks m)) (left (cond q leaves (restocks m)) stamp (executed session fill size o))
    draws true qe =
        record { used = omega arith; left = λ z e. absurd (none≢some e); lawful = λ z e. absurd (none≢some e) }
    draws false qe =
        record {
          used = let c : m ≤ r = omega arith in omega arith;
          left = λ z e. subst (Left o) (some_inj e)
              (record { number = refl; trader = refl; side = refl; price = refl; end = refl; prior = λ h. let f : ◌≡◌ {A = ℕ} 0 1 = cc in absurd (omega arith) });
          lawful = λ z e. subst (Lawful k (r - m)) (some_inj e)
              (record {
                trader = w.trader;
                price = w.price;
                displayed = is_m;
                visible = let n = eqb-false m 0 qe in omega arith;
                shown = w.shown;
                restocked = omega arith;
                reserve = size-minus k r m w.reserve is_m;
              });
        }

    go : (q : Bool) → eqb (o.displayed - size) 0 ≡ q →
        Served k size r o (cond q (drawing m) stays) (left (cond q (drawing m) stays) stamp (executed session fill size o))
    go true qe = draws (eqb m 0) refl
    go false qe =
        record {
          used = omega arith;
          left = λ p e. subst (Left o) (some_inj e)
              (record { number = refl; trader = refl; side = refl; price = refl; end = refl; prior = λ h. h });
          lawful = λ p e. subst (Lawful k (r - 0)) (some_inj e)
              (record {
                trader = w.trader;
                price = w.price;
                displayed = size-minus k o.displayed size w.displayed z;
                visible = let n = eqb-false (o.displayed - size) 0 qe in omega arith;
                shown = w.shown;
                restocked = let l = w.restocked in omega arith;
                reserve = size-minus k r 0 w.reserve (size_none k);
              });
        }

-- ---- the row

-- a fill took this size of the row: each order in it is left of one that was there
pub record Taken (k : Opening) (m size : ℕ) (h : ℕ → ℕ) (os : List Order) (h' : ℕ → ℕ) (os' : List Order) : Type 0 where
  pub row : Row k m h' os'
  pub used : sizes h' os' + size ≤ sizes h os
  pub shorter : length os' ≤ length os
  pub from : (z : Order) → In z os' → (o : Order) × In o os × Left o z

one : (k : Opening) (m size : ℕ) (h : ℕ → ℕ) (os : List Order) (x : Order) (f : Remainder) (x' : Option Order) → Row k m h os → In x os →
    Served k size (h x.number) x f x' → Taken k m size h os (drawn_from h x f) (replace x.number x' os)
one k m size h os x f x' row i s =
    let v = h x.number - drawn f in
    let e = sizes-replace h v x' 1 m os x (keeps x' s.left) row.rising i in
    let u = s.used in
    record {
      row = row-replace k m h (drawn_from h x f) os x x' row i (write-there x.number v h) (λ z g. instead v refl z g);
      used = omega arith;
      shorter = replace-shorter x.number x' os;
      from = λ z j. go z (in-replace x.number x' os z j);
    }
  where
    keeps : (r : Option Order) → ((z : Order) → r ≡ Some z → Left x z) → Keeps x.number r
    keeps None l = tt
    keeps (Some z) l = (l z refl).number

    instead : (v : ℕ) → v ≡ h x.number - drawn f → (z : Order) → x' ≡ Some z → Instead k (drawn_from h x f x.number) x z
    instead v ve z g =
        let l = s.left z g in
        record {
          number = l.number;
          side = l.side;
          end = l.end;
          lawful = subst (λ (r : ℕ). Lawful k r z) (sym (write-here x.number (h x.number - drawn f) h x.number refl)) (s.lawful z g);
        }

    go : (z : Order) → (x' ≡ Some z) ⊎ (In z os × ¬ (z.number ≡ x.number)) → (o : Order) × In o os × Left o z
    go z (inl e) = (x, i, s.left z e)
    go z (inr j) = (z, j.0, left-whole z)

pub two : (k : Opening) (m : ℕ) (h : ℕ → ℕ) (os : List Order) (x y : Order) (session : Bool) (n st st' : ℕ) → Row k m h os → In x os → In y os →
    ¬ (y.number ≡ x.number) →
    Taken k m (lot k + lot k) h os
    (drawn_from (drawn_from h x (remainder_of h (size_of x y) x)) y (remainder_of h (size_of x y) y))
    (replace y.number (left (remainder_of h (size_of x y) y) st' (executed session n (size_of x y) y))
    (replace x.number (left (remainder_of h (size_of x y) x) st (executed session n (size_of x y) x)) os))
unfolding remainder_of size_of
two k m h os x y session n st st' row i j apart =
    let z = min x.displayed y.displayed in
    let wx = row.lawful x i in
    let wy = row.lawful y j in
    let zs = size-min k x.displayed y.displayed wx.displayed wy.displayed in
    let zl : lot k ≤ z =
    let a = a-lot k x.displayed wx.displayed wx.visible in
    let b = a-lot k y.displayed wy.displayed wy.visible in omega arith in
    let f = remainder (x.displayed - z) x.shown (h x.number) in
    let g = remainder (y.displayed - z) y.shown (h y.number) in
    let x' = left f st (executed session n z x) in
    let y' = left g st' (executed session n z y) in
    let a = one k m z h os x f x' row i (served k z (h x.number) x session n st wx zs (omega arith)) in
    let h₁ = drawn_from h x f in
    let e : h y.number ≡ h₁ y.number = sym (write-there x.number (h x.number - drawn f) h y.number apart) in
    let sy : Served k z (h₁ y.number) y g y' =
    subst (λ (r : ℕ). Served k z r y g y') e (served k z (h y.number) y session n st' wy zs (omega arith)) in
    let b = one k m z h₁ (replace x.number x' os) y g y' a.row (replace-in x.number x' os y j apart) sy in
    record {
      row = b.row;
      used = let ua = a.used in let ub = b.used in omega arith;
      shorter = le_trans b.shorter a.shorter;
      from = λ p q. let r = b.from p q in let t = a.from r.0 r.1 in (t.0, t.1, left-again t.0 r.0 p t.2 r.2);
    }
