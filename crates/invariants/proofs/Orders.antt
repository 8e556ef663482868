-- What stays of the row of orders, when one is put in another's place, each is changed, or one is added. Assumes nothing.
use Rattle.std.proofs.Common.{◌≡◌, ℕ, suc, ◌+◌, ◌<◌, ◌≤◌, Bool, true, false, cond, ◌⊎◌, List, [], ◌∷◌, ◌++◌, length, Some, None, Option, sym, refl, ap, ◌∙◌, subst, inl, inr, le_trans, arith, length-append}
use Rattle.market.specs.declared.order.Side.{Side}
use Rattle.market.specs.declared.order.Side.TheVariants.{Bid, Offer}
use Rattle.market.specs.declared.order.Order.{Order}
use Rattle.rules.specs.Base.{count, each, write, is_some}
use Rattle.rules.specs.Board.{Opening, on, same}
use Rattle.rules.specs.Fills.{replace}
use Rattle.rules.specs.Refusing.{ending, most_orders, room_for}
use Rattle.rules.specs.Members.{In}
use Rattle.rules.specs.Rising.{Ascends, Keeps}
use Rattle.rules.specs.Sizes.{sizes}
use Rattle.rules.proofs.Rows.{ascends-in, ascends-unique, ascends-each, ascends-push, ascends-replace, in-replace, replace-shorter, write-here, write-there}
use Rattle.rules.proofs.Members.{in-each, length-each, in-push}
use Rattle.invariants.specs.Sound.{Lawful, Row}
use Rattle.invariants.proofs.Counts.{count-replace, count-each, count-push}

-- z can stand in the place of o, with this reserve
pub record Instead (k : Opening) (v : ℕ) (o z : Order) : Type 0 where
  pub number : z.number ≡ o.number
  pub side : z.side ≡ o.side
  pub end : z.end ≡ o.end
  pub lawful : Lawful k v z

pub row-replace : (k : Opening) (m : ℕ) (h h' : ℕ → ℕ) (os : List Order) (o : Order) (r : Option Order) → Row k m h os → In o os →
    ((n : ℕ) → ¬ (n ≡ o.number) → h' n ≡ h n) → ((z : Order) → r ≡ Some z → Instead k (h' o.number) o z) →
    Row k m h' (replace o.number r os)
row-replace k m h h' os o r row i there here =
    record {
      rising = ascends-replace 1 m o.number r os (keeps r here) row.rising;
      lawful = λ p j. go p (in-replace o.number r os p j);
      few = le_trans (replace-shorter o.number r os) row.few;
      bids = le_trans (fewer (on Bid) (λ z e. ap (same Bid) (here z e).side)) row.bids;
      offers = le_trans (fewer (on Offer) (λ z e. ap (same Offer) (here z e).side)) row.offers;
      ends = le_trans (fewer ending (λ z e. ap is_some (here z e).end)) row.ends;
    }
  where
    keeps : (r : Option Order) → ((z : Order) → r ≡ Some z → Instead k (h' o.number) o z) → Keeps o.number r
    keeps None f = tt
    keeps (Some z) f = (f z refl).number

    fewer : (p : Order → Bool) → ((z : Order) → r ≡ Some z → p z ≡ p o) → count p (replace o.number r os) ≤ count p os
    fewer p f =
        count-replace p o.number r os (λ x z j e g. f z g ∙ ap p (ascends-unique 1 m os o x row.rising i j (sym e)))

    go : (p : Order) → (r ≡ Some p) ⊎ (In p os × ¬ (p.number ≡ o.number)) → Lawful k (h' p.number) p
    go p (inl e) = subst (λ (n : ℕ). Lawful k (h' n) p) (sym (here p e).number) (here p e).lawful
    go p (inr j) = subst (λ (v : ℕ). Lawful k v p) (sym (there p.number j.1)) (row.lawful p j.0)

-- an order goes
pub row-without : (k : Opening) (m : ℕ) (h : ℕ → ℕ) (os : List Order) (o : Order) → Row k m h os → In o os → Row k m h (replace o.number None os)
row-without k m h os o row i = row-replace k m h h os o None row i (λ n ne. refl) (λ z e. let f : ◌≡◌ {A = ℕ} 0 1 = cc in absurd (omega arith))

pub row-each : (k : Opening) (m : ℕ) (h : ℕ → ℕ) (os : List Order) (f : Order → Order) → Row k m h os →
    ((o : Order) → (f o).number ≡ o.number) → ((o : Order) → (f o).side ≡ o.side) → ((o : Order) → (f o).end ≡ o.end) →
    ((o : Order) → In o os → Lawful k (h o.number) (f o)) → Row k m h (each f os)
row-each k m h os f row number side end lawful =
    record {
      rising = ascends-each f number 1 m os row.rising;
      lawful = λ p j. go p (in-each f os p j);
      few = let e = length-each f os in let l = row.few in omega arith;
      bids = let e = count-each (on Bid) f (λ o. ap (same Bid) (side o)) os in let l = row.bids in omega arith;
      offers = let e = count-each (on Offer) f (λ o. ap (same Offer) (side o)) os in let l = row.offers in omega arith;
      ends = let e = count-each ending f (λ o. ap is_some (end o)) os in let l = row.ends in omega arith;
    }
  where
    go : (p : Order) → (o : Order) × In o os × (p ≡ f o) → Lawful k (h p.number) p
    go p r =
        let e : p.number ≡ r.0.number = ap (λ (z : Order). z.number) r.2 ∙ number r.0 in
        subst (λ (n : ℕ). Lawful k (h n) p) (sym e)
        (subst (λ (z : Order). Lawful k (h r.0.number) z) (sym r.2) (lawful r.0 r.1))

-- there is room for one more
pub record Room (k : Opening) (os : List Order) (o : Order) : Type 0 where
  pub few : length os < most_orders
  pub side : count (on o.side) os < room_for k o.side
  pub end : ending o ≡ true → count ending os < k.ends

pub row-push : (k : Opening) (m v : ℕ) (h : ℕ → ℕ) (os : List Order) (o : Order) → Row k m h os → Room k os o → o.number ≡ m → Lawful k v o →
    Row k (m + 1) (write m v h) (os ++ (o ∷ []))
row-push k m v h os o row room number lawful =
    record {
      rising = ascends-push 1 m os o number row.rising;
      lawful = λ p j. go p (in-push os o p j);
      few = let e = length-append os (o ∷ []) in let l = room.few in omega arith;
      bids = let e = count-push (on Bid) os o in let l = bids o.side room.side in omega arith;
      offers = let e = count-push (on Offer) os o in let l = offers o.side room.side in omega arith;
      ends = let e = count-push ending os o in let l = ends (ending o) room.end in omega arith;
    }
  where
    bids : (s : Side) → count (on s) os < room_for k s → count (on Bid) os + cond (same Bid s) 1 0 ≤ k.bids
    bids Bid l = omega arith
    bids Offer l = let m = row.bids in omega arith

    offers : (s : Side) → count (on s) os < room_for k s → count (on Offer) os + cond (same Offer s) 1 0 ≤ k.offers
    offers Bid l = let m = row.offers in omega arith
    offers Offer l = omega arith

    ends : (q : Bool) → (q ≡ true → count ending os < k.ends) → count ending os + cond q 1 0 ≤ k.ends
    ends true f = let l = f refl in omega arith
    ends false f = let l = row.ends in omega arith

    go : (p : Order) → In p os ⊎ (p ≡ o) → Lawful k (write m v h p.number) p
    go p (inl i) =
        let l = ascends-in 1 m os p row.rising i in
        subst (λ (r : ℕ). Lawful k r p) (sym (write-there m v h p.number (λ e. omega (arith, l.1)))) (row.lawful p i)
    go p (inr e) =
        subst (λ (r : ℕ). Lawful k r p) (sym (write-here m v h p.number (ap (λ (z : Order). z.number) e ∙ number)))
        (subst (Lawful k v) (sym e) lawful)

-- the reserve of a new number is no order's
pub sizes-new : (h : ℕ → ℕ) (v k m : ℕ) (os : List Order) → Ascends k m os → sizes (write m v h) os ≡ sizes h os
sizes-new h v k m [] a = refl
sizes-new h v k m (o ∷ os) a =
    let l = ascends-in k m (o ∷ os) o a (inl refl) in
    let e = write-there m v h o.number (λ e. omega (arith, l.1)) in
    let i = sizes-new h v (suc o.number) m os a.1 in omega arith
