-- Best prices, and when they meet. Assumes nothing.
use Rattle.std.proofs.Common.{◌≡◌, Bool, true, false, cond, List, [], ◌∷◌, ℤ, ◌≤ℤ◌, Some, None, Option, sym, refl, ap, ◌∙◌, subst, inl, inr, arith}
use lib.Signed.{le_z}
use Rattle.std.proofs.lemmas.Int.{ints}
use Rattle.std.proofs.lemmas.Bool.{false≢true, both_ways}
use Rattle.market.specs.declared.order.Side.{Side}
use Rattle.market.specs.declared.order.Side.TheVariants.{Bid, Offer}
use Rattle.market.specs.declared.order.Order.{Order}
use Rattle.rules.specs.Board.{on, better, best_of, best, cross, meet}
use Rattle.rules.specs.Members.{In}
use Rattle.rules.proofs.Tests.{some_inj, none≢some, same_true, eq-same}

-- ---- better prices

pub better-self : (s : Side) (p : ℤ) → better s p p ≡ false
unfolding better
better-self Bid p = grind (arith, ints)
better-self Offer p = grind (arith, ints)

pub better-asymmetric : (s : Side) (p q : ℤ) → better s p q ≡ true → better s q p ≡ false
unfolding better
better-asymmetric Bid p q h = grind (arith, ints)
better-asymmetric Offer p q h = grind (arith, ints)

pub better-even : (s : Side) (p q : ℤ) → better s p q ≡ false → better s q p ≡ false → p ≡ q
unfolding better
better-even Bid p q h k = grind (arith, ints)
better-even Offer p q h k = grind (arith, ints)

-- what is no better than a price is no better than one that is no worse
pub no-better : (s : Side) (p q r : ℤ) → better s p q ≡ false → better s q r ≡ false → better s p r ≡ false
unfolding better
no-better Bid p q r h k = grind (arith, ints)
no-better Offer p q r h k = grind (arith, ints)

pub bid-no-better : (p q : ℤ) → better Bid p q ≡ false → p ≤ℤ q
unfolding better
bid-no-better p q h = grind (arith, ints)

pub offer-no-better : (p q : ℤ) → better Offer p q ≡ false → q ≤ℤ p
unfolding better
offer-no-better p q h = grind (arith, ints)

-- ---- the best price

pub record IsBest (s : Side) (os : List Order) (p : ℤ) : Type 0 where
  pub order : Order
  pub listed : In order os
  pub side : order.side ≡ s
  pub price : order.price ≡ p
  pub best : (o : Order) → In o os → o.side ≡ s → better s o.price p ≡ false

pub best_none : (s : Side) (os : List Order) → best s os ≡ None → (o : Order) → In o os → o.side ≡ s → ⊥
unfolding best
best_none s [] e o i h = i
best_none s (x ∷ xs) e o i h = go (best_none s xs) (on s x) refl (best s xs) refl e i
  where
    go : (best s xs ≡ None → (o : Order) → In o xs → o.side ≡ s → ⊥) → (q : Bool) → on s x ≡ q → (r : Option ℤ) → best s xs ≡ r →
        best_of q s x.price r ≡ None → In o (x ∷ xs) → ⊥
    go ih false qe r re c (inl f) = both_ways (on s x) qe (eq-same s x.side (ap (λ (z : Order). z.side) (sym f) ∙ h))
    go ih false qe r re c (inr i) = ih (re ∙ c) o i h
    go ih true qe None re c i = none≢some (sym c)
    go ih true qe (Some z) re c i = none≢some (sym c)

pub best-some : (s : Side) (os : List Order) (p : ℤ) → best s os ≡ Some p → IsBest s os p
unfolding best
best-some s [] p e = absurd (none≢some e)
best-some s (x ∷ xs) p e = go (best-some s xs) (best_none s xs) (on s x) refl (best s xs) refl e
  where
    Best : ℤ → Type 0
    Best z = (o : Order) → In o (x ∷ xs) → o.side ≡ s → better s o.price z ≡ false

    first : (z : ℤ) → better s x.price z ≡ false → ((o : Order) → In o xs → o.side ≡ s → better s o.price z ≡ false) → Best z
    first z h l o (inl f) k = subst (λ (w : Order). better s w.price z ≡ false) (sym f) h
    first z h l o (inr i) k = l o i k

    choose : (q : Bool) (z : ℤ) → better s z x.price ≡ q → on s x ≡ true → IsBest s xs z → IsBest s (x ∷ xs) (cond q z x.price)
    choose true z qe h b =
        record {
          order = b.order;
          listed = inr b.listed;
          side = b.side;
          price = b.price;
          best = first z (better-asymmetric s z x.price qe) b.best;
        }
    choose false z qe h b =
        record {
          order = x;
          listed = inl refl;
          side = same_true s x.side h;
          price = refl;
          best = first x.price (better-self s x.price) (λ o i k. no-better s o.price z x.price (b.best o i k) qe);
        }

    go : ((z : ℤ) → best s xs ≡ Some z → IsBest s xs z) → (best s xs ≡ None → (o : Order) → In o xs → o.side ≡ s → ⊥) →
        (q : Bool) → on s x ≡ q → (r : Option ℤ) → best s xs ≡ r → best_of q s x.price r ≡ Some p → IsBest s (x ∷ xs) p
    go ih none false qe r re c =
        let b = ih p (re ∙ c) in
        record { order = b.order; listed = inr b.listed; side = b.side; price = b.price; best = elsewhere b.best }
      where
        elsewhere : ((o : Order) → In o xs → o.side ≡ s → better s o.price p ≡ false) → Best p
        elsewhere l o (inl f) k = absurd (both_ways (on s x) qe (eq-same s x.side (ap (λ (z : Order). z.side) (sym f) ∙ k)))
        elsewhere l o (inr i) k = l o i k
    go ih none true qe None re c =
        subst (IsBest s (x ∷ xs)) (some_inj c)
        (record {
          order = x;
          listed = inl refl;
          side = same_true s x.side qe;
          price = refl;
          best = first x.price (better-self s x.price) (λ o i k. absurd (none re o i k));
        })
    go ih none true qe (Some z) re c = subst (IsBest s (x ∷ xs)) (some_inj c) (choose (better s z x.price) z refl qe (ih z re))

-- ---- when prices meet

-- a bid at or above an offer
pub record Crossed (os : List Order) : Type 0 where
  pub bid : Order
  pub offer : Order
  pub bids : In bid os
  pub offers : In offer os
  pub is_bid : bid.side ≡ Bid
  pub is_offer : offer.side ≡ Offer
  pub crossed : offer.price ≤ℤ bid.price

at_most : (a b : ℤ) → le_z a b ≡ true → a ≤ℤ b
at_most a b h = grind (arith, ints)

pub meet-crossed : (os : List Order) → meet os ≡ true → Crossed os
unfolding meet
meet-crossed os h = go (best Bid os) refl (best Offer os) refl h
  where
    go : (b : Option ℤ) → best Bid os ≡ b → (a : Option ℤ) → best Offer os ≡ a → cross b a ≡ true → Crossed os
    go None be a ae h = absurd (false≢true h)
    go (Some b) be None ae h = absurd (false≢true h)
    go (Some b) be (Some a) ae h =
        let x = best-some Bid os b be in
        let y = best-some Offer os a ae in
        record {
          bid = x.order;
          offer = y.order;
          bids = x.listed;
          offers = y.listed;
          is_bid = x.side;
          is_offer = y.side;
          crossed = rw (x.price, y.price) (at_most a b h);
        }

pub crossed-meet : (os : List Order) → Crossed os → meet os ≡ true
unfolding meet
crossed-meet os c = go (best Bid os) refl (best Offer os) refl
  where
    between : (a b p q : ℤ) → p ≤ℤ b → a ≤ℤ q → q ≤ℤ p → le_z a b ≡ true
    between a b p q h k m = grind (arith, ints)

    go : (b : Option ℤ) → best Bid os ≡ b → (a : Option ℤ) → best Offer os ≡ a → cross b a ≡ true
    go None be a ae = absurd (best_none Bid os be c.bid c.bids c.is_bid)
    go (Some b) be None ae = absurd (best_none Offer os ae c.offer c.offers c.is_offer)
    go (Some b) be (Some a) ae =
        between a b c.bid.price c.offer.price
        (bid-no-better c.bid.price b ((best-some Bid os b be).best c.bid c.bids c.is_bid))
        (offer-no-better c.offer.price a ((best-some Offer os a ae).best c.offer c.offers c.is_offer)) c.crossed
