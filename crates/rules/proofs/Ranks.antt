-- The orders of a side are ranked. Assumes nothing.
use Rattle.std.proofs.Common.{◌≡◌, Bool, true, false, ◌⊎◌, sym, refl, ap, ◌∙◌, inl, inr}
use Rattle.std.proofs.lemmas.Bool.{cases_Bool}
use Rattle.line.specs.Order.{Order as TotalOrder}
use Rattle.market.specs.Ranks.{BidRank, OfferRank, bid_ahead, offer_ahead}
use Rattle.market.specs.Soonest.{ranks-ordered}
use Rattle.market.specs.declared.order.Side.{Side}
use Rattle.market.specs.declared.order.Side.TheVariants.{Bid, Offer}
use Rattle.market.specs.declared.order.Order.{Order}
use Rattle.rules.specs.Board.{Board}
use Rattle.rules.specs.Standings.{bid_rank, offer_rank, ahead_on, ahead}
use Rattle.rules.proofs.Firsts.{Ranked, order-asymmetric, order-split}

-- ---- bids and offers are in total orders

pub bids-ordered : TotalOrder bid_ahead
bids-ordered = ranks-ordered Bid (λ p. record { 0 = p }) (λ p. p.0) (λ p. refl)

pub offers-ordered : TotalOrder offer_ahead
offers-ordered = ranks-ordered Offer (λ p. p) (λ p. p) (λ p. refl)

-- ---- orders of one side

pub ahead-on : (b : Board) (s : Side) (o p : Order) → o.side ≡ s → ahead b o p ≡ ahead_on s b o p
unfolding ahead
ahead-on b s o p e = ap (λ (t : Side). ahead_on t b o p) e

side-asymmetric : (s : Side) (b : Board) (x y : Order) → ahead_on s b x y ≡ true → ahead_on s b y x ≡ false
side-asymmetric Bid b x y = order-asymmetric bids-ordered (bid_rank b x) (bid_rank b y)
side-asymmetric Offer b x y = order-asymmetric offers-ordered (offer_rank b x) (offer_rank b y)

side-split : (s : Side) (b : Board) (x y z : Order) → ahead_on s b x z ≡ true → (ahead_on s b x y ≡ true) ⊎ (ahead_on s b y z ≡ true)
side-split Bid b x y z = order-split bids-ordered (bid_rank b x) (bid_rank b y) (bid_rank b z)
side-split Offer b x y z = order-split offers-ordered (offer_rank b x) (offer_rank b y) (offer_rank b z)

side-even : (s : Side) (b : Board) (x y : Order) → ahead_on s b x y ≡ false → ahead_on s b y x ≡ false → x.number ≡ y.number
side-even Bid b x y h k = ap (λ (r : BidRank). r.number) (bids-ordered.total (bid_rank b x) (bid_rank b y) h k)
side-even Offer b x y h k = ap (λ (r : OfferRank). r.number) (offers-ordered.total (offer_rank b x) (offer_rank b y) h k)

-- of two different orders of a side, the first is ahead if the second is not
pub ahead-total : (b : Board) (s : Side) (x y : Order) → x.side ≡ s → y.side ≡ s → ¬ (x.number ≡ y.number) → ahead b y x ≡ false →
    ahead_on s b x y ≡ true
ahead-total b s x y xs ys ne h = go (cases_Bool (ahead_on s b x y))
  where
    go : (ahead_on s b x y ≡ true) ⊎ (ahead_on s b x y ≡ false) → ahead_on s b x y ≡ true
    go (inl k) = k
    go (inr k) = absurd (ne (side-even s b x y k (sym (ahead-on b s y x ys) ∙ h)))

-- those that pass a test for orders of one side
pub ahead-ranked : (b : Board) (s : Side) (p : Order → Bool) → ((o : Order) → p o ≡ true → o.side ≡ s) → Ranked p (ahead b)
ahead-ranked b s p on =
    record {
      asymmetric = λ x y hx hy h.
          ahead-on b s y x (on y hy) ∙ side-asymmetric s b x y (sym (ahead-on b s x y (on x hx)) ∙ h);
      split = λ x y z hx hy hz h. go x y z (on x hx) (on y hy) (side-split s b x y z (sym (ahead-on b s x z (on x hx)) ∙ h));
    }
  where
    go : (x y z : Order) → x.side ≡ s → y.side ≡ s → (ahead_on s b x y ≡ true) ⊎ (ahead_on s b y z ≡ true) →
        (ahead b x y ≡ true) ⊎ (ahead b y z ≡ true)
    go x y z xs ys (inl k) = inl (ahead-on b s x y xs ∙ k)
    go x y z xs ys (inr k) = inr (ahead-on b s y z ys ∙ k)
