-- Orders that meet, and prices that are no better than others. Assumes nothing.
use Rattle.std.proofs.Common.{◌≡◌, ℕ, Bool, true, false, ◌⊎◌, List, ℤ, sym, refl, ◌∙◌, inl, inr, arith}
use lib.Signed.{lt_z}
use Rattle.std.proofs.lemmas.Int.{ints}
use Rattle.std.proofs.lemmas.Bool.{both_ways, cond-true}
use Rattle.market.specs.declared.order.Side.{Side}
use Rattle.market.specs.declared.order.Side.TheVariants.{Bid, Offer}
use Rattle.market.specs.declared.order.Order.{Order}
use Rattle.rules.specs.Board.{Board, other, better, meet}
use Rattle.rules.specs.Standings.{ahead}
use Rattle.rules.specs.Refusing.{would_meet}
use Rattle.rules.specs.Members.{In}
use Rattle.rules.proofs.Prices.{crossed-meet}
use Rattle.rules.proofs.Ranks.{ahead-on}
use Rattle.invariants.specs.Orderly.{Meets}

-- ---- meeting

-- an order meets one of the other side if that one's price is no better, for this side, than its own
pub meets-sides : (s : Side) (x y : Order) → x.side ≡ s → y.side ≡ other s → better s y.price x.price ≡ false → Meets x y ⊎ Meets y x
unfolding better
meets-sides Bid x y f g h = inl (record { bids = f; offers = g; met = grind (arith, ints) })
meets-sides Offer x y f g h = inr (record { bids = g; offers = f; met = grind (arith, ints) })

-- what meets still does where the bid is no worse and the offer no worse
pub still-meets : (x y x' y' : Order) → x.side ≡ x'.side → y.side ≡ y'.side → better x.side x'.price x.price ≡ false →
    better y.side y'.price y.price ≡ false → Meets x' y' → Meets x y
unfolding better
still-meets x y x' y' e f h k m =
    let h' : better Bid x'.price x.price ≡ false = rw (e, m.bids) at h in
    let k' : better Offer y'.price y.price ≡ false = rw (f, m.offers) at k in
    let l = m.met in
    record { bids = e ∙ m.bids; offers = f ∙ m.offers; met = grind (arith, ints) }

pub meets-meet : (os : List Order) (x y : Order) → In x os → In y os → Meets x y → meet os ≡ true
meets-meet os x y i j m =
    crossed-meet os (record { bid = x; offer = y; bids = i; offers = j; is_bid = m.bids; is_offer = m.offers; crossed = m.met })

-- two prices that are no better than a third, and meet, are that price
pub both_at : (x y : Order) (p : ℤ) → better x.side x.price p ≡ false → better y.side y.price p ≡ false → Meets x y →
    (x.price ≡ p) × (y.price ≡ p)
unfolding better
both_at x y p h k m =
    let h' : better Bid x.price p ≡ false = rw m.bids at h in
    let k' : better Offer y.price p ≡ false = rw m.offers at k in
    let l = m.met in (grind (arith, ints), grind (arith, ints))

-- an order that would meet another does not, if the test fails
pub would-not : (s : Side) (x y : Order) → x.side ≡ s → would_meet s x.price y.price ≡ false → (Meets x y → ⊥) × (Meets y x → ⊥)
would-not Bid x y e h = (λ m. let l = m.met in grind (arith, ints), λ m. let f = sym e ∙ m.offers in let z : ◌≡◌ {A = ℕ} 0 1 = cc in omega arith)
would-not Offer x y e h = (λ m. let f = sym e ∙ m.bids in let z : ◌≡◌ {A = ℕ} 0 1 = cc in omega arith, λ m. let l = m.met in grind (arith, ints))

-- ---- rank

-- what is not behind has no better price
pub unbeaten : (b : Board) (s : Side) (x y : Order) → x.side ≡ s → ahead b x y ≡ false → better s x.price y.price ≡ false
unfolding better
unbeaten b Bid x y e h = go (lt_z y.price x.price) refl
  where
    go : (q : Bool) → lt_z y.price x.price ≡ q → q ≡ false
    go false qe = refl
    go true qe = absurd (both_ways (ahead b x y) h (ahead-on b Bid x y e ∙ cond-true _ _ _ qe))
unbeaten b Offer x y e h = go (lt_z x.price y.price) refl
  where
    go : (q : Bool) → lt_z x.price y.price ≡ q → q ≡ false
    go false qe = refl
    go true qe = absurd (both_ways (ahead b x y) h (ahead-on b Offer x y e ∙ cond-true _ _ _ qe))
