-- A fill settled for one of its orders. Assumes nothing.
use Rattle.std.proofs.Common.{◌≡◌, ℕ, ◌-◌, Bool, List, Some, refl, ap, ◌∙◌, arith}
use Rattle.market.specs.declared.order.Order.{Order}
use Rattle.rules.specs.Base.{each}
use Rattle.rules.specs.Fills.{Remainder, stays, restocks, leaves, drawn, left, executed, restocked, replace, drawn_from}
use Rattle.rules.specs.Rising.{Ascends, Keeps}
use Rattle.board.specs.Positions.{position_of}
use Rattle.board.specs.Rows.{put_at}
use Rattle.draws.specs.Remainders.{reserve_after}
use Rattle.board.proofs.Placed.{reserve_of, kept, reserves-put}

-- what is left of an order has its number
pub keeps-left : (f : Remainder) (stamp : ℕ) (s : Bool) (n size : ℕ) (o : Order) → Keeps o.number (left f stamp (executed s n size o))
unfolding executed restocked
keeps-left stays stamp s n size o = refl
keeps-left (restocks m) stamp s n size o = refl
keeps-left leaves stamp s n size o = tt

kept-left : (f : Remainder) (stamp r : ℕ) (o : Order) → kept (r - drawn f) (left f stamp o) ≡ reserve_after f r
kept-left stays stamp r o = ap (λ v. Some v) (omega arith)
kept-left (restocks m) stamp r o = refl
kept-left leaves stamp r o = refl

-- the reserves beside the orders, after one order was filled
pub reserves-left : (h : ℕ → ℕ) (f : Remainder) (stamp : ℕ) (s : Bool) (n size : ℕ) (o : Order) (k m : ℕ) (os : List Order) → Ascends k m os →
    each (reserve_of (drawn_from h o f)) (replace o.number (left f stamp (executed s n size o)) os) ≡
    put_at (position_of o.number os) (reserve_after f (h o.number)) (each (reserve_of h) os)
reserves-left h f stamp s n size o k m os a =
    reserves-put o.number (h o.number - drawn f) h (left f stamp (executed s n size o)) k m os (keeps-left f stamp s n size o) a ∙
    ap (λ r. put_at (position_of o.number os) r (each (reserve_of h) os)) (kept-left f stamp (h o.number) (executed s n size o))
