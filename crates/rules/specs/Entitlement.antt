-- Who may trade. Assumes nothing.
use Rattle.std.specs.Prelude.{ℕ, Bool, true, false, ◌&&◌, List, ℤ, Some, None, Option, ◌==◌}
use Rattle.market.specs.declared.order.Side.{Side}
use Rattle.market.specs.declared.order.Order.{Order}
use Rattle.market.specs.declared.state.Phase.{Phase}
use Rattle.market.specs.declared.state.Phase.TheVariants.{Open, Timed, Rolling, Fbs}
use Rattle.market.specs.declared.state.Session.{Session}
use Rattle.rules.specs.Base.{eq_z, any, first}
use Rattle.rules.specs.Board.{Board, on, same, best, meet}
use Rattle.rules.specs.Standings.{ahead}

-- at the session's price
abbrev pub at_price : Session → Order → Bool
at_price s o = eq_z o.price s.price

-- a prior order is left
unfoldable pub prior_left : List Order → Bool
prior_left os = any (λ o. o.prior) os

-- the passive side in Timed: the prior orders; if none is left, the Passive Owner's orders at the price
abbrev pub passively : Bool → Session → Order → Bool
passively true s o = o.prior
passively false s o = at_price s o && o.trader == s.owner

-- the other side in Timed: the Aggressive Owner's orders at the price, or without such an owner all there
abbrev pub aggressively : Option ℕ → Session → Order → Bool
aggressively None s o = at_price s o
aggressively (Some t) s o = at_price s o && o.trader == t

abbrev pub in_timed : Bool → Board → Order → Bool
in_timed true b o = passively (prior_left b.orders) b.session o
in_timed false b o = aggressively b.session.aggressor b.session o

abbrev pub is_at : ℤ → Option ℤ → Bool
is_at p None = false
is_at p (Some q) = eq_z p q

-- in Rolling all at the session's price; in the FBS Period, while prices meet, those at each side's best price
abbrev pub entitled_in : Phase → Board → Order → Bool
entitled_in Open b o = false
entitled_in Timed b o = in_timed (same o.side b.session.passive) b o
entitled_in Rolling b o = at_price b.session o
entitled_in Fbs b o = meet b.orders && is_at o.price (best o.side b.orders)

unfoldable pub entitled : Board → Side → Order → Bool
entitled b s o = on s o && entitled_in b.phase b o

-- the first by rank of a side's entitled orders
unfoldable pub first_entitled : Board → Side → Option Order
first_entitled b s = first (entitled b s) (ahead b) b.orders
