-- Who may trade, by what is told of the board. Assumes nothing.
use Rattle.std.specs.Prelude.{Bool, true, false, ◌&&◌, ℤ, Option}
use Rattle.market.specs.declared.order.Order.{Order}
use Rattle.market.specs.declared.state.Phase.{Phase}
use Rattle.market.specs.declared.state.Phase.TheVariants.{Open, Timed, Rolling, Fbs}
use Rattle.market.specs.declared.state.Session.{Session}
use Rattle.rules.specs.Board.{Board, same}
use Rattle.rules.specs.Entitlement.{at_price, prior_left, passively, aggressively, is_at}
use Rattle.board.specs.declared.entitlement.Entitlement.{Entitlement}

-- what is told: whether prices meet, and the best price of the side that is asked about
abbrev pub entitlement_of : Board → Bool → Option ℤ → Entitlement
entitlement_of b meets best =
    record { phase = b.phase; session = b.session; priors = prior_left b.orders; meets = meets; best = best }

abbrev pub timedly : Bool → Bool → Session → Order → Bool
timedly true priors s o = passively priors s o
timedly false priors s o = aggressively s.aggressor s o

abbrev pub allowed_in : Phase → Session → Bool → Bool → Option ℤ → Order → Bool
allowed_in Open s priors meets best o = false
allowed_in Timed s priors meets best o = timedly (same o.side s.passive) priors s o
allowed_in Rolling s priors meets best o = at_price s o
allowed_in Fbs s priors meets best o = meets && is_at o.price best

abbrev pub allowed : Entitlement → Order → Bool
allowed e o = allowed_in e.phase e.session e.priors e.meets e.best o
