-- Outside the FBS Period orders stand by their stamps alone. Assumes nothing.
use Rattle.std.proofs.Common.{◌≡◌, ℕ, false, Option, sym, refl, ◌∙◌}
use Rattle.std.proofs.lemmas.Bool.{true≢false}
use Rattle.market.specs.declared.order.Order.{Order}
use Rattle.market.specs.declared.state.Phase.{Phase}
use Rattle.market.specs.declared.state.Phase.TheVariants.{Open, Timed, Rolling, Fbs}
use Rattle.market.specs.declared.state.Privilege.{Privilege}
use Rattle.rules.specs.Board.{Board, Table, is_fbs}
use Rattle.rules.specs.Standings.{plain, standing_in, standing}

plain_in : (p : Phase) (buyer seller : Option ℕ) (ps : Table Privilege) (o : Order) → is_fbs p ≡ false → standing_in p buyer seller ps o ≡ plain o
plain_in Open buyer seller ps o h = refl
plain_in Timed buyer seller ps o h = refl
plain_in Rolling buyer seller ps o h = refl
plain_in Fbs buyer seller ps o h = absurd (true≢false h)

pub plainly : (b : Board) (o : Order) → is_fbs b.phase ≡ false → standing b o ≡ plain o
unfolding standing
plainly b o h = plain_in b.phase b.session.buyer b.session.seller b.privileges o h

-- an order stands alike on two such boards
pub stands_alike : (b b' : Board) (o : Order) → is_fbs b.phase ≡ false → is_fbs b'.phase ≡ false → standing b' o ≡ standing b o
stands_alike b b' o h h' = plainly b' o h' ∙ sym (plainly b o h)
