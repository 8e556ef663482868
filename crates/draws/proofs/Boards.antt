-- Boards with equal parts are equal. Assumes nothing.
use Rattle.std.proofs.Common.{◌≡◌, List}
use Rattle.market.specs.declared.order.Order.{Order}
use Rattle.market.specs.declared.state.Phase.{Phase}
use Rattle.market.specs.declared.state.Clock.{Clock}
use Rattle.market.specs.declared.state.Counters.{Counters}
use Rattle.market.specs.declared.state.Session.{Session}
use Rattle.market.specs.declared.state.Completion.{Completion}
use Rattle.market.specs.declared.state.Privilege.{Privilege}
use Rattle.rules.specs.Board.{Board, Table}

abbrev board_with : List Order → Phase → Clock → Counters → Session → Table Completion → Table Privilege → Board
board_with os p k n s cs ps =
    record { orders = os; phase = p; clock = k; counters = n; session = s; completions = cs; privileges = ps }

pub same-board : {os os' : List Order} {p : Phase} {k : Clock} {n n' : Counters} {s s' : Session} {cs cs' : Table Completion} {ps ps' : Table Privilege} →
    os ≡ os' → n ≡ n' → s ≡ s' → cs ≡ cs' → ps ≡ ps' → board_with os p k n s cs ps ≡ board_with os' p k n' s' cs' ps'
same-board a b c d e = cc
