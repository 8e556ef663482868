-- Where orders stand in the table. Assumes nothing.
use Rattle.std.specs.Prelude.{ℕ, List, Option}
use Rattle.std.specs.List.{position_from}
use Rattle.market.specs.declared.order.Order.{Order}
use Rattle.rules.specs.Board.{numbered}

-- the place of the order with that number, where the first has place 0
abbrev pub position_of : ℕ → List Order → Option ℕ
position_of n os = position_from (numbered n) 0 os
