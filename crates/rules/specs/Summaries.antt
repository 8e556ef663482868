-- The summary of a side. Assumes nothing.
use Rattle.std.specs.Prelude.{ℕ, zero, suc, ◌+◌, ◌&&◌, List, ℤ, Some, None, Option}
use Rattle.market.specs.declared.order.Side.{Side}
use Rattle.market.specs.declared.order.Order.{Order}
use Rattle.market.specs.declared.answer.Summary.{Summary}
use Rattle.rules.specs.Base.{eq_z, first}
use Rattle.rules.specs.Board.{Board, on, best}
use Rattle.rules.specs.Standings.{ahead}
use Rattle.rules.specs.Fills.{replace, displayed_of}

abbrev pub without : Option Order → List Order → List Order
without None os = os
without (Some o) os = replace o.number None os

-- the displayed total of the first k orders of the side at p
unfoldable pub total : ℕ → Board → Side → ℤ → List Order → ℕ
total zero b s p os = 0
total (suc k) b s p os =
    let o = first (λ o. on s o && eq_z o.price p) (ahead b) os in displayed_of o + total k b s p (without o os)

abbrev pub summary_at : Board → Side → Option ℤ → Option Summary
summary_at b s None = None
summary_at b s (Some p) = Some (record { price = p; size = total 8 b s p b.orders })

-- its best price, and the displayed total of the first eight orders there
unfoldable pub summary : Board → Side → Option Summary
summary b s = summary_at b s (best s b.orders)
