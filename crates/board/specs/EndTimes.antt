-- The entry of an order in the line of end times. Assumes nothing.
use Rattle.std.specs.Prelude.{ℕ, Some, None, Option}
use Rattle.market.specs.declared.order.Order.{Order}
use Rattle.market.specs.declared.rank.EndTime.{EndTime}

abbrev pub end_at : Option ℕ → ℕ → Option EndTime
end_at None n = None
end_at (Some t) n = Some (record { end = t; number = n })

abbrev pub end_time : Order → Option EndTime
end_time o = end_at o.end o.number
