-- What an order has in the three lines. Assumes nothing.
use Rattle.std.specs.Prelude.{Some, None, Option}
use Rattle.market.specs.declared.order.Order.{Order}
use Rattle.rules.specs.Board.{Board}
use Rattle.board.specs.EndTimes.{end_time}
use Rattle.queues.specs.Entries.{bid_entry, offer_entry}
use Rattle.memory.specs.declared.entries.Entries.{Entries}

abbrev pub entries_of : Board → Order → Entries
entries_of b o = record { bid = bid_entry b o; offer = offer_entry b o; end = end_time o }

abbrev pub no_entries : Entries
no_entries = record { bid = None; offer = None; end = None }

-- of what is left of an order, if anything
abbrev pub afterwards : Board → Option Order → Entries
afterwards b None = no_entries
afterwards b (Some o) = entries_of b o
