use Rattle.std.proofs.Common.{rules}
use Rattle.rules.specs.Refusing.{entry_price}
use Rattle.board.proofs.board.Board.entry_price.Goals as goal

pub returns-then-beats_session : goal.returns-then-beats_session
unfolding entry_price
returns-then-beats_session c = search rules

pub returns-else-beats_session : goal.returns-else-beats_session
unfolding entry_price
returns-else-beats_session c = search rules
