use Rattle.std.proofs.Common.{refl, ap, ◌∙◌}
use Rattle.rules.specs.Base.{each}
use Rattle.rules.specs.Board.{Board}
use Rattle.rules.specs.Calls.{awaiting, cancelled_board}
use Rattle.board.specs.Struck.{struck_board}
use Rattle.board.proofs.Boards.{same-board}
use Rattle.board.proofs.Placed.{reserve_of}
use Rattle.effects.proofs.effects.cancel.Goals as goal

-- the board with its clock awaiting draws
abbrev waiting : Board → Board
waiting b =
    record {
      orders = b.orders;
      phase = b.phase;
      clock = awaiting b.clock.time b.clock;
      counters = b.counters;
      session = b.session;
      completions = b.completions;
      privileges = b.privileges;
    }

pub returns : goal.returns
unfolding cancelled_board struck_board
returns c =
    record {
      board = λ k m a. same-board refl c.await_draws_now.ensures refl refl refl refl ∙ ap waiting (c.board.view_is ∙ c.strike.ensures.board k m a);
      reserves = λ k m h a e. ap (λ (x : Board). each (reserve_of h) x.orders) c.board.view_is ∙ c.strike.ensures.reserves k m h a e;
    }
