use Rattle.std.proofs.Common.{ℕ, ap, ◌∙◌}
use Rattle.market.specs.declared.state.Clock.{Clock}
use Rattle.market.specs.declared.state.Phase.{Phase}
use Rattle.rules.specs.Board.{Board}
use Rattle.rules.specs.Draws.{reaching, begun_at, phase_after, turned_board}
use Rattle.board.specs.Memory.{board_of}
use Rattle.draws.proofs.phases.turn.Goals as goal

-- the board in this phase from this time on
abbrev entering : ℕ → Phase → Clock → Board → Board
entering t p k b =
    record {
      orders = b.orders;
      phase = p;
      clock = k;
      counters = b.counters;
      session = begun_at t b.session;
      completions = b.completions;
      privileges = b.privileges;
    }

pub returns : goal.returns
unfolding turned_board
returns c =
    let t = c.args.time in
    let b = board_of c.board.inside in
    ap (λ k. entering t c.phase_after-board-inside.result k b) c.reach.ensures ∙
    ap (λ p. entering t p (reaching t b.clock) b) c.phase_after-board-inside.ensures ∙
    ap (λ b. entering t (phase_after b.phase) (reaching t b.clock) b) (c.board.view_is ∙ c.settle_privileges.ensures)
