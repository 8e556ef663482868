use Rattle.std.proofs.Common.{refl, ap, ◌∙◌}
use Rattle.market.specs.declared.record.Record.TheVariants.{Quiet}
use Rattle.rules.specs.Board.{Board}
use Rattle.rules.specs.Draws.{record_of}
use Rattle.drawing.proofs.Boards.{read}
use Rattle.drawing.proofs.Still.{rested}
use Rattle.drawing.proofs.resting.rest.Goals as goal

pub returns : goal.returns
unfolding record_of
returns g c k S sound w d = (
  rested g.L.Bids.Line g.L.Offers.Line g.L.Ends.Line c.args.memory.now _ k S w
      (record { settings = refl; bids = refl; offers = refl; ends = refl }) refl c.rest.ensures,
  read (λ m. Quiet m.board.clock.wished) c.memory.view_is ∙ ap (λ (b : Board). Quiet b.clock.wished) w.board,
)
