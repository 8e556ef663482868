use Rattle.std.proofs.Common.{sym, refl, ◌∙◌}
use Rattle.market.specs.declared.state.Phase.TheVariants.{Open, Timed, Rolling, Fbs}
use Rattle.drawing.proofs.Boards.{read}
use Rattle.drawing.proofs.Turned.{turned-still, turned-reranked}
use Rattle.drawing.proofs.turning.turn.Goals as goal

pub returns-in-Open : goal.returns-in-Open
returns-in-Open g c k S sound w d =
    turned-still g.L.Bids.Line g.L.Offers.Line g.L.Ends.Line c.args.memory.now c.turn.new.board k S c.args.time w c.turn.ensures Open
    (sym (read (λ m. m.board.phase) c.memory.view_is) ∙ c.in-Open.is) refl refl

pub returns-in-Timed : goal.returns-in-Timed
returns-in-Timed g c k S sound w d =
    turned-still g.L.Bids.Line g.L.Offers.Line g.L.Ends.Line c.args.memory.now c.turn.new.board k S c.args.time w c.turn.ensures Timed
    (sym (read (λ m. m.board.phase) c.memory.view_is) ∙ c.in-Timed.is) refl refl

pub returns-in-Rolling : goal.returns-in-Rolling
returns-in-Rolling g c k S sound w d =
    turned-reranked g.L.Bids.Line g.L.Offers.Line g.L.Ends.Line c.args.memory.now c.turn.new.board k S c.args.time w c.turn.ensures Rolling
    (sym (read (λ m. m.board.phase) c.memory.view_is) ∙ c.in-Rolling.is) c.rerank.new.self sound c.rerank.ensures

pub returns-in-Fbs : goal.returns-in-Fbs
returns-in-Fbs g c k S sound w d =
    turned-reranked g.L.Bids.Line g.L.Offers.Line g.L.Ends.Line c.args.memory.now c.turn.new.board k S c.args.time w c.turn.ensures Fbs
    (sym (read (λ m. m.board.phase) c.memory.view_is) ∙ c.in-Fbs.is) c.rerank-in-Fbs.new.self sound c.rerank-in-Fbs.ensures
