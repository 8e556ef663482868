use Rattle.std.proofs.Common.{◌≡◌, refl, rules}
use Rattle.rules.specs.Calls.{opened}
use Rattle.board.proofs.Boards.{same-board}
use Rattle.board.proofs.board.Board.new.Goals as goal

pub returns : goal.returns
unfolding opened
returns c =
    let session : c.default.result ≡ opened.board.session = search rules in
    same-board c.new.ensures refl refl session c.new-2.ensures c.new-3.ensures
