use Rattle.std.proofs.Common.{◌≡◌, ℕ, List, ap, sym, subst, ◌∙◌, rules}
use Rattle.market.specs.declared.order.Order.{Order}
use Rattle.market.specs.declared.state.Clock.{Clock}
use Rattle.market.specs.declared.state.Completion.{Completion}
use Rattle.market.specs.declared.state.Counters.{Counters}
use Rattle.market.specs.declared.state.Phase.{Phase}
use Rattle.market.specs.declared.state.Privilege.{Privilege}
use Rattle.market.specs.declared.state.Session.{Session}
use Rattle.rules.specs.Base.{each}
use Rattle.rules.specs.Board.{Board, Table}
use Rattle.rules.specs.Draws.{reaching, removed_board}
use Rattle.rules.specs.Rising.{Ascends}
use Rattle.board.specs.Struck.{Strikes, struck_board}
use Rattle.board.proofs.Placed.{reserve_of}
use Rattle.draws.specs.Removals.{Kept}
use Rattle.draws.proofs.removals.remove.Goals as goal

abbrev board_at : List Order → Phase → Counters → Session → Table Completion → Table Privilege → Clock → Board
board_at os ph co se cm pr k =
    record {
      orders = os;
      phase = ph;
      clock = k;
      counters = co;
      session = se;
      completions = cm;
      privileges = pr;
    }

-- the order is struck from a board that is b, and then the clock turned
module _ {c s : Board} {o : Order} {rs rs' : List ℕ} (struck : Strikes o c s rs rs') (b : Board) (same : c ≡ b) where
  rises : (k m : ℕ) → Ascends k m b.orders → Ascends k m c.orders
  rises k m a = subst (λ (x : Board). Ascends k m x.orders) (sym same) a

  removes : (os : List Order) (ph : Phase) (co : Counters) (se : Session) (cm : Table Completion) (pr : Table Privilege) (now : Clock) (t : ℕ)
      → board_at os ph co se cm pr s.clock ≡ s → now ≡ reaching t s.clock → (k m : ℕ) → Ascends k m b.orders → board_at os ph co se cm pr now ≡ removed_board b t o
  unfolding struck_board removed_board
  removes os ph co se cm pr now t is reached k m a =
      ap (board_at os ph co se cm pr) reached
      ∙ ap (λ (x : Board). board_at x.orders x.phase x.counters x.session x.completions x.privileges (reaching t x.clock))
      (is ∙ struck.board k m (rises k m a) ∙ ap (λ (x : Board). struck_board x o) same)

  keeps : (os : List Order) (before : List ℕ) → os ≡ s.orders → rs ≡ before → (k m : ℕ) → Ascends k m b.orders → Kept b.orders before os rs'
  keeps os before is all k m a h e =
      ap (each (reserve_of h)) is
      ∙ struck.reserves k m h (rises k m a) (ap (λ (x : Board). each (reserve_of h) x.orders) same ∙ e ∙ sym all)

pub returns-clause-board : goal.returns-clause-board
returns-clause-board c = removes c.strike.ensures c.args.board.now (search rules) _ _ _ _ _ _ _ c.args.time (search rules) (search rules)

pub returns-clause-reserves : goal.returns-clause-reserves
returns-clause-reserves c = keeps c.strike.ensures c.args.board.now (search rules) _ _ (search rules) (search rules)
