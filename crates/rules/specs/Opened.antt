-- Named on an `unfolding` line, `rules` opens every rule: for computing at a worked example. Assumes nothing.
use Rattle.std.specs.Prelude.{Bool, true}
use Rattle.market.specs.Ranks.{sooner}
use Rattle.rules.specs.Base.{keep, any, count, find, first, each, write}
use Rattle.rules.specs.Board.{place, rows, better, best, meet, ordered}
use Rattle.rules.specs.Standings.{standing, ahead}
use Rattle.rules.specs.Entitlement.{prior_left, entitled, first_entitled}
use Rattle.rules.specs.Privileges.{completed, earned, granted, adjust}
use Rattle.rules.specs.Fills.{remainder, executed, restocked, replace, session_after, size_of, remainder_of, fill_of, filled_board}
use Rattle.rules.specs.Draws.{opening, pairing, goes, removing, expiring, coming, decided, started, begun_board, removed_board, turned_board, rested_board, record_of, board_after, hidden_after, draw}
use Rattle.rules.specs.Refusing.{is_size, own_meets, line_full, entry_price, owned, entry_tests, entry_refusal, change_tests, change_refusal, cancel_refusal, tick_refusal}
use Rattle.rules.specs.Calls.{entered, entered_board, changed, changed_board, cancelled_board, ticked_board, step, opened, run, answers}
use Rattle.rules.specs.Summaries.{total, summary}

unfoldable pub rules : Bool
unfolding sooner keep any count find first each write place rows better best meet ordered standing ahead prior_left entitled first_entitled completed earned granted adjust remainder executed restocked replace session_after size_of remainder_of fill_of filled_board opening pairing goes removing expiring coming decided started begun_board removed_board turned_board rested_board record_of board_after hidden_after draw is_size own_meets line_full entry_price owned entry_tests entry_refusal change_tests change_refusal cancel_refusal tick_refusal entered entered_board changed changed_board cancelled_board ticked_board step opened run answers total summary
rules = true
