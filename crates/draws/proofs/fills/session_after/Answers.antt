use Rattle.std.proofs.Common.{◌≡◌, ℕ, ℤ, Option, sym, w32, SFits, rules}
use Rattle.std.proofs.lemmas.Int.{to_z-of_z}
use Rattle.std.proofs.lemmas.Bool.{cond-true, cond-false}
use Rattle.market.specs.declared.state.Session.{Session}
use Rattle.rules.specs.Board.{Board}
use Rattle.rules.specs.Entitlement.{prior_left}
use Rattle.rules.specs.Fills.{aggressor_after, session_after}
use Rattle.draws.proofs.fills.session_after.Goals as goal

abbrev session_with : Session → ℤ → Option ℕ → ℕ → Option ℕ → Option ℕ → Session
session_with s price aggressor last buyer seller =
    record {
      price = price;
      passive = s.passive;
      owner = s.owner;
      trigger = s.trigger;
      aggressor = aggressor;
      settled = s.settled;
      since = s.since;
      last = last;
      buyer = buyer;
      seller = seller;
    }

same-session : (s : Session) {p p' : ℤ} {a a' : Option ℕ} {l l' : ℕ} {x x' y y' : Option ℕ} →
    p ≡ p' → a ≡ a' → l ≡ l' → x ≡ x' → y ≡ y' → session_with s p a l x y ≡ session_with s p' a' l' x' y'
same-session s e f g h i = cc

-- of equal boards, who is the Aggressive Owner is told alike
told : {b b' : Board} {x : Option ℕ} → b ≡ b' → x ≡ aggressor_after b'.phase (prior_left b'.orders) b'.session → x ≡ aggressor_after b.phase (prior_left b.orders) b.session
told e h = rw e h

pub returns-then-not-in_session : goal.returns-then-not-in_session
unfolding session_after
returns-then-not-in_session c =
    let fits : SFits w32 c.board.inside.session.price = search rules in
    let out = sym c.if-not-in_session.ensures in
    rw (← c.board.view_is) (same-session c.board.inside.session (to_z-of_z w32 c.board.inside.session.price fits) (told c.board.view_is c.aggressor_after-aggressor.ensures)
    (sym (cond-false _ _ _ out)) (sym (cond-false _ _ _ out)) (sym (cond-false _ _ _ out)))

pub returns : goal.returns
unfolding session_after
returns c =
    let fits : SFits w32 c.board.inside.session.price = search rules in
    let runs = sym c.if-not-in_session.ensures in
    rw (← c.board.view_is) (same-session c.board.inside.session (to_z-of_z w32 c.board.inside.session.price fits) (told c.board.view_is c.aggressor_after-aggressor.ensures)
    (sym (cond-true _ _ _ runs)) (sym (cond-true _ _ _ runs)) (sym (cond-true _ _ _ runs)))
