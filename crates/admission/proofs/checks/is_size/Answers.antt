use Rattle.std.proofs.Common.{◌≡◌, ℕ, ◌%◌, Bool, ◌&&◌, eqb, leb, sym, ap, ◌∙◌}
use Rattle.std.proofs.lemmas.Bool.{eq-eqb, ne_eqb}
use Rattle.market.specs.Tenors.{lot_of}
use Rattle.market.specs.declared.settings.Settings.{Settings}
use Rattle.rules.specs.Board.{Opening}
use Rattle.rules.specs.Refusing.{is_size}
use Rattle.admission.proofs.checks.is_size.Goals as goal

-- the lot of the settings is that of any opening with them
tested : (k : Opening) (s : Settings) (n l : ℕ) {b : Bool} → k.settings ≡ s → l ≡ lot_of s.tenor → eqb (n % l) 0 ≡ b →
    (b && leb n 1000000) ≡ is_size k n
unfolding is_size
tested k s n l e q t =
    ap (λ b. b && leb n 1000000) (sym t ∙ ap (λ m. eqb (n % m) 0) (q ∙ ap (λ (x : Settings). lot_of x.tenor) (sym e)))

pub returns-then-size-lot-eq0 : goal.returns-then-size-lot-eq0
returns-then-size-lot-eq0 c = λ k e. tested k c.args.settings.now c.args.size _ e c.lot.ensures (eq-eqb _ _ c.if-size-lot-eq0.true)

pub returns-else-size-lot-eq0 : goal.returns-else-size-lot-eq0
returns-else-size-lot-eq0 c = λ k e.
    let f = ne_eqb _ _ c.if-size-lot-eq0.false in f ∙ tested k c.args.settings.now c.args.size _ e c.lot.ensures f
