-- Lines of the same rows.
use Rattle.std.proofs.Common.{◌≡◌, sym, ap, subst}
use Rattle.std.proofs.Math.Bool.{Bool-set}
use Rattle.line.specs.Held.{Ordered}
use Rattle.line.specs.Rows.{held}
use Rattle.line.specs.declared.entry.Entry.{Ghosts}
use Rattle.line.specs.declared.row.Row.{Row}
use Rattle.ordered_row.specs.declared.ordered_row.OrderedRow.{OrderedRow}

-- they are the same, however it is known that they are in order
pub same-row : {X : Type 0} {g : Ghosts X} (s : OrderedRow X g) (r : Row X) (h : Ordered g.ahead (held r)) → r ≡ s.row → record { row = r; ordered = h } ≡ s
same-row {X} {g} s r h e =
    let made : (r : Row X) → Ordered g.ahead (held r) → OrderedRow X g = λ r h. record { row = r; ordered = h } in
    subst (λ r. (h : Ordered g.ahead (held r)) → made r h ≡ s) (sym e) (λ h. ap (made s.row) (Bool-set _ _ h s.ordered)) h
