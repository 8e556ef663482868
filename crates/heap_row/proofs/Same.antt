-- Lines of the same rows.
use Rattle.std.proofs.Common.{◌≡◌, Bool, List, sym, ap, ◌∙◌, subst}
use Rattle.std.proofs.Math.Bool.{Bool-set}
use Rattle.std.specs.Coded.{Π_prop}
use Rattle.line.specs.Held.{Ordered}
use Rattle.line.specs.Rows.{held}
use Rattle.line.specs.declared.entry.Entry.{Ghosts}
use Rattle.line.specs.declared.row.Row.{Row}
use Rattle.heap_row.specs.Heap.{Heap, sorted}
use Rattle.heap_row.specs.declared.heap_row.HeapRow.{HeapRow}

Heap-prop : {X : Type 0} (ahead : X → X → Bool) (xs : List X) → IsProp (Heap ahead xs)
Heap-prop ahead xs = Π_prop (λ k. Π_prop (λ d. Π_prop (λ z. Π_prop (λ l. Bool-set _ _))))

-- they are the same, however it is known that they lie as a heap
pub same-row : {X : Type 0} {g : Ghosts X} (s : HeapRow X g) (r : Row X) (h : Heap g.ahead (held r)) (o : Ordered g.ahead (sorted g.ahead (held r))) → r ≡ s.row → record { row = r; heap = h; ordered = o } ≡ s
same-row {X} {g} s r h o e =
    let made : (r : Row X) → Heap g.ahead (held r) → Ordered g.ahead (sorted g.ahead (held r)) → HeapRow X g = λ r h o. record { row = r; heap = h; ordered = o } in
    subst (λ r. (h : Heap g.ahead (held r)) (o : Ordered g.ahead (sorted g.ahead (held r))) → made r h o ≡ s) (sym e)
    (λ h o. ap (λ h. made s.row h o) (Heap-prop g.ahead (held s.row) h s.heap) ∙ ap (made s.row s.heap) (Bool-set _ _ o s.ordered)) h o
