-- A row with one entry more at its end, or with its last one gone.
use Rattle.std.proofs.Common.{◌≡◌, ℕ, suc, ◌+◌, Bool, List, [], ◌∷◌, ◌++◌, length, take, drop, set, ap, ◌∙◌, arith}
use Rattle.std.proofs.lemmas.List.{append-nil, take_all, drop_all, set_at}
use Rattle.std.specs.List.{insert, remove}
use Rattle.line.specs.Order.{Order}
use Rattle.line.specs.Held.{with_entry}
use Rattle.heap_row.specs.Heap.{sorted}
use Rattle.heap_row.proofs.Sorts.{sorted-push}

module _ {X : Type 0} (xs : List X) (n : ℕ) where
  pub insert-end : (e : X) → length xs ≡ n → insert xs n e ≡ xs ++ e ∷ []
  insert-end e h = ap (λ t. t ++ e ∷ drop n xs) (take_all n xs (omega arith)) ∙ ap (λ t. xs ++ e ∷ t) (drop_all n xs (omega arith))

  pub sorted-end : {ahead : X → X → Bool} → Order ahead → (ys : List X) (e : X) → length xs ≡ n → ys ≡ insert xs n e → sorted ahead (set ys n e) ≡ with_entry ahead e (sorted ahead xs)
  sorted-end {ahead} o ys e h q = ap (λ t. sorted ahead (set t n e)) (q ∙ insert-end e h) ∙ ap (sorted ahead) (set_at xs e [] e n h) ∙ sorted-push o xs e

  pub remove-end : length xs ≡ n + 1 → remove xs n ≡ take n xs
  remove-end h = ap (λ t. take n xs ++ t) (drop_all (suc n) xs (omega arith)) ∙ append-nil (take n xs)
