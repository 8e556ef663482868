-- What a search in a list in order finds.
use Rattle.std.proofs.Common.{◌≡◌, ℕ, zero, suc, ◌<◌, Bool, true, false, not, List, [], ◌∷◌, length, get_or, drop, Bor, Some, None, Option, sym, refl, ap, ◌∙◌, arith}
use Rattle.std.proofs.lemmas.Bool.{not-true, not-false}
use Rattle.std.proofs.lemmas.List.{drop_more, drop_all}
use Rattle.std.specs.Option.{option_copied}
use Rattle.std.specs.Slice.{IsItemAt}
use Rattle.std.specs.List.Sorted.{IsPartitionPoint}
use Rattle.line.specs.Order.{Order}
use Rattle.line.specs.Held.{Ordered, Seat, first_of, behind}
use Rattle.line.proofs.Seats.{free-holds, free-with, here-holds, here-without}
use Rattle.ordered_row.specs.Found.{Stands, Belongs}

module _ {X : Type 0} {ahead : X → X → Bool} (o : Order ahead) (e : X) (xs : List X) (at : ℕ) (up : Ordered ahead xs) (seat : Seat ahead e xs at) where
  pub stands : at < length xs → ((d : X) → ahead e (get_or xs at d) ≡ false) → Stands ahead e xs at
  stands l here = record {
    within = l;
    held = here-holds o e xs at up seat l here;
    less = here-without o e xs at up seat l here;
  }

  pub belongs : (at < length xs → (d : X) → ahead e (get_or xs at d) ≡ true) → Belongs ahead e xs at
  belongs free = record {
    within = seat.within;
    free = free-holds o e xs at up seat free;
    more = free-with o e xs at up seat free;
  }

-- what a look-up by place gives
pub copied-at : {X : Type 0} (xs : List X) (i : ℕ) (r : Option (Bor X)) → IsItemAt xs i r → option_copied r ≡ first_of (drop i xs)
copied-at xs i None (a, b, s, ge, u) = sym (ap first_of (drop_all i xs ge))
copied-at xs i (Some x) (a, b, s, (l, is), u) = ap Some (is x.now) ∙ sym (ap first_of (drop_more xs i x.now l))

module _ {X : Type 0} (ahead : X → X → Bool) (e : X) where
  first-past : (xs : List X) (at : ℕ) → IsPartitionPoint (λ y. not (ahead e y) ≡ true) (λ y. not (ahead e y) ≡ false) xs at → first_of (drop at xs) ≡ behind ahead e xs
  first-past [] zero part = refl
  first-past [] (suc at) part = refl
  first-past (x ∷ xs) zero part = rw (not-false (ahead e x) (part.1 0 x (omega arith) (omega arith)))
  first-past (x ∷ xs) (suc at) part =
      rw (not-true (ahead e x) (part.0 0 x (omega arith) (omega arith)))
      (first-past xs at ((λ k d z l. part.0 (suc k) d (omega arith) (omega arith)), (λ k d le l. part.1 (suc k) d (omega arith) (omega arith))))

  -- the first that e is ahead of
  pub next-at : (xs : List X) (at : ℕ) (r : Option (Bor X)) → IsPartitionPoint (λ y. not (ahead e y) ≡ true) (λ y. not (ahead e y) ≡ false) xs at → IsItemAt xs at r → option_copied r ≡ behind ahead e xs
  next-at xs at r part item = copied-at xs at r item ∙ first-past xs at part
