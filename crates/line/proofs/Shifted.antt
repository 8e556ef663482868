-- A place that is made in the front of a row, or closed.
use Rattle.std.proofs.Common.{◌≡◌, ℕ, ◌+◌, ◌-◌, ◌<◌, ◌≤◌, ◌≢◌, ◌⊎◌, min, List, ◌∷◌, ◌++◌, length, get_or, take, drop, set, sym, ap, ◌∙◌, inl, inr, ⊎_elim, arith}
use Rattle.std.proofs.lemmas.List.{length-take-le, length-set, get_or-take, get_or-set_same, get_or-set_other, same_lists, take_min, drop_min}
use Rattle.std.proofs.lemmas.List.Edits.{length-insert, get_or-insert_below, get_or-insert_at, get_or-insert_above, length-remove, get_or-remove_below, get_or-remove_above}
use Rattle.std.proofs.lemmas.Bool.{cases_lt, cases_order}
use Rattle.std.specs.List.{insert, remove}

module _ {X : Type 0} (old new : List X) (len at : ℕ) (fits : len ≤ length old) (same : length new ≡ length old) where
  pub closed : at < len → ((k : ℕ) (d : X) → k < at → get_or new k d ≡ get_or old k d) → ((k : ℕ) (d : X) → at ≤ k → k + 1 < len → get_or new k d ≡ get_or old (k + 1) d) → take (len - 1) new ≡ remove (take len old) at
  closed h low high =
      let n = length-take-le len old fits in
      let m : length (take (len - 1) new) ≡ len - 1 = length-take-le (len - 1) new (omega arith) in
      let inside : at < length (take len old) = omega arith in
      same_lists _ _ (omega (arith, length-remove (take len old) at inside))
      (λ k d l.
      let a : k < len - 1 = omega arith in
      let b : k + 1 < len = omega arith in
      rw get_or-take
      (⊎_elim
      (λ lt. let b' : k < len = omega arith in low k d lt ∙ sym (get_or-remove_below (take len old) at d k lt inside ∙ get_or-take len old k d b'))
      (λ ge. high k d ge b ∙ sym (get_or-remove_above (take len old) at d k ge inside ∙ get_or-take len old (k + 1) d b))
      (cases_lt k at)))

  module _ (e : X) (h : at ≤ len) (room : len < length old) (low : (k : ℕ) (d : X) → k < at → get_or new k d ≡ get_or old k d) (high : (k : ℕ) (d : X) → at < k → k ≤ len → get_or new k d ≡ get_or old (k - 1) d) where
    inside : at ≤ length (take len old)
    inside = omega (arith, length-take-le len old fits)

    opened-at : (k : ℕ) (d : X) → k < len + 1 → (k ≡ at) ⊎ ((k < at) ⊎ (at < k)) → get_or (set new at e) k d ≡ get_or (insert (take len old) at e) k d
    opened-at k d l (inl eq) =
        let w : at < length new = omega arith in
        rw eq (get_or-set_same new at e d w ∙ sym (get_or-insert_at (take len old) at e d inside))
    opened-at k d l (inr (inl lt)) =
        let ne : k ≢ at = omega arith in
        let b : k < len = omega arith in
        rw get_or-set_other (low k d lt ∙ sym (get_or-insert_below (take len old) at e d k lt inside ∙ get_or-take len old k d b))
    opened-at k d l (inr (inr gt)) =
        let ne : k ≢ at = omega arith in
        let b : k - 1 < len = omega arith in
        let le : at ≤ k - 1 = omega arith in
        let le' : k ≤ len = omega arith in
        let up : k - 1 + 1 ≡ k = omega arith in
        rw get_or-set_other (high k d gt le' ∙ sym (rw up at (get_or-insert_above (take len old) at e d (k - 1) le inside) ∙ get_or-take len old (k - 1) d b))

    pub opened : take (len + 1) (set new at e) ≡ insert (take len old) at e
    opened =
        let n = length-take-le len old fits in
        let s = length-set new at e in
        let m : length (take (len + 1) (set new at e)) ≡ len + 1 = length-take-le (len + 1) (set new at e) (omega arith) in
        same_lists _ _ (omega (arith, length-insert (take len old) at e inside))
        (λ k d l. let a : k < len + 1 = omega arith in rw get_or-take (opened-at k d a (cases_order k at)))

-- past the end is at the end
pub insert_min : {X : Type 0} (xs : List X) (at m : ℕ) (e : X) → m ≡ min at (length xs) → insert xs m e ≡ insert xs at e
insert_min xs at m e h =
    ap (λ k. insert xs k e) h ∙ ap (λ t. t ++ e ∷ drop (min at (length xs)) xs) (take_min at xs) ∙ ap (λ t. take at xs ++ e ∷ t) (drop_min at xs)
