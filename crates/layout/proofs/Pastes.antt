-- Writing one part after another.
use Rattle.std.proofs.Common.{◌≡◌, ℕ, ◌+◌, ◌<◌, ◌≤◌, List, [], ◌∷◌, ◌++◌, length, get_or, take, drop, sym, refl, ap, ◌∙◌, append_assoc, append-nil, add-zero, add_assoc, arith, length-append, take-append-drop, length-take}
use Rattle.std.proofs.lemmas.List.{take_at, drop_at, drop-drop, take_more}
use Rattle.layout.specs.Fields.{field_bytes, in_bytes}
use Rattle.layout.specs.Frames.{pasted}
use Rattle.layout.specs.declared.field.Field.{Field}

-- nothing written
pub pasted-none : (old : List ℕ) (at : ℕ) → pasted old at [] ≡ old
pasted-none old at = rw add-zero (take-append-drop at old)

-- a part behind another
pub pasted-more : (old new part : List ℕ) (at k : ℕ) → k ≡ at + length new → k ≤ length old → pasted (pasted old at new) k part ≡ pasted old at (new ++ part)
pasted-more old new part at k e h =
    let front : length (take at old ++ new) ≡ k = simp (length-append, length-take) (omega arith) in
    let whole : pasted old at new ≡ (take at old ++ new) ++ drop k old = simp (e, append_assoc) in
    let p : List ℕ = (take at old ++ new) ++ drop k old in
    let fst : take k p ≡ take at old ++ new = take_at (take at old ++ new) (drop k old) k front in
    let snd : drop (k + length part) p ≡ drop (k + length part) old =
    sym (drop-drop (length part) k p) ∙ ap (drop (length part)) (drop_at (take at old ++ new) (drop k old) k front) ∙ drop-drop (length part) k old in
    ap (λ (q : List ℕ). pasted q k part) whole
    ∙ ap (λ (q : List ℕ). q ++ (part ++ drop (k + length part) p)) fst
    ∙ ap (λ (q : List ℕ). (take at old ++ new) ++ (part ++ q)) snd
    ∙ simp (e, append_assoc, length-append, add_assoc)

-- the front holds xs, and then ys is written behind it
pub then-put : (old xs ys : List ℕ) (at k : ℕ) {b c : List ℕ} → b ≡ pasted old at xs → c ≡ pasted b k ys → k ≡ at + length xs → k ≤ length old → c ≡ pasted old at (xs ++ ys)
then-put old xs ys at k e f l h = f ∙ ap (λ (q : List ℕ). pasted q k ys) e ∙ pasted-more old xs ys at k l h

in_bytes-append : (xs ys : List Field) → in_bytes (xs ++ ys) ≡ in_bytes xs ++ in_bytes ys
in_bytes-append [] ys = refl
in_bytes-append (x ∷ xs) ys = ap (λ (q : List ℕ). field_bytes x ++ q) (in_bytes-append xs ys) ∙ sym (append_assoc (field_bytes x) (in_bytes xs) (in_bytes ys))

-- one field more
pub in_bytes-more : (fs : List Field) (i : ℕ) (d : Field) → i < length fs → in_bytes (take (i + 1) fs) ≡ in_bytes (take i fs) ++ field_bytes (get_or fs i d)
in_bytes-more fs i d h =
    ap in_bytes (take_more fs i d h) ∙ in_bytes-append (take i fs) (get_or fs i d ∷ [])
    ∙ ap (λ (q : List ℕ). in_bytes (take i fs) ++ q) (append-nil (field_bytes (get_or fs i d)))

-- some fields take no more room than all
pub in_bytes-within : (fs : List Field) (i : ℕ) → length (in_bytes (take i fs)) ≤ length (in_bytes fs)
in_bytes-within fs i =
    let all = ap (λ (q : List Field). length (in_bytes q)) (take-append-drop i fs) in
    let parts = ap length (in_bytes-append (take i fs) (drop i fs)) in
    omega (arith, all, parts, length-append (in_bytes (take i fs)) (in_bytes (drop i fs)))
