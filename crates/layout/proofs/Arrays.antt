-- Bytes behind zeros.
use Rattle.std.proofs.Common.{◌≡◌, ℕ, zero, suc, ◌+◌, ◌-◌, ◌≤◌, List, ◌++◌, length, take, refl, ap, ◌∙◌, append-nil, arith}
use Rattle.std.proofs.Math.ListN.{replicate}
use Rattle.std.proofs.lemmas.List.{drop_all, take-replicate, length-replicate}
use Rattle.layout.specs.Frames.{pasted}
use Rattle.layout.specs.Numbers.{big}

zeros-first : (k : ℕ) (xs : List ℕ) → big (replicate k 0 ++ xs) ≡ big xs
zeros-first zero xs = refl
zeros-first (suc k) xs = zeros-first k xs

pub padded : (n : ℕ) (xs : List ℕ) → length xs ≤ n → big (pasted (replicate n 0) (n - length xs) xs) ≡ big xs
padded n xs h =
    let front = take-replicate (n - length xs) n 0 (omega arith) in
    let back = drop_all (n - length xs + length xs) (replicate n 0) (omega (arith, length-replicate {A = ℕ} n 0)) in
    ap (λ (q : List ℕ). big (take (n - length xs) (replicate n 0) ++ (xs ++ q))) back
    ∙ ap (λ (q : List ℕ). big (take (n - length xs) (replicate n 0) ++ q)) (append-nil xs)
    ∙ ap (λ (q : List ℕ). big (q ++ xs)) front
    ∙ zeros-first (n - length xs) xs
