-- What is to hold of messages whose layout is `coded` and whose meaning is `body`; `Fitting` says that a message's numbers fit their
-- fields. Assumes nothing.
use Rattle.std.specs.Prelude.{◌≡◌, ℕ, List, ◌++◌, length, take, Ok, Result}
use Rattle.std.specs.Int.Digits.{AllBelowBase}
use Rattle.market.specs.declared.refusal.MessageFault.{MessageFault}
use Rattle.layout.specs.Frames.{reading}

-- whatever follows it, a message is read back as itself, and exactly its bytes are taken
abbrev pub ReadBack : {M : Type 0} → (M → List ℕ) → (M → Type 0) → (List ℕ → Result M MessageFault) → Type 0
ReadBack {M} coded Fitting body = (m : M) (rest : List ℕ) → Fitting m → reading body (coded m ++ rest) ≡ (Ok m, length (coded m))

-- two messages with the same bytes, whatever follows each, are the same message, and so is what follows
abbrev pub OneMeaning : {M : Type 0} → (M → List ℕ) → (M → Type 0) → Type 0
OneMeaning {M} coded Fitting = (m w : M) (rest more : List ℕ) → Fitting m → Fitting w → coded m ++ rest ≡ coded w ++ more → (m ≡ w) × (rest ≡ more)

-- whatever is read without refusal is exactly the layout of what was read, and that fits
abbrev pub NothingElse : {M : Type 0} → (M → List ℕ) → (M → Type 0) → (List ℕ → Result M MessageFault) → Type 0
NothingElse {M} coded Fitting body = (bs : List ℕ) (m : M) (n : ℕ) → AllBelowBase 256 bs → reading body bs ≡ (Ok m, n) → (take n bs ≡ coded m) × (n ≡ length (coded m)) × Fitting m
