-- What an answer without refusal tells.
use Rattle.std.proofs.Common.{◌≡◌, ℕ, ◌≤◌, Bool, true, false, cond, List, length, take, Ok, Err, Result, refl, ap, ◌∙◌, arith}
use Rattle.std.proofs.lemmas.Bool.Decides.{nat_tests}
use Rattle.market.specs.declared.refusal.MessageFault.{MessageFault}
use Rattle.layout.specs.Frames.{framed, taking, reading, reading_by}

-- the condition of the refusal is not met, and the answer is what follows
pub passed : {M : Type 0} (met : Bool) (f : MessageFault) (m x : M) → Ok m ≡ cond met (Err f) (Ok x) → (met ≡ false) × (m ≡ x)
passed true f m x e = (cc, cc)
passed false f m x e = (refl, cc)

-- the same, whatever follows
pub passes : {M : Type 0} (met : Bool) (f : MessageFault) (r : Result M MessageFault) (m : M) → cond met (Err f) r ≡ Ok m → (met ≡ false) × (r ≡ Ok m)
passes true f r m e = (cc, cc)
passes false f r m e = (refl, e)

-- a message of n bytes is there, and means m
pub read_ok : {M : Type 0} (body : List ℕ → Result M MessageFault) (bs : List ℕ) (n : ℕ) (m : M) → Ok n ≡ framed bs → Ok m ≡ body (take n bs) → (Ok m, n) ≡ reading body bs
read_ok body bs n m e f = ap (taking n) f ∙ ap (λ (r : Result ℕ MessageFault). reading_by r body bs) e

pub framed-bounds : (bs : List ℕ) (n : ℕ) → Ok n ≡ framed bs → (4 ≤ n) × (n ≤ length bs)
framed-bounds bs n e = grind (arith, nat_tests)
