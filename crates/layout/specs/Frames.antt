-- What all messages share: the head, the refusals that come before any field is looked at, and what reading and writing answer.
-- Assumes nothing.
use Rattle.std.specs.Prelude.{◌≡◌, ℕ, ◌+◌, Bool, cond, not, ◌||◌, List, [], ◌∷◌, ◌++◌, length, take, drop, Ok, Err, Result, ◌==◌, nat_le, nat_lt, MatchResult}
use Rattle.std.specs.Borrow.{Bor}
use Rattle.market.specs.declared.refusal.MessageFault.{MessageFault}
use Rattle.market.specs.declared.refusal.MessageFault.TheVariants.{Short, Version, Length}
use Rattle.market.specs.declared.refusal.Refusal.{Refusal}
use Rattle.market.specs.declared.refusal.Refusal.TheVariants.{Message, Buffer}
use Rattle.layout.specs.Numbers.{byte, bytes, field}

-- the first refusal whose condition is met, or else what follows
abbrev pub refusing : {M : Type 0} → List (Bool × MessageFault) → Result M MessageFault → Result M MessageFault
refusing [] r = r
refusing ((met, f) ∷ more) r = cond met (Err f) (refusing more r)

-- how many bytes the first message of an input has, head and all
abbrev pub framed : List ℕ → Result ℕ MessageFault
framed bs =
    refusing
    ((nat_lt (length bs) 4 || (nat_lt (field 0 2 bs) 2 || nat_lt (length bs) (2 + field 0 2 bs)), Short (length bs))
    ∷ (not (byte 2 bs == 1), Version)
    ∷ [])
    (Ok (2 + field 0 2 bs))

-- a message of so many bytes, or its refusal, and beside it how many bytes were taken
abbrev pub taking : {M : Type 0} → ℕ → Result M MessageFault → Result M Refusal × ℕ
taking n (Ok m) = (Ok m, n)
taking n (Err f) = (Err (Message f), 0)

-- the same of an input whose first message has the frame given, where `body` says what the bytes of one whole message mean
abbrev pub reading_by : {M : Type 0} → Result ℕ MessageFault → (List ℕ → Result M MessageFault) → List ℕ → Result M Refusal × ℕ
reading_by (Ok n) body bs = taking n (body (take n bs))
reading_by (Err f) body bs = (Err (Message f), 0)

-- what reading the first message of an input answers
abbrev pub reading : {M : Type 0} → (List ℕ → Result M MessageFault) → List ℕ → Result M Refusal × ℕ
reading body bs = reading_by (framed bs) body bs

-- a message with the bytes that it took, or its refusal, as that answer and the number beside it
abbrev pub beside : {M : Type 0} → Result (M × ℕ) Refusal → Result M Refusal × ℕ
beside (Ok x) = (Ok x.0, x.1)
beside (Err r) = (Err r, 0)

-- an answer to an input, where `Means` says what the bytes of one whole message may mean: of the input's own first bytes, if they are
-- a message
abbrev pub Answers : {M : Type 0} → (Bor (List ℕ) → Result M MessageFault → Type 0) → Bor (List ℕ) → Result M Refusal × ℕ → Type 0
Answers {M} Means input answer =
    MatchResult (framed input.now)
    (λ n. (bytes : Bor (List ℕ)) × (r : Result M MessageFault)
    × (bytes.now ≡ take n input.now) × (bytes.ref_ptr ≡ input.ref_ptr) × Means bytes r × (answer ≡ taking n r))
    (λ f. answer ≡ (Err (Message f), 0))

-- a message: the length of the rest, the version, the kind and the body
abbrev pub message : ℕ → List ℕ → List ℕ
message kind body = bytes 2 (2 + length body) ++ (1 ∷ kind ∷ body)

-- `new` written over `old` from the place `at` on
abbrev pub pasted : List ℕ → ℕ → List ℕ → List ℕ
pasted old at new = take at old ++ (new ++ drop (at + length new) old)

-- what writing some bytes answers, and what the buffer holds then: all of them at the front and the rest as it was, or no change
abbrev pub writing : List ℕ → List ℕ → Result ℕ Refusal × List ℕ
writing new old = cond (nat_le (length new) (length old)) (Ok (length new), pasted old 0 new) (Err Buffer, old)

-- how many bytes a message has, which cannot be more than its length in two bytes can say
abbrev pub sized : List ℕ → Result ℕ MessageFault
sized body = refusing ((nat_lt 65533 (length body), Length) ∷ []) (Ok (4 + length body))

-- what writing a message answers, and what the buffer holds then
abbrev pub sending : ℕ → List ℕ → List ℕ → Result ℕ Refusal × List ℕ
sending kind body old = cond (nat_lt 65533 (length body)) (Err (Message Length), old) (writing (message kind body) old)
