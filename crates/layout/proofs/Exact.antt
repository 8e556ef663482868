-- The laws of messages, from what holds of one message alone.
use Rattle.std.proofs.Common.{◌≡◌, ℕ, ◌+◌, ◌<◌, ◌≤◌, List, ◌++◌, length, take, drop, Ok, Err, Result, sym, refl, ap, ◌∙◌, arith, length-append, length-drop, length-take}
use Rattle.std.proofs.ByRecursion.{All-take}
use Rattle.std.proofs.lemmas.List.{take_at, drop_at, take-take, get_or-take, drop_more}
use Rattle.std.proofs.lemmas.Bool.Decides.{nat_tests}
use Rattle.std.specs.Int.Digits.{AllBelowBase}
use Rattle.market.specs.declared.refusal.MessageFault.{MessageFault}
use Rattle.market.specs.declared.refusal.Refusal.{Refusal}
use Rattle.layout.specs.Numbers.{big, byte, bytes, field}
use Rattle.layout.specs.Frames.{framed, message, taking, reading, reading_by}
use Rattle.layout.specs.Laws.{ReadBack, OneMeaning, NothingElse}
use Rattle.layout.proofs.Answered.{read_ok}
use Rattle.layout.proofs.Widths.{big-back, field-part}

-- the frame of a message, whatever follows
framed-message : (kind : ℕ) (body rest : List ℕ) → length body < 65534 → Ok (length (message kind body)) ≡ framed (message kind body ++ rest)
framed-message kind body rest h =
    let l = length-append body rest in
    let b = big-back 2 (2 + length body) (omega arith) in
    grind (arith, nat_tests)

-- what a frame tells
framed-tells : (bs : List ℕ) (n : ℕ) → Ok n ≡ framed bs → (4 ≤ n) × (n ≤ length bs) × (n ≡ 2 + field 0 2 bs) × (byte 2 bs ≡ 1)
framed-tells bs n e = grind (arith, nat_tests)

-- a whole message is its head and what follows
headed : (xs : List ℕ) → 4 ≤ length xs → AllBelowBase 256 xs → length xs ≡ 2 + field 0 2 xs → byte 2 xs ≡ 1 → xs ≡ message (byte 3 xs) (drop 4 xs)
headed xs l u e v =
    let two = field-part xs 0 2 (omega arith) u in
    let three = drop_more xs 2 0 (omega arith) in
    let four = drop_more xs 3 0 (omega arith) in
    let size : field 0 2 xs ≡ 2 + length (drop 4 xs) = simp length-drop (omega arith) in
    sym two ∙ ap (λ (n : ℕ). bytes 2 n ++ drop 2 xs) size ∙ ap (λ (q : List ℕ). bytes 2 (2 + length (drop 4 xs)) ++ q) (three ∙ cc)

module _ {M : Type 0} (kind : M → ℕ) (content : M → List ℕ) (Fitting : M → Type 0) (body : List ℕ → Result M MessageFault) where
  pub read_back : ((m : M) → Fitting m → length (content m) < 65534) → ((m : M) → Fitting m → Ok m ≡ body (message (kind m) (content m)))
      → ReadBack (λ m. message (kind m) (content m)) Fitting body
  read_back short back m rest f =
      let c = message (kind m) (content m) in
      let t = take_at c rest (length c) refl in
      sym (read_ok body (c ++ rest) (length c) m (framed-message (kind m) (content m) rest (short m f)) (back m f ∙ ap body (sym t)))

  -- from the reading of a message to its bytes
  taken : (bs : List ℕ) (m : M) (n k : ℕ) (r : Result M MessageFault) → taking k r ≡ (Ok m, n) → (k ≡ n) × (r ≡ Ok m)
  taken bs m n k (Ok w) e = (ap (λ (p : Result M Refusal × ℕ). p.1) e, let h = ap (λ (p : Result M Refusal × ℕ). p.0) e in cc)
  taken bs m n k (Err f) e = let h = ap (λ (p : Result M Refusal × ℕ). p.0) e in (cc, cc)

  read_by : (bs : List ℕ) (m : M) (n : ℕ) (r : Result ℕ MessageFault) → r ≡ framed bs → reading_by r body bs ≡ (Ok m, n) → (Ok n ≡ framed bs) × (body (take n bs) ≡ Ok m)
  read_by bs m n (Ok k) e h =
      let t = taken bs m n k (body (take k bs)) h in
      (ap (λ (i : ℕ). Ok i) (sym t.0) ∙ e, ap (λ (i : ℕ). body (take i bs)) (sym t.0) ∙ t.1)
  read_by bs m n (Err f) e h = let z = ap (λ (p : Result M Refusal × ℕ). p.0) h in (cc, cc)

  pub nothing-else : ((xs : List ℕ) (m : M) → 4 ≤ length xs → AllBelowBase 256 xs → body xs ≡ Ok m → (kind m ≡ byte 3 xs) × (content m ≡ drop 4 xs) × Fitting m)
      → NothingElse (λ m. message (kind m) (content m)) Fitting body
  nothing-else whole bs m n u e =
      let r = read_by bs m n (framed bs) refl e in
      let f = framed-tells bs n r.0 in
      let xs = take n bs in
      let long : length xs ≡ n = simp length-take (omega arith) in
      let under = All-take _ n bs u in
      let first : field 0 2 xs ≡ field 0 2 bs = ap big (take-take 2 n bs (omega arith)) in
      let version : byte 2 xs ≡ 1 = get_or-take n bs 2 0 (omega arith) ∙ f.3 in
      let w = whole xs m (omega arith) under r.1 in
      let h = headed xs (omega arith) under (omega arith) version in
      let same : xs ≡ message (kind m) (content m) = h ∙ cc in
      (same, sym long ∙ ap length same, w.2)

-- what is read back as itself has one meaning
one-reading : {M : Type 0} (x y : M) (i j : ℕ) → ◌≡◌ {A = Result M Refusal × ℕ} (Ok x, i) (Ok y, j) → x ≡ y
one-reading {M} x y i j h = let k = ap (λ (p : Result M Refusal × ℕ). p.0) h in cc

pub one-meaning : {M : Type 0} (coded : M → List ℕ) (Fitting : M → Type 0) (body : List ℕ → Result M MessageFault) → ReadBack coded Fitting body → OneMeaning coded Fitting
one-meaning {M} coded Fitting body back m w rest more f g e =
    let same : m ≡ w = one-reading m w _ _ (sym (back m rest f) ∙ ap (reading body) e ∙ back w more g) in
    let first : rest ≡ drop (length (coded m)) (coded m ++ rest) = sym (drop_at (coded m) rest (length (coded m)) refl) in
    let last : drop (length (coded w)) (coded w ++ more) ≡ more = drop_at (coded w) more (length (coded w)) refl in
    (same, first ∙ ap (drop (length (coded m))) e ∙ ap (λ (x : M). drop (length (coded x)) (coded w ++ more)) same ∙ last)
