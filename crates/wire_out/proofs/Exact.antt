-- Reading undoes writing, and writing undoes reading.
use Rattle.std.proofs.Common.{◌≡◌, ℕ, ◌^◌, ◌<◌, ◌≤◌, true, false, not, eqb, ◌⊎◌, List, [], length, drop, ℤ, Ok, Result, sym, refl, ap, ◌∙◌, subst, inl, inr, arith}
use Rattle.std.proofs.ByRecursion.{All-get_or}
use Rattle.std.proofs.lemmas.List.{drop_all}
use Rattle.std.proofs.lemmas.Bool.{eqb-true, not-false}
use Rattle.std.proofs.lemmas.Bool.Decides.{nat_tests}
use Rattle.std.specs.Int.Digits.{AllBelowBase}
use Rattle.market.specs.Codes.{cause_byte, cause_of}
use Rattle.market.specs.Tenors.{within}
use Rattle.market.specs.declared.record.Cause.{Cause}
use Rattle.market.specs.declared.record.Cause.TheVariants.{FaKI, FaK, End}
use Rattle.market.specs.declared.record.Fill.{Fill}
use Rattle.market.specs.declared.record.Record.TheVariants.{Quiet, Fill as Filled, Session, Rolling, Fbs, Open, Removal}
use Rattle.market.specs.declared.refusal.MessageFault.{MessageFault}
use Rattle.market.specs.declared.refusal.MessageFault.TheVariants.{Kind, Length}
use Rattle.layout.specs.Fields.{in_bytes}
use Rattle.layout.specs.Laws.{ReadBack, OneMeaning, NothingElse}
use Rattle.layout.specs.Numbers.{byte, bytes, field, signed}
use Rattle.layout.proofs.Answered.{passes}
use Rattle.layout.proofs.Exact as layout
use Rattle.layout.proofs.Laid.{price-back, byte-then, code-then, bytes-then, price-then, price-fits}
use Rattle.layout.proofs.Widths.{big-back, field-small}
use Rattle.wire_out.specs.declared.output.Output.{Output}
use Rattle.wire_out.specs.declared.output.Output.TheVariants.{Record as Recorded, Reply}
use Rattle.wire_out.specs.Laws.{Fitting}
use Rattle.wire_out.specs.Reading.{fill_in, known, length_of, body_in, output_in}
use Rattle.wire_out.specs.Writing.{kind_of, fields_of, coded}

-- what a message holds behind its head
abbrev content : Output → List ℕ
content o = in_bytes (fields_of o)

short : (o : Output) → Fitting o → length (content o) < 65534
short (Recorded (Quiet time)) f = omega arith
short (Recorded (Filled time fill)) f = omega arith
short (Recorded (Session time price passive)) f = omega arith
short (Recorded (Rolling time)) f = omega arith
short (Recorded (Fbs time)) f = omega arith
short (Recorded (Open time)) f = omega arith
short (Recorded (Removal time number displayed cause)) f = omega arith
short (Reply refusal order) f = omega arith

same-fill : (time : ℕ) (fill : Fill) (t : ℕ) (p : ℤ) (s b x o y : ℕ)
    → t ≡ time → p ≡ fill.price → s ≡ fill.size → b ≡ fill.bid → x ≡ fill.bidleft → o ≡ fill.offer → y ≡ fill.offerleft
    → ◌≡◌ {A = Result Output MessageFault} (Ok (Recorded (Filled time fill))) (Ok (Recorded (Filled t (record { price = p; size = s; bid = b; bidleft = x; offer = o; offerleft = y }))))
same-fill time fill t p s b x o y e f g h i j k = rw (e, f, g, h, i, j, k)

cause-back : (c : Cause) → (not (within 1 3 (cause_byte c)) ≡ false) × (cause_of (cause_byte c) ≡ c)
cause-back FaKI = (refl, refl)
cause-back FaK = (refl, refl)
cause-back End = (refl, refl)

back : (o : Output) → Fitting o → Ok o ≡ output_in (coded o)
back (Recorded (Quiet time)) f = ap (λ (t : ℕ). Ok (Recorded (Quiet t))) (sym (big-back 8 time f))
back (Recorded (Filled time fill)) (t, p, s, b, x, o, y) =
    same-fill time fill _ _ _ _ _ _ _
    (big-back 8 time t) (price-back fill.price p) (big-back 4 fill.size s)
    (big-back 4 fill.bid b) (big-back 4 fill.bidleft x) (big-back 4 fill.offer o) (big-back 4 fill.offerleft y)
back (Recorded (Session time price passive)) (t, p, n) =
    let same : (t' : ℕ) (p' : ℤ) (n' : ℕ) → t' ≡ time → p' ≡ price → n' ≡ passive
    → ◌≡◌ {A = Result Output MessageFault} (Ok (Recorded (Session time price passive))) (Ok (Recorded (Session t' p' n'))) = λ t' p' n' e g h. cc in
    same _ _ _ (big-back 8 time t) (price-back price p) (big-back 4 passive n)
back (Recorded (Rolling time)) f = ap (λ (t : ℕ). Ok (Recorded (Rolling t))) (sym (big-back 8 time f))
back (Recorded (Fbs time)) f = ap (λ (t : ℕ). Ok (Recorded (Fbs t))) (sym (big-back 8 time f))
back (Recorded (Open time)) f = ap (λ (t : ℕ). Ok (Recorded (Open t))) (sym (big-back 8 time f))
back (Recorded (Removal time number displayed cause)) (t, n, d) =
    let c = cause-back cause in
    let same : (t' n' d' : ℕ) (c' : Cause) → t' ≡ time → n' ≡ number → d' ≡ displayed → c' ≡ cause
    → ◌≡◌ {A = Result Output MessageFault} (Ok (Recorded (Removal time number displayed cause))) (Ok (Recorded (Removal t' n' d' c'))) = λ t' n' d' c' e g h i. cc in
    rw c.0 (same _ _ _ _ (big-back 8 time t) (big-back 4 number n) (big-back 4 displayed d) c.1)
back (Reply refusal order) (r, n) = ap (λ (x : ℕ). Ok (Reply refusal x)) (sym (big-back 4 order n))

-- the kinds
kinds : (k : ℕ) → known k ≡ true
    → (k ≡ 16) ⊎ ((k ≡ 17) ⊎ ((k ≡ 18) ⊎ ((k ≡ 19) ⊎ ((k ≡ 20) ⊎ ((k ≡ 21) ⊎ ((k ≡ 22) ⊎ (k ≡ 32)))))))
kinds k e = grind (arith, nat_tests)

cause-code : (b : ℕ) → not (within 1 3 b) ≡ false → cause_byte (cause_of b) ≡ b
cause-code b h = grind (arith, nat_tests)

-- a whole message is the layout of what it means
abbrev Laid : List ℕ → Output → Type 0
Laid xs o = (kind_of o ≡ byte 3 xs) × (content o ≡ drop 4 xs) × Fitting o

meant_is : (xs : List ℕ) (o x : Output) → Laid xs x → ◌≡◌ {A = Result Output MessageFault} (Ok x) (Ok o) → Laid xs o
meant_is xs o x l e = let same : x ≡ o = cc in subst (Laid xs) same l

module _ (xs : List ℕ) (under : AllBelowBase 256 xs) where
  -- a record that tells no more than its time
  timed : length xs ≡ 12 → (bytes 8 (field 4 8 xs) ≡ drop 4 xs) × (field 4 8 xs < 2 ^ 64)
  timed l = (bytes-then xs 4 [] 8 (omega arith) under (sym (drop_all 12 xs (omega arith))), field-small xs 4 8 (omega arith) under)

  laid-fill : byte 3 xs ≡ 17 → length xs ≡ 36 → Laid xs (Recorded (Filled (field 4 8 xs) (fill_in xs)))
  laid-fill k l = (
    sym k,
    bytes-then xs 4 _ 8 (omega arith) under
        (price-then xs 12 _ (omega arith) under
        (bytes-then xs 16 _ 4 (omega arith) under
        (bytes-then xs 20 _ 4 (omega arith) under
        (bytes-then xs 24 _ 4 (omega arith) under
        (bytes-then xs 28 _ 4 (omega arith) under (bytes-then xs 32 [] 4 (omega arith) under (sym (drop_all 36 xs (omega arith))))))))),
    (
      field-small xs 4 8 (omega arith) under,
      price-fits xs 12 (omega arith) under,
      field-small xs 16 4 (omega arith) under,
      field-small xs 20 4 (omega arith) under,
      field-small xs 24 4 (omega arith) under,
      field-small xs 28 4 (omega arith) under,
      field-small xs 32 4 (omega arith) under,
    ),
  )

  laid-session : byte 3 xs ≡ 18 → length xs ≡ 20 → Laid xs (Recorded (Session (field 4 8 xs) (signed (field 12 4 xs)) (field 16 4 xs)))
  laid-session k l = (
    sym k,
    bytes-then xs 4 _ 8 (omega arith) under
        (price-then xs 12 _ (omega arith) under (bytes-then xs 16 [] 4 (omega arith) under (sym (drop_all 20 xs (omega arith))))),
    (field-small xs 4 8 (omega arith) under, price-fits xs 12 (omega arith) under, field-small xs 16 4 (omega arith) under),
  )

  laid-removal : byte 3 xs ≡ 22 → length xs ≡ 21 → not (within 1 3 (byte 20 xs)) ≡ false
      → Laid xs (Recorded (Removal (field 4 8 xs) (field 12 4 xs) (field 16 4 xs) (cause_of (byte 20 xs))))
  laid-removal k l c = (
    sym k,
    bytes-then xs 4 _ 8 (omega arith) under
        (bytes-then xs 12 _ 4 (omega arith) under
        (bytes-then xs 16 _ 4 (omega arith) under
        (code-then xs 20 [] _ (cause-code (byte 20 xs) c) (omega arith) (sym (drop_all 21 xs (omega arith)))))),
    (field-small xs 4 8 (omega arith) under, field-small xs 12 4 (omega arith) under, field-small xs 16 4 (omega arith) under),
  )

  laid-reply : byte 3 xs ≡ 32 → length xs ≡ 9 → Laid xs (Reply (byte 4 xs) (field 5 4 xs))
  laid-reply k l = (
    sym k,
    byte-then xs 4 _ (omega arith) (bytes-then xs 5 [] 4 (omega arith) under (sym (drop_all 9 xs (omega arith)))),
    (All-get_or _ xs 4 0 (omega arith) under, field-small xs 5 4 (omega arith) under),
  )

  -- what is read of each kind
  module _ (o : Output) (e : body_in (byte 3 xs) xs ≡ Ok o) (long : length xs ≡ length_of (byte 3 xs)) where
    of-kind : (kind : ℕ) → byte 3 xs ≡ kind → body_in kind xs ≡ Ok o
    of-kind kind k = sym (ap (λ (i : ℕ). body_in i xs) k) ∙ e

    size : (kind : ℕ) → byte 3 xs ≡ kind → length xs ≡ length_of kind
    size kind k = long ∙ ap length_of k

    as-removal : byte 3 xs ≡ 22 → Laid xs o
    as-removal k =
        let c = passes (not (within 1 3 (byte 20 xs))) Kind _ o (of-kind 22 k) in
        meant_is xs o _ (laid-removal k (size 22 k) c.0) c.1

    of-body : known (byte 3 xs) ≡ true → Laid xs o
    of-body h =
        elim (kinds (byte 3 xs) h) [
          | inl k ↦ let t = timed (size 16 k) in meant_is xs o (Recorded (Quiet (field 4 8 xs))) (sym k, t.0, t.1) (of-kind 16 k)
          | inr h ↦ elim h [
            | inl k ↦ meant_is xs o _ (laid-fill k (size 17 k)) (of-kind 17 k)
            | inr h ↦ elim h [
              | inl k ↦ meant_is xs o _ (laid-session k (size 18 k)) (of-kind 18 k)
              | inr h ↦ elim h [
                | inl k ↦ let t = timed (size 19 k) in meant_is xs o (Recorded (Rolling (field 4 8 xs))) (sym k, t.0, t.1) (of-kind 19 k)
                | inr h ↦ elim h [
                  | inl k ↦ let t = timed (size 20 k) in meant_is xs o (Recorded (Fbs (field 4 8 xs))) (sym k, t.0, t.1) (of-kind 20 k)
                  | inr h ↦ elim h [
                    | inl k ↦ let t = timed (size 21 k) in meant_is xs o (Recorded (Open (field 4 8 xs))) (sym k, t.0, t.1) (of-kind 21 k)
                    | inr h ↦ elim h [
                      | inl k ↦ as-removal k
                      | inr k ↦ meant_is xs o _ (laid-reply k (size 32 k)) (of-kind 32 k)
                    ]
                  ]
                ]
              ]
            ]
          ]
        ]

whole : (xs : List ℕ) (o : Output) → 4 ≤ length xs → AllBelowBase 256 xs → output_in xs ≡ Ok o → Laid xs o
whole xs o l u e =
    let k = passes (not (known (byte 3 xs))) Kind _ o e in
    let f = passes (not (eqb (length xs) (length_of (byte 3 xs)))) Length (body_in (byte 3 xs) xs) o k.1 in
    of-body xs u o f.1 (eqb-true (length xs) (length_of (byte 3 xs)) (not-false _ f.0)) (not-false (known (byte 3 xs)) k.0)

pub read_back : ReadBack coded Fitting output_in
read_back = layout.read_back kind_of content Fitting output_in short back

pub one-meaning : OneMeaning coded Fitting
one-meaning = layout.one-meaning coded Fitting output_in read_back

pub nothing-else : NothingElse coded Fitting output_in
nothing-else = layout.nothing-else kind_of content Fitting output_in whole
