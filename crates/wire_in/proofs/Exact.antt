-- Reading undoes writing, and writing undoes reading.
use Rattle.std.proofs.Common.{◌≡◌, ℕ, ◌^◌, ◌<◌, ◌≤◌, true, false, not, eqb, ltb, ◌⊎◌, List, ◌++◌, length, drop, ℤ, Some, None, Ok, Option, Result, unwrap_or, sym, refl, ap, ◌∙◌, subst, inl, inr, arith, length-drop}
use Rattle.std.proofs.ByRecursion.{All-get_or, All-drop}
use Rattle.std.proofs.lemmas.List.{drop_all}
use Rattle.std.proofs.lemmas.Bool.{cond_both, eqb-true, eqb-false, not-false}
use Rattle.std.proofs.lemmas.Bool.Decides.{nat_tests}
use Rattle.std.specs.Int.Digits.{AllBelowBase}
use Rattle.market.specs.declared.call.OrderEntry.{OrderEntry}
use Rattle.market.specs.declared.call.OrderChange.{OrderChange}
use Rattle.market.specs.declared.order.Side.{Side}
use Rattle.market.specs.declared.order.Side.TheVariants.{Bid, Offer}
use Rattle.market.specs.declared.order.OrderType.{OrderType}
use Rattle.market.specs.declared.order.OrderType.TheVariants.{FaS, FaK, FaKI}
use Rattle.market.specs.Codes.{side_byte, type_byte, side_of, type_of}
use Rattle.market.specs.Tenors.{within}
use Rattle.market.specs.declared.refusal.MessageFault.{MessageFault}
use Rattle.market.specs.declared.refusal.MessageFault.TheVariants.{Kind, Length, Side as NoSide, OrderType as NoType}
use Rattle.layout.specs.Fields.{in_bytes}
use Rattle.layout.specs.Numbers.{byte, bytes, big, field}
use Rattle.layout.specs.Laws.{ReadBack, OneMeaning, NothingElse}
use Rattle.layout.proofs.Answered.{passes}
use Rattle.layout.proofs.Exact as layout
use Rattle.layout.proofs.Laid.{price-back, byte-then, code-then, bytes-then, price-then, price-fits}
use Rattle.layout.proofs.Widths.{big-back, field-part, field-small}
use Rattle.wire_in.specs.Laws.{FittingEnd, Fitting}
use Rattle.wire_in.specs.Messages.{Message, entry, change, cancel, tick, draw}
use Rattle.wire_in.specs.Reading.{end_of, order_in, change_in, cancel_in, fits, body_in, call_in}
use Rattle.wire_in.specs.Writing.{kind_of, fields_of, reference_of, coded}

-- what a message holds behind its head
abbrev content : Message → List ℕ
content m = in_bytes (fields_of m) ++ reference_of m

short : (m : Message) → Fitting m → length (content m) < 65534
short (entry order reference) f = omega (arith, f.5)
short (change c) f = omega arith
short (cancel c) f = omega arith
short (tick time) f = omega arith
short draw f = omega arith

side-back : (s : Side) → (ltb 1 (side_byte s) ≡ false) × (side_of (side_byte s) ≡ s)
side-back Bid = (refl, refl)
side-back Offer = (refl, refl)

type-back : (k : OrderType) → (ltb 2 (type_byte k) ≡ false) × (type_of (type_byte k) ≡ k)
type-back FaS = (refl, refl)
type-back FaK = (refl, refl)
type-back FaKI = (refl, refl)

end_back : (e : Option ℕ) → FittingEnd e → end_of (big (bytes 8 (unwrap_or e 0))) ≡ e
end_back None f = refl
end_back (Some time) f = ap end_of (big-back 8 time f.1) ∙ grind (arith, nat_tests)

same-entry : (order : OrderEntry) (reference : List ℕ) (s : Side) (k : OrderType) (p : ℤ) (d r : ℕ) (e : Option ℕ)
    → s ≡ order.side → k ≡ order.kind → p ≡ order.price → d ≡ order.displayed → r ≡ order.reserve → e ≡ order.end
    → ◌≡◌ {A = Result Message MessageFault} (Ok (entry order reference)) (Ok (entry (record { trader = order.trader; side = s; kind = k; price = p; displayed = d; reserve = r; end = e }) reference))
same-entry order reference s k p d r e f g h i j l = rw (f, g, h, i, j, l)

entry-back : (order : OrderEntry) (reference : List ℕ) → Fitting (entry order reference) → Ok (entry order reference) ≡ call_in (coded (entry order reference))
entry-back order reference f =
    let long : not (fits 1 (length (coded (entry order reference)))) ≡ false = grind (arith, nat_tests, f.5) in
    let s = side-back order.side in
    let k = type-back order.kind in
    rw (long, s.0, k.0)
    (same-entry order reference _ _ _ _ _ _
    s.1 k.1 (price-back order.price f.1) (big-back 4 order.displayed f.2) (big-back 4 order.reserve f.3) (end_back order.end f.4))

same-change : (c : OrderChange) (n : ℕ) (p : ℤ) (d r : ℕ) → n ≡ c.number → p ≡ c.price → d ≡ c.displayed → r ≡ c.reserve
    → ◌≡◌ {A = Result Message MessageFault} (Ok (change c)) (Ok (change (record { trader = c.trader; number = n; price = p; displayed = d; reserve = r })))
same-change c n p d r f g h i = rw (f, g, h, i)

back : (m : Message) → Fitting m → Ok m ≡ call_in (coded m)
back (entry order reference) f = entry-back order reference f
back (change c) f =
    same-change c _ _ _ _ (big-back 4 c.number f.1) (price-back c.price f.2) (big-back 4 c.displayed f.3) (big-back 4 c.reserve f.4)
back (cancel c) f = ap (λ (n : ℕ). Ok (cancel (record { trader = c.trader; number = n }))) (sym (big-back 4 c.number f.1))
back (tick time) f = ap (λ (n : ℕ). Ok (tick n)) (sym (big-back 8 time f))
back draw f = refl

-- the kinds with their lengths
fitted : (kind n : ℕ) → fits kind n ≡ true
    → ((kind ≡ 1) × (27 ≤ n) × (n ≤ 43)) ⊎ (((kind ≡ 2) × (n ≡ 21)) ⊎ (((kind ≡ 3) × (n ≡ 9)) ⊎ (((kind ≡ 4) × (n ≡ 12)) ⊎ ((kind ≡ 5) × (n ≡ 4)))))
fitted kind n e = grind (arith, nat_tests)

side-byte : (b : ℕ) → ltb 1 b ≡ false → side_byte (side_of b) ≡ b
side-byte b h = grind (arith, nat_tests)

type-byte : (b : ℕ) → ltb 2 b ≡ false → type_byte (type_of b) ≡ b
type-byte b h = grind (arith, nat_tests)

end-time : (n : ℕ) → n < 2 ^ 64 → (unwrap_or (end_of n) 0 ≡ n) × FittingEnd (end_of n)
end-time n h =
    cond_both (eqb n 0) None (Some n) (λ (e : Option ℕ). (unwrap_or e 0 ≡ n) × FittingEnd e)
    (λ t. (sym (eqb-true n 0 t), tt))
    (λ t. let some = eqb-false n 0 t in (refl, (omega arith, h)))

-- a whole message is the layout of what it means
abbrev Laid : List ℕ → Message → Type 0
Laid xs m = (kind_of m ≡ byte 3 xs) × (content m ≡ drop 4 xs) × Fitting m

meant_is : (xs : List ℕ) (m x : Message) → Laid xs x → ◌≡◌ {A = Result Message MessageFault} (Ok x) (Ok m) → Laid xs m
meant_is xs m x l e = let same : x ≡ m = cc in subst (Laid xs) same l

module _ (xs : List ℕ) (under : AllBelowBase 256 xs) where
  laid-entry : byte 3 xs ≡ 1 → 27 ≤ length xs → length xs ≤ 43 → ltb 1 (byte 5 xs) ≡ false → ltb 2 (byte 6 xs) ≡ false → Laid xs (entry (order_in xs) (drop 27 xs))
  laid-entry k l h s t =
      let e = end-time (field 19 8 xs) (field-small xs 19 8 (omega arith) under) in
      let reserve = bytes-then xs 15 _ 4 (omega arith) under (ap (λ (n : ℕ). bytes 8 n ++ drop 27 xs) e.0 ∙ field-part xs 19 8 (omega arith) under) in
      let price = price-then xs 7 _ (omega arith) under (bytes-then xs 11 _ 4 (omega arith) under reserve) in
      let kind = code-then xs 6 _ _ (type-byte (byte 6 xs) t) (omega arith) price in
      let side = code-then xs 5 _ _ (side-byte (byte 5 xs) s) (omega arith) kind in (
        sym k,
        byte-then xs 4 _ (omega arith) side,
        (
          All-get_or _ xs 4 0 (omega arith) under,
          price-fits xs 7 (omega arith) under,
          field-small xs 11 4 (omega arith) under,
          field-small xs 15 4 (omega arith) under,
          e.1,
          simp length-drop (omega arith),
          All-drop _ 27 xs under,
        ),
      )

  laid-change : byte 3 xs ≡ 2 → length xs ≡ 21 → Laid xs (change (change_in xs))
  laid-change k l = (
    sym k,
    byte-then xs 4 _ (omega arith)
        (bytes-then xs 5 _ 4 (omega arith) under
        (price-then xs 9 _ (omega arith) under
        (bytes-then xs 13 _ 4 (omega arith) under (bytes-then xs 17 _ 4 (omega arith) under (sym (drop_all 21 xs (omega arith))))))),
    (
      All-get_or _ xs 4 0 (omega arith) under,
      field-small xs 5 4 (omega arith) under,
      price-fits xs 9 (omega arith) under,
      field-small xs 13 4 (omega arith) under,
      field-small xs 17 4 (omega arith) under,
    ),
  )

  laid-cancel : byte 3 xs ≡ 3 → length xs ≡ 9 → Laid xs (cancel (cancel_in xs))
  laid-cancel k l = (
    sym k,
    byte-then xs 4 _ (omega arith) (bytes-then xs 5 _ 4 (omega arith) under (sym (drop_all 9 xs (omega arith)))),
    (All-get_or _ xs 4 0 (omega arith) under, field-small xs 5 4 (omega arith) under),
  )

  laid-tick : byte 3 xs ≡ 4 → length xs ≡ 12 → Laid xs (tick (field 4 8 xs))
  laid-tick k l =
      (sym k, bytes-then xs 4 _ 8 (omega arith) under (sym (drop_all 12 xs (omega arith))), field-small xs 4 8 (omega arith) under)

  laid-draw : byte 3 xs ≡ 5 → length xs ≡ 4 → Laid xs draw
  laid-draw k l = (sym k, sym (drop_all 4 xs (omega arith)), tt)

  -- what is read of each kind
  of-kind : (kind : ℕ) (m : Message) → byte 3 xs ≡ kind → body_in (byte 3 xs) xs ≡ Ok m → body_in kind xs ≡ Ok m
  of-kind kind m k e = sym (ap (λ (i : ℕ). body_in i xs) k) ∙ e

  as-entry : (m : Message) → (byte 3 xs ≡ 1) × (27 ≤ length xs) × (length xs ≤ 43) → body_in (byte 3 xs) xs ≡ Ok m → Laid xs m
  as-entry m (k, l, h) e =
      let s = passes (ltb 1 (byte 5 xs)) NoSide _ m (of-kind 1 m k e) in
      let t = passes (ltb 2 (byte 6 xs)) NoType _ m s.1 in
      meant_is xs m (entry (order_in xs) (drop 27 xs)) (laid-entry k l h s.0 t.0) t.1

  of-body : (m : Message) → fits (byte 3 xs) (length xs) ≡ true → body_in (byte 3 xs) xs ≡ Ok m → Laid xs m
  of-body m f e =
      elim (fitted (byte 3 xs) (length xs) f) [
        | inl h ↦ as-entry m h e
        | inr h ↦ elim h [
          | inl h ↦ meant_is xs m (change (change_in xs)) (laid-change h.0 h.1) (of-kind 2 m h.0 e)
          | inr h ↦ elim h [
            | inl h ↦ meant_is xs m (cancel (cancel_in xs)) (laid-cancel h.0 h.1) (of-kind 3 m h.0 e)
            | inr h ↦ elim h [
              | inl h ↦ meant_is xs m (tick (field 4 8 xs)) (laid-tick h.0 h.1) (of-kind 4 m h.0 e)
              | inr h ↦ meant_is xs m draw (laid-draw h.0 h.1) (of-kind 5 m h.0 e)
            ]
          ]
        ]
      ]

whole : (xs : List ℕ) (m : Message) → 4 ≤ length xs → AllBelowBase 256 xs → call_in xs ≡ Ok m → Laid xs m
whole xs m l u e =
    let k = passes (not (within 1 5 (byte 3 xs))) Kind _ m e in
    let f = passes (not (fits (byte 3 xs) (length xs))) Length (body_in (byte 3 xs) xs) m k.1 in
    of-body xs u m (not-false (fits (byte 3 xs) (length xs)) f.0) f.1

pub read_back : ReadBack coded Fitting call_in
read_back = layout.read_back kind_of content Fitting call_in short back

pub one-meaning : OneMeaning coded Fitting
one-meaning = layout.one-meaning coded Fitting call_in read_back

pub nothing-else : NothingElse coded Fitting call_in
nothing-else = layout.nothing-else kind_of content Fitting call_in whole
