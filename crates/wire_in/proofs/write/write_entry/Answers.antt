use Rattle.std.proofs.Common.{◌≡◌, ℕ, ◌≤◌, Bool, true, false, cond, ltb, List, [], ◌∷◌, ◌++◌, length, ℤ, Ok, Err, Option, Result, unwrap_or, sym, refl, ap, ◌∙◌, arith, w32, SFits, rules}
use Rattle.std.proofs.lemmas.Int.{to_z-of_z}
use Rattle.std.proofs.lemmas.Bool.{le-ltb, cond-false}
use Rattle.market.specs.declared.call.OrderEntry.{OrderEntry}
use Rattle.market.specs.declared.refusal.BookFault.{BookFault}
use Rattle.market.specs.declared.refusal.BookFault.TheVariants.{End}
use Rattle.market.specs.declared.refusal.Refusal.{Refusal}
use Rattle.layout.specs.Fields.{in_bytes}
use Rattle.layout.specs.Frames.{sending}
use Rattle.layout.specs.declared.field.Field.TheVariants.{Byte, Number, Price, Time}
use Rattle.wire_in.specs.Messages.{entry}
use Rattle.market.specs.Codes.{side_byte, type_byte}
use Rattle.wire_in.specs.Writing.{at_zero, end_number, writing_call}
use Rattle.wire_in.proofs.write.write_entry.Goals as goal

end_is : (end : Option ℕ) (n : ℕ) → Ok n ≡ end_number end → (at_zero end ≡ false) × (n ≡ unwrap_or end 0)
end_is end n e = given (at_zero end) e
  where
    given : (t : Bool) → ◌≡◌ {A = Result ℕ BookFault} (Ok n) (cond t (Err End) (Ok (unwrap_or end 0))) → (t ≡ false) × (n ≡ unwrap_or end 0)
    given true e = (cc, cc)
    given false e = (refl, cc)

module _ (order : OrderEntry) (reference old : List ℕ) (few : length reference ≤ 16) where
  -- the body, with the fields that are written from other values
  body : ℕ → ℕ → ℤ → ℕ → List ℕ
  body s k p e = in_bytes (Byte order.trader ∷ Byte s ∷ Byte k ∷ Price p ∷ Number order.displayed ∷ Number order.reserve ∷ Time e ∷ []) ++ reference

  written : List ℕ
  written = body (side_byte order.side) (type_byte order.kind) order.price (unwrap_or order.end 0)

  bodies : (s k : ℕ) (p : ℤ) (e : ℕ) → s ≡ side_byte order.side → k ≡ type_byte order.kind → p ≡ order.price → e ≡ unwrap_or order.end 0 → body s k p e ≡ written
  unfolding written
  bodies s k p e f g h i = cc

  same : {x : Result ℕ Refusal × List ℕ} (s k : ℕ) (p : ℤ) (e : ℕ) → s ≡ side_byte order.side → k ≡ type_byte order.kind → p ≡ order.price → e ≡ unwrap_or order.end 0 → at_zero order.end ≡ false
      → x ≡ sending 1 (body s k p e) old → x ≡ writing_call (entry order reference) old
  unfolding body written
  same s k p e f g h i z w =
      let short : ltb 65533 (length written) ≡ false = le-ltb 65533 (length written) (omega arith) in
      let fits : ltb 16 (length reference) ≡ false = le-ltb 16 (length reference) few in
      w ∙ ap (λ (b : List ℕ). sending 1 b old) (bodies s k p e f g h i)
      ∙ cond-false (ltb 65533 (length written)) _ _ short
      ∙ sym (cond-false (ltb 16 (length reference)) _ _ fits ∙ cond-false (at_zero order.end) _ _ z)

pub returns-clause-value : goal.returns-clause-value
unfolding body
returns-clause-value c =
    let order = c.args.order.now in
    let fits : SFits w32 order.price = search rules in
    let end = end_is order.end c.in_ok-end.end c.in_ok-end.ensures in
    same order c.args.reference.now c.args.buf.now c.if-reference-gt16.false _ _ _ _
    (search rules) (search rules) (to_z-of_z w32 order.price fits) end.1 end.0 c.write_message.ensures.value
