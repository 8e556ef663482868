use Rattle.std.proofs.Common.{ℕ, ◌+◌, ◌<◌, ◌≤◌, List, length, get_or, take, sym, ap, ◌∙◌, arith, length-append, rules}
use Rattle.std.proofs.lemmas.List.{take_all}
use Rattle.layout.specs.Fields.{field_bytes, in_bytes}
use Rattle.layout.specs.Frames.{pasted}
use Rattle.layout.specs.declared.field.Field.{Field}
use Rattle.layout.specs.declared.field.Field.TheVariants.{Byte}
use Rattle.layout.proofs.Pastes.{pasted-none, then-put, in_bytes-more, in_bytes-within}
use Rattle.layout.proofs.write.put_fields.Goals as goal

pub loop-field-init : goal.loop-field-init
loop-field-init c = (sym (pasted-none c.args.buf.now c.args.start), omega arith)

-- after the i-th field there is still room for all
room : (fields : List Field) (i : ℕ) → i < length fields → length (in_bytes (take i fields)) + length (field_bytes (get_or fields i (Byte 0))) ≤ length (in_bytes fields)
room fields i h =
    let more = ap length (in_bytes-more fields i (Byte 0) h) in
    omega (arith, more, length-append (in_bytes (take i fields)) (field_bytes (get_or fields i (Byte 0))), in_bytes-within fields (i + 1))

pub put_field-requires : goal.put_field-requires
put_field-requires c = omega (arith, room c.args.fields.now c.loop-field.field-index c.loop-field-test.true)

pub overflow_add-at : goal.overflow_add-at
overflow_add-at c =
    let r = room c.args.fields.now c.loop-field.field-index c.loop-field-test.true in
    search rules

pub loop-field-preserved : goal.loop-field-preserved
loop-field-preserved c =
    let i = c.loop-field.field-index in
    let fields = c.args.fields.now in
    let done = in_bytes (take i fields) in
    let next = field_bytes (get_or fields i (Byte 0)) in
    let more = in_bytes-more fields i (Byte 0) c.loop-field-test.true in
    let fit = room fields i c.loop-field-test.true in
    let put = then-put c.args.buf.now done next c.args.start c.loop-field.at
    c.loop-field.invariant.0 c.put_field.ensures c.loop-field.invariant.1 (omega arith) in
    (put ∙ ap (pasted c.args.buf.now c.args.start) (sym more), omega (arith, ap length more, length-append done next))

pub returns : goal.returns
returns c =
    c.loop-field.invariant.0
    ∙ ap (λ (q : List Field). pasted c.args.buf.now c.args.start (in_bytes q)) (take_all c.loop-field.field-index c.args.fields.now c.loop-field-test.false)
