use Rattle.std.proofs.Common.{◌≡◌, ℕ, ◌+◌, ◌-◌, ◌/◌, ◌%◌, List, [], ◌∷◌, ◌++◌, length, get_or, drop, sym, refl, ap, ◌∙◌, append_assoc, div-one, arith, length-append}
use Rattle.layout.specs.Numbers.{bytes}
use Rattle.layout.specs.Fields.{in_bytes}
use Rattle.layout.specs.Frames.{pasted}
use Rattle.layout.proofs.Pastes.{then-put}
use Rattle.layout.proofs.write.put_message.Goals as goal

-- the four bytes of the head, as they were put
headed : (kind n k : ℕ) (xs rest : List ℕ) {b : List ℕ} → xs ≡ k / 256 % 256 ∷ k % 256 ∷ [] → k ≡ n → b ≡ get_or xs 0 0 ∷ get_or xs 1 0 ∷ 1 ∷ kind ∷ rest → b ≡ (bytes 2 n ++ (1 ∷ kind ∷ [])) ++ rest
headed kind n k xs rest e f g =
    let high = ap (λ (q : List ℕ). get_or q 0 0) e ∙ ap (λ (q : ℕ). q / 256 % 256) f in
    let low = ap (λ (q : List ℕ). get_or q 1 0) e ∙ ap (λ (q : ℕ). q % 256) (f ∙ sym (div-one n)) in
    cc

pub returns : goal.returns
returns c =
    let fields = in_bytes c.args.fields.now in
    let tail = c.args.tail.now in
    let old = c.args.buf.now in
    let kind = c.args.kind in
    let long = length-append fields tail in
    let rest : c.args.size - 2 ≡ 2 + length (fields ++ tail) = omega arith in
    let head : List ℕ = bytes 2 (2 + length (fields ++ tail)) ++ (1 ∷ kind ∷ []) in
    let first : c.put.new.buf ≡ pasted old 0 head =
    headed kind (2 + length (fields ++ tail)) _ c.to_be_bytes.result (drop 4 old) c.to_be_bytes.ensures rest c.put.ensures in
    let second = then-put old head fields 0 4 first c.put_fields.ensures refl (omega arith) in
    let third = then-put old (head ++ fields) tail 0 (c.args.size - length tail) second c.put-2.ensures (omega arith) (omega arith) in
    third ∙ ap (pasted old 0) (append_assoc head fields tail)
