-- Reading a message of every kind is reading it as a call or as an output, by its kind.
use Rattle.std.proofs.Common.{◌≡◌, ℕ, Bool, true, false, cond, List, take, Ok, Err, Result, refl, ap, ◌∙◌, arith}
use Rattle.std.proofs.lemmas.List.{get_or-take}
use Rattle.market.specs.Tenors.{within}
use Rattle.market.specs.declared.refusal.MessageFault.{MessageFault}
use Rattle.market.specs.declared.refusal.Refusal.{Refusal}
use Rattle.layout.specs.Frames.{framed, taking, reading, reading_by}
use Rattle.layout.specs.Numbers.{byte}
use Rattle.layout.proofs.Answered.{framed-bounds}
use Rattle.wire_in.specs.Reading.{call_in}
use Rattle.wire_out.specs.Reading.{output_in}
use Rattle.wire.specs.Told.{Told, call, output, told_as, meaning, retold, telling}

taken-as : {X : Type 0} (f : X → Told) (n : ℕ) (r : Result X MessageFault) → taking n (told_as f r) ≡ retold f (taking n r)
taken-as f n (Ok x) = refl
taken-as f n (Err e) = refl

taken-either : (b : Bool) (n : ℕ) (xs : List ℕ)
    → taking n (cond b (told_as call (call_in xs)) (told_as output (output_in xs))) ≡ cond b (retold call (taking n (call_in xs))) (retold output (taking n (output_in xs)))
taken-either true n xs = taken-as call n (call_in xs)
taken-either false n xs = taken-as output n (output_in xs)

refused : (b : Bool) (r : Result Told Refusal × ℕ) → r ≡ cond b r r
refused true r = refl
refused false r = refl

by_frame : (bs : List ℕ) (r : Result ℕ MessageFault) → r ≡ framed bs
    → reading_by r meaning bs ≡ cond (within 1 5 (byte 3 bs)) (retold call (reading_by r call_in bs)) (retold output (reading_by r output_in bs))
by_frame bs (Err f) e = refused (within 1 5 (byte 3 bs)) _
by_frame bs (Ok n) e =
    let bounds = framed-bounds bs n e in
    let kind : byte 3 (take n bs) ≡ byte 3 bs = get_or-take n bs 3 0 (omega arith) in
    taken-either (within 1 5 (byte 3 (take n bs))) n (take n bs)
    ∙ ap (λ (k : ℕ). cond (within 1 5 k) (retold call (taking n (call_in (take n bs)))) (retold output (taking n (output_in (take n bs))))) kind

pub of-all-kinds : (bs : List ℕ) → reading meaning bs ≡ telling bs
of-all-kinds bs = by_frame bs (framed bs) refl
