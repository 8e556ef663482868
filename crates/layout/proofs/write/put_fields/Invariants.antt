use Rattle.std.proofs.Common.{◌≡◌, ◌+◌, length, take}
use Rattle.layout.specs.Fields.{in_bytes}
use Rattle.layout.specs.Frames.{pasted}
use Rattle.layout.proofs.write.put_fields.Given as goal

abbrev pub invariant-loop-field : goal.invariant-loop-field
invariant-loop-field l =
    (l.buf ≡ pasted l.initial.buf l.start (in_bytes (take l.field-index l.fields)))
    × (l.at ≡ l.start + length (in_bytes (take l.field-index l.fields)))
