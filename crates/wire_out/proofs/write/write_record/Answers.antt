use Rattle.std.proofs.Common.{ℤ, sym, ap, ◌∙◌, w32, SFits, rules}
use Rattle.std.proofs.lemmas.Int.{to_z-of_z}
use Rattle.market.specs.declared.record.Record.{Record}
use Rattle.market.specs.declared.record.Record.TheVariants.{Fill}
use Rattle.layout.specs.Frames.{writing}
use Rattle.wire_out.specs.Writing.{coded_record}
use Rattle.wire_out.proofs.write.write_record.Goals as goal

pub returns-in-Fill-clause-value : goal.returns-in-Fill-clause-value
returns-in-Fill-clause-value c =
    let time = c.in-Fill.time in
    let f = c.in-Fill.fill in
    let fits : SFits w32 f.price = search rules in
    let told : ℤ → Record = λ p. Fill time (record { price = p; size = f.size; bid = f.bid; bidleft = f.bidleft; offer = f.offer; offerleft = f.offerleft }) in
    c.write_message-in-Fill.ensures.value
    ∙ ap (λ (p : ℤ). writing (coded_record (told p)) c.args.buf.now) (to_z-of_z w32 f.price fits)
    ∙ ap (λ (r : Record). writing (coded_record r) c.args.buf.now) (sym c.in-Fill.is)
