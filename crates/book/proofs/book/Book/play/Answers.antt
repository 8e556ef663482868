use Rattle.std.proofs.Common.{◌≡◌, ◌<◌, ◌≤◌, length, take, refl, subst, arith, length-take-le}
use Rattle.std.proofs.lemmas.List.{get_or-take}
use Rattle.market.specs.declared.call.Call.{Call}
use Rattle.book.specs.Stands.{Follows}
use Rattle.book.proofs.Plays.{rest_more, none-played, one_more, all-played}
use Rattle.book.proofs.book.Book.play.Goals as goal

pub loop-i-init : goal.loop-i-init
loop-i-init g c =
    (none-played g.L.Bids.Line g.L.Offers.Line g.L.Ends.Line c.args.self.now c.args.calls.now c.args.room.now, refl)

pub loop-i-preserved : goal.loop-i-preserved
loop-i-preserved g c =
    let i = c.loop-i.i in
    let n = c.min-count.result in
    let calls = c.args.calls.now in
    let fits : n ≤ length calls = omega (arith, c.min-count.ensures) in
    let taken : length (take n calls) ≡ n = length-take-le n calls fits in
    let test : i < n = omega (arith, c.loop-i-test.true, taken) in
    let l : i < length calls = omega arith in
    let l₀ : i < length c.args.room.now = omega (arith, c.min-count.ensures) in
    let l' : i < length c.loop-i.room = omega (arith, c.loop-i.auto.room) in (
      one_more g.L.Bids.Line g.L.Offers.Line g.L.Ends.Line c.args.self.now c.loop-i.self _ calls c.loop-i.room i _ c.answer.result l l'
          c.loop-i.invariant.0
          (subst (λ (x : Call). Follows g.L.Bids.Line g.L.Offers.Line g.L.Ends.Line c.loop-i.self c.answer.new.self x c.answer.result) (get_or-take n calls i _ test) c.answer.ensures),
      rest_more c.loop-i.room c.args.room.now i c.answer.result l' l₀ c.loop-i.invariant.1,
    )

pub returns : goal.returns
returns g c =
    let n = c.min-count.result in
    let fits : n ≤ length c.args.calls.now = omega (arith, c.min-count.ensures) in
    let taken : length (take n c.args.calls.now) ≡ n = length-take-le n c.args.calls.now fits in
    let same : c.loop-i.i ≡ n = omega (arith, c.loop-i-test.false, c.loop-i.auto.i-end, taken) in
    all-played g.L.Bids.Line g.L.Offers.Line g.L.Ends.Line c.args.self.now c.loop-i.self c.args.calls.now c.args.room.now c.loop-i.room
    c.loop-i.i n same c.min-count.ensures c.loop-i.invariant.0 c.loop-i.invariant.1
