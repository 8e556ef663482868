use Rattle.std.proofs.Common.{◌≡◌, ℕ, ◌<◌, List, [], length, take, drop, Some, None, Option, unwrap_or, sym, refl, ap, ◌∙◌, arith}
use Rattle.std.specs.Borrow.{Bor}
use Rattle.std.specs.Slice.{IsGetRangeResult}
use Rattle.std.proofs.lemmas.List.{drop_all, take_all, take_rest}
use Rattle.layout.specs.Numbers.{big}
use Rattle.layout.proofs.Arrays.{padded}
use Rattle.layout.proofs.number.array_at.Goals as goal

-- what follows a place, and nothing where the place is past the end
behind : (bs : List ℕ) (at : ℕ) (r : Option (Bor (List ℕ))) (none : Bor (List ℕ)) → none.now ≡ [] → IsGetRangeResult bs at (length bs) r → (unwrap_or r none).now ≡ drop at bs
behind bs at (Some x) none e h = h.0.2 ∙ take_rest bs at
behind bs at None none e h = e ∙ sym (drop_all at bs (omega arith))

pub returns : goal.returns
returns g c =
    let rest = c.unwrap_or-rest.result.now in
    let is : rest ≡ drop c.args.at c.args.bytes.now =
    ap (λ (r : Bor (List ℕ)). r.now) c.unwrap_or-rest.ensures ∙ behind _ _ c.get.result _ refl c.get.ensures.lookup in
    let few : length rest < g.row.N = c.in_default.ensures.cases in
    ap big c.put.ensures ∙ padded g.row.N rest (omega arith) ∙ ap big (sym (take_all g.row.N rest (omega arith)) ∙ ap (take g.row.N) is)
