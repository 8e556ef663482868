-- Fills are fair. Assumes nothing.
use Rattle.std.proofs.Common.{◌≡◌, ℕ, ◌⊎◌, Some, None, sym, refl, subst, inl, inr}
use Rattle.market.specs.declared.order.Side.{Side}
use Rattle.market.specs.declared.order.Side.TheVariants.{Bid, Offer}
use Rattle.market.specs.declared.order.Order.{Order}
use Rattle.market.specs.declared.state.Phase.{Phase}
use Rattle.market.specs.declared.state.Phase.TheVariants.{Open, Timed, Rolling, Fbs}
use Rattle.rules.specs.Board.{Opening, Board}
use Rattle.rules.specs.Standings.{ahead}
use Rattle.rules.specs.Entitlement.{entitled, first_entitled}
use Rattle.rules.specs.Fills.{fill_of}
use Rattle.rules.specs.Draws.{Step, begins, fills, removes, turns, expires, rests, turn_record, decided, record_of, draw}
use Rattle.rules.specs.Calls.{step, run, opened}
use Rattle.rules.proofs.Firsts.{first-none, first-in, first-leads}
use Rattle.rules.proofs.Ranks.{ahead-total, ahead-ranked}
use Rattle.rules.proofs.Reasons.{Unpaired, Why, why}
use Rattle.laws.specs.Fair.{Foremost, Nobody, FairAt, Fair}
use Rattle.laws.proofs.Entitles.{entitled-from, to-entitled, entitled-side}
use Rattle.laws.proofs.Leading.{ahead-from}

foremost : (b : Board) (s : Side) (x : Order) → first_entitled b s ≡ Some x → Foremost b s x.number
unfolding first_entitled
foremost b s x e =
    let i = first-in (entitled b s) (ahead b) b.orders x e in
    let leads = first-leads (entitled b s) (ahead b) (ahead-ranked b s (entitled b s) (entitled-side b s)) b.orders x e in
    record {
      order = x;
      number = refl;
      entitled = entitled-from b s x i.0 i.1;
      ahead = λ p h n.
          ahead-from b s x p
          (ahead-total b s x p (entitled-side b s x i.1) h.live.side (λ q. n (sym q)) (leads p h.live.listed (to-entitled b s p h)));
    }

nobody : (b : Board) (s : Side) → first_entitled b s ≡ None → Nobody b s
unfolding first_entitled
nobody b s e o h = first-none (entitled b s) (ahead b) b.orders e o h.live.listed (to-entitled b s o h)

turn-fair : (b : Board) (ph : Phase) (t : ℕ) → FairAt b (turn_record ph t)
turn-fair b Open t = tt
turn-fair b Timed t = tt
turn-fair b Rolling t = tt
turn-fair b Fbs t = tt

-- by why the draw takes its step
step-fair : (k : Opening) (b : Board) (h : ℕ → ℕ) (d : Step) → Why k b d → FairAt b (record_of h b d)
unfolding record_of fill_of
step-fair k b h (begins x y) w = tt
step-fair k b h (fills x y) w = (foremost b Bid x w.0, foremost b Offer y w.1)
step-fair k b h (removes o c) w = tt
step-fair k b h (turns t) w = turn-fair b b.phase t
step-fair k b h (expires o t) w = tt
step-fair k b h rests w = go w.unpaired
  where
    go : Unpaired b → Nobody b Bid ⊎ Nobody b Offer
    go (inl e) = inl (nobody b Bid e)
    go (inr e) = inr (nobody b Offer e)

pub fair : Fair
unfolding step draw
fair k cs r e =
    let S = run k opened cs in
    let q : record_of S.hidden S.board (decided k S.board) ≡ r = cc in
    subst (FairAt S.board) q (step-fair k S.board S.hidden (decided k S.board) (why k S.board))
