use Rattle.std.proofs.Common.{sym, ap, ◌∙◌, subst}
use Rattle.market.specs.Ranks.{bid_ahead, offer_ahead}
use Rattle.market.specs.declared.order.Side.{Side}
use Rattle.market.specs.declared.order.Side.TheVariants.{Bid, Offer}
use Rattle.rules.specs.Board.{Board}
use Rattle.rules.specs.Summaries.{summary}
use Rattle.queues.specs.Entries.{bid_entry, offer_entry}
use Rattle.queues.specs.Lists.{InStep}
use Rattle.calls.proofs.glancing.summary.Goals as goal

pub returns-in-Bid : goal.returns-in-Bid
returns-in-Bid g c k S sound w =
    c.summarize.ensures (subst (λ (b : Board). InStep bid_ahead bid_entry g.L.Bids.Line c.args.memory.now.bids b) (sym w.board)
    (record { below = S.board.counters.number; rising = sound.row.rising; lists = w.queued.bids })) ∙
    ap (λ (b : Board). summary b Bid) w.board ∙ ap (λ (s : Side). summary S.board s) (sym c.in-Bid.is)

pub returns-in-Offer : goal.returns-in-Offer
returns-in-Offer g c k S sound w =
    c.summarize-in-Offer.ensures (subst (λ (b : Board). InStep offer_ahead offer_entry g.L.Offers.Line c.args.memory.now.offers b) (sym w.board)
    (record { below = S.board.counters.number; rising = sound.row.rising; lists = w.queued.offers })) ∙
    ap (λ (b : Board). summary b Offer) w.board ∙ ap (λ (s : Side). summary S.board s) (sym c.in-Offer.is)
