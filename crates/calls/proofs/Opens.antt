-- A book that is opened has no orders, and its lines are empty. Assumes nothing.
use Rattle.std.proofs.Common.{◌≡◌, ℕ, [], sym, ap, ◌∙◌}
use Rattle.line.specs.declared.lines.Line.{Ghosts}
use Rattle.market.specs.declared.settings.Settings.{Settings}
use Rattle.market.specs.Ranks.{BidRank, OfferRank}
use Rattle.market.specs.declared.rank.EndTime.{EndTime}
use Rattle.rules.specs.Base.{each}
use Rattle.rules.specs.Board.{Opening}
use Rattle.rules.specs.Calls.{opened}
use Rattle.board.specs.EndTimes.{end_time}
use Rattle.queues.specs.Entries.{bid_entry, offer_entry}
use Rattle.queues.proofs.Kept.{lists-none}
use Rattle.memory.specs.declared.memory.Memory.{Memory}
use Rattle.memory.specs.Shown.{opening_of, Shows}
use Rattle.calls.specs.Openings.{opening_with}

-- an emptied line, with the room that it had
pub record Emptied {L X : Type 0} (g : Ghosts L X) (l l' : L) : Type 0 where
  pub entries : g.entries l' ≡ []
  pub room : g.room l' ≡ g.room l

module _ {L B O E : Type 0} (bl : Ghosts B BidRank) (ol : Ghosts O OfferRank) (el : Ghosts E EndTime) where
  opening-is : (m : Memory L B O E) (s : Settings) (x : B) (y : O) (z : E) → m.settings ≡ s → bl.room m.bids ≡ bl.room x →
      ol.room m.offers ≡ ol.room y → el.room m.ends ≡ el.room z → opening_of bl ol el m ≡ opening_with bl ol el s x y z
  opening-is m s x y z e f g h =
      let make : Settings → ℕ → ℕ → ℕ → Opening = λ t p q r. record { settings = t; bids = p; offers = q; ends = r } in
      ap (λ t. make t (bl.room m.bids) (ol.room m.offers) (el.room m.ends)) e ∙
      ap (λ p. make s p (ol.room m.offers) (el.room m.ends)) f ∙
      ap (λ q. make s (bl.room x) q (el.room m.ends)) g ∙
      ap (make s (bl.room x) (ol.room y)) h

  pub opened-shown : (m : Memory L B O E) (s : Settings) (x : B) (y : O) (z : E) → m.settings ≡ s → m.board ≡ opened.board →
      m.reserves.items ≡ [] → Emptied bl x m.bids → Emptied ol y m.offers → Emptied el z m.ends →
      Shows bl ol el m (opening_with bl ol el s x y z) opened
  unfolding opened each
  opened-shown m s x y z e board reserves bids offers ends =
      record {
        opening = opening-is m s x y z e bids.room offers.room ends.room;
        board = board;
        reserves = sym reserves;
        queued = record {
          bids = lists-none bl m.bids (bid_entry opened.board) bids.entries;
          offers = lists-none ol m.offers (offer_entry opened.board) offers.entries;
          ends = lists-none el m.ends end_time ends.entries;
        };
      }
