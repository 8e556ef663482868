-- How a book in memory shows a state of the rules, and how its lines are kept in step. Assumes nothing.
use Rattle.std.specs.Prelude.{◌≡◌, List}
use Rattle.line.specs.declared.lines.Line.{Ghosts}
use Rattle.market.specs.Ranks.{BidRank, OfferRank, bid_ahead, offer_ahead, end_ahead}
use Rattle.market.specs.declared.order.Order.{Order}
use Rattle.market.specs.declared.order.Side.TheVariants.{Bid, Offer}
use Rattle.market.specs.declared.rank.EndTime.{EndTime}
use Rattle.rules.specs.Board.{Opening, Board, State, on}
use Rattle.rules.specs.Refusing.{ending}
use Rattle.board.specs.Memory.{Reserved}
use Rattle.board.specs.EndTimes.{end_time}
use Rattle.queues.specs.Lists.{Lists}
use Rattle.queues.specs.Changes.{Enlists, Relists, Refills}
use Rattle.queues.specs.Entries.{bid_entry, offer_entry}
use Rattle.invariants.specs.Sound.{Sound}
use Rattle.memory.specs.declared.memory.Memory.{Memory}
use Rattle.memory.specs.declared.entries.Entries.{Entries}

module _ {L B O E : Type 0} (bl : Ghosts B BidRank) (ol : Ghosts O OfferRank) (el : Ghosts E EndTime) where
  -- its settings, and the rooms of its lines
  abbrev pub opening_of : Memory L B O E → Opening
  opening_of m = record { settings = m.settings; bids = bl.room m.bids; offers = ol.room m.offers; ends = el.room m.ends }

  -- its lines hold exactly the ranks that the bids and the offers among the orders have on a board, and their end times
  pub record Queued (m : Memory L B O E) (os : List Order) (b : Board) : Type 0 where
    pub bids : Lists bid_ahead bl m.bids os (bid_entry b)
    pub offers : Lists offer_ahead ol m.offers os (offer_entry b)
    pub ends : Lists end_ahead el m.ends os end_time

  -- the book is in this state
  pub record Shows (m : Memory L B O E) (k : Opening) (S : State) : Type 0 where
    pub opening : opening_of m ≡ k
    pub board : m.board ≡ S.board
    pub reserves : Reserved S.hidden S.board.orders m.reserves.items
    pub queued : Queued m S.board.orders S.board

  -- this is so of the opening and the sound state that the book is in, whichever they are
  abbrev pub Whenever : Memory L B O E → (Opening → State → Type 0) → Type 0
  Whenever m P = (k : Opening) (S : State) → Sound k S → Shows m k S → P k S

  -- but for its lines the book is as it was
  pub record Same (m m' : Memory L B O E) : Type 0 where
    pub settings : m'.settings ≡ m.settings
    pub board : m'.board ≡ m.board
    pub reserves : m'.reserves ≡ m.reserves

  -- the lines have these entries of an order that has come
  pub record Enlisted (m m' : Memory L B O E) (new : Entries) : Type 0 where
    pub same : Same m m'
    pub bids : Enlists bid_ahead (on Bid) bid_entry bl m.bids m'.bids new.bid
    pub offers : Enlists offer_ahead (on Offer) offer_entry ol m.offers m'.offers new.offer
    pub ends : Enlists end_ahead ending (λ b. end_time) el m.ends m'.ends new.end

  -- the lines have the new entries of an order in place of the old ones
  pub record Relisted (m m' : Memory L B O E) (old new : Entries) : Type 0 where
    pub same : Same m m'
    pub bids : Relists bid_ahead (on Bid) bid_entry bl m.bids m'.bids old.bid new.bid
    pub offers : Relists offer_ahead (on Offer) offer_entry ol m.offers m'.offers old.offer new.offer
    pub ends : Relists end_ahead ending (λ b. end_time) el m.ends m'.ends old.end new.end

  -- the lines of both sides are filled again, by the ranks on the board
  pub record Reranked (m m' : Memory L B O E) : Type 0 where
    pub same : Same m m'
    pub bids : Refills bid_ahead (on Bid) bid_entry bl m.bids m'.bids m.board
    pub offers : Refills offer_ahead (on Offer) offer_entry ol m.offers m'.offers m.board
    pub ends : m'.ends ≡ m.ends
