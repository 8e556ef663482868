-- An entry brings its order to the board and the lines. Assumes nothing.
use Rattle.std.proofs.Common.{◌≡◌, ℕ, ◌<◌, ◌≤◌, Bool, true, false, ◌&&◌, leb, IsErrAnd, Some, None, Ok, Err, Option, Result, sym, refl, ap, ◌∙◌, subst, arith}
use Rattle.line.specs.declared.lines.Line.{Ghosts}
use Rattle.line.specs.declared.lines.LineFault.{LineFault}
use Rattle.line.specs.declared.lines.LineFault.TheVariants.{Full}
use Rattle.market.specs.declared.order.Side.{Side}
use Rattle.market.specs.declared.order.Side.TheVariants.{Bid, Offer}
use Rattle.market.specs.declared.order.Order.{Order}
use Rattle.market.specs.declared.state.Phase.{Phase}
use Rattle.market.specs.declared.state.Privilege.{Privilege}
use Rattle.market.specs.Ranks.{BidRank, OfferRank}
use Rattle.market.specs.declared.rank.EndTime.{EndTime}
use Rattle.market.specs.declared.call.OrderEntry.{OrderEntry}
use Rattle.market.specs.declared.call.Call.TheVariants.{Entry}
use Rattle.market.specs.declared.refusal.Refusal.{Refusal}
use Rattle.market.specs.declared.refusal.Refusal.TheVariants.{Line}
use Rattle.market.specs.declared.answer.Accepted.TheVariants.{Entered}
use Rattle.rules.specs.Base.{is_some, or_next, some_if, count, write}
use Rattle.rules.specs.Board.{Opening, Board, State, Table, same, on}
use Rattle.rules.specs.Standings.{standing_in, standing}
use Rattle.rules.specs.Privileges.{taken}
use Rattle.rules.specs.Refusing.{is_size, room_for, ending, line_full, entry_price, entry_refusal}
use Rattle.rules.specs.Calls.{entered, taken_at, entered_board, entered_state, step}
use Rattle.rules.proofs.Rows.{ascends-in}
use Rattle.rules.proofs.Tests.{same_true}
use Rattle.invariants.specs.Sound.{Sound}
use Rattle.invariants.proofs.Passes.{EntryPasses, entry-passes}
use Rattle.board.specs.Memory.{Reserved}
use Rattle.admission.specs.Checks.{refused_if}
use Rattle.effects.specs.Effects.{Enters}
use Rattle.admission.proofs.Refused.{passed, failed}
use Rattle.memory.specs.declared.memory.Memory.{Memory}
use Rattle.memory.specs.declared.entries.Entries.{Entries}
use Rattle.memory.specs.Entries.{entries_of}
use Rattle.memory.specs.Shown.{Shows, Enlisted}
use Rattle.memory.proofs.Bounds.{bounded}
use Rattle.memory.proofs.Kept.{taken-unseen, standing-unseen}
use Rattle.memory.proofs.Showing.{Untouched, shows_more}
use Rattle.calls.specs.Obeys.{entry_answer}
use Rattle.calls.proofs.Replies.{broken, Replies, refused, accepted}
use Rattle.calls.proofs.Screens.{Screens, screened, either-full, side-full, none-full}

-- ---- the others stand as they stood

taken-stands : (q : Bool) (n : ℕ) (e : OrderEntry) (ph : Phase) (x y : Option ℕ) (ps : Table Privilege) (p : Order) → ¬ (p.number ≡ n) →
    standing_in ph x y (taken_at q n e ps) p ≡ standing_in ph x y ps p
taken-stands false n e ph x y ps p h = refl
taken-stands true n e ph x y ps p h = standing-unseen n (taken n) e.trader e.side ph x y ps p (taken-unseen n) h

earlier-stands : (b : Board) (e : OrderEntry) (p : Order) → p.number < b.counters.number → standing (entered_board b e) p ≡ standing b p
unfolding entered_board standing
earlier-stands b e p h =
    taken-stands _ b.counters.number e b.phase b.session.buyer b.session.seller b.privileges p (λ z. omega arith)

side-room : (k : Opening) (b : Board) (e : OrderEntry) (t : Side) → count (on e.side) b.orders < room_for k e.side → same t e.side ≡ true →
    count (on t) b.orders < room_for k t
side-room k b e t h s = subst (λ (v : Side). count (on v) b.orders < room_for k v) (same_true t e.side s) h

-- the refusal at this state
abbrev Refusal-is : Opening → State → OrderEntry → Option Refusal → Type 0
Refusal-is k S e q = entry_refusal k S.board e (is_size k e.reserve) ≡ q

module _ {L B O E : Type 0} (bl : Ghosts B BidRank) (ol : Ghosts O OfferRank) (el : Ghosts E EndTime) where
  refusal_is : (m : Memory L B O E) (k : Opening) (S : State) (e : OrderEntry) (q : Option Refusal) (full : Bool) → Shows bl ol el m k S →
      Screens m.settings m.board e q → line_full k S.board.orders e.side e.end ≡ full →
      Refusal-is k S e (or_next q (some_if full (Line Full) None))
  refusal_is m k S e q full w screens l =
      screened k S.board m.settings e q full (sym (ap (λ (x : Opening). x.settings) w.opening))
      (subst (λ (v : Board). Screens m.settings v e q) w.board screens) l

  turned_down : (m : Memory L B O E) (k : Opening) (S : State) (e : OrderEntry) (r : Result ℕ Refusal) (x : Refusal) → IsErrAnd r (λ y. y ≡ x) →
      Refusal-is k S e (Some x) → Shows bl ol el m k S → Replies bl ol el m k (entry_answer r) (step k S (Entry e))
  unfolding step
  turned_down m k S e r x h q w =
      refused bl ol el m k S _ _ (entry_answer r) _ x q (ap (λ (z : Result ℕ Refusal). entry_answer z) (broken r h)) w

  -- by the board
  pub entry-refused : (m : Memory L B O E) (k : Opening) (S : State) (e : OrderEntry) (r : Result ℕ Refusal) (x : Refusal) → IsErrAnd r (λ y. y ≡ x) →
      Screens m.settings m.board e (Some x) → Shows bl ol el m k S → Replies bl ol el m k (entry_answer r) (step k S (Entry e))
  entry-refused m k S e r x h screens w = turned_down m k S e r x h (refusal_is m k S e (Some x) _ w screens refl) w

  line_refused : (m : Memory L B O E) (k : Opening) (S : State) (e : OrderEntry) (r : Result ℕ Refusal) (f : LineFault) → IsErrAnd r (λ y. y ≡ Line f) →
      Screens m.settings m.board e None → line_full k S.board.orders e.side e.end ≡ true → f ≡ Full →
      Shows bl ol el m k S → Replies bl ol el m k (entry_answer r) (step k S (Entry e))
  line_refused m k S e r f h screens l is w =
      turned_down m k S e r (Line f) h (refusal_is m k S e None true w screens l ∙ ap (λ (x : LineFault). Some (Line x)) (sym is)) w

  -- by the side's line
  pub side-refused : (m : Memory L B O E) (k : Opening) (S : State) (e : OrderEntry) (r : Result ℕ Refusal) (f : LineFault) → IsErrAnd r (λ y. y ≡ Line f) →
      Screens m.settings m.board e None →
      Err f ≡ refused_if (leb (room_for k e.side) (count (on e.side) S.board.orders)) Full →
      Shows bl ol el m k S → Replies bl ol el m k (entry_answer r) (step k S (Entry e))
  unfolding line_full
  side-refused m k S e r f h screens t w =
      let x = failed _ _ t in line_refused m k S e r f h screens (side-full _ _ x.0) x.1 w

  -- by the end line
  pub end_refused : (m : Memory L B O E) (k : Opening) (S : State) (e : OrderEntry) (r : Result ℕ Refusal) (f : LineFault) → IsErrAnd r (λ y. y ≡ Line f) →
      Screens m.settings m.board e None →
      Err f ≡ refused_if (is_some e.end && leb k.ends (count ending S.board.orders)) Full →
      Shows bl ol el m k S → Replies bl ol el m k (entry_answer r) (step k S (Entry e))
  unfolding line_full
  end_refused m k S e r f h screens t w =
      let x = failed _ _ t in line_refused m k S e r f h screens (either-full _ _ x.0) x.1 w

  -- the board and the reserves take the order, then the lines
  entered-shown : (m m₁ m' : Memory L B O E) (k : Opening) (S : State) (e : OrderEntry) (o : Order) (new : Entries) → Sound k S → Shows bl ol el m k S →
      EntryPasses k S.board e → Untouched bl ol el m m₁ →
      Enters e o m.board m₁.board m.reserves.items m₁.reserves.items →
      new ≡ entries_of m₁.board o → Enlisted bl ol el m₁ m' new → Shows bl ol el m' k (entered_state S e)
  unfolding entered_board entered
  entered-shown m m₁ m' k S e o new sound w passes u done f made =
      let b = S.board in
      let n = b.counters.number in
      let up = sound.row.rising in
      let did = subst (λ (v : Board). Enters e o v m₁.board m.reserves.items m₁.reserves.items) w.board done in
      let is : m₁.board ≡ entered_board b e = did.board (bounded k S sound) passes.few in
      let self : n ≤ n = omega arith in
      shows_more bl ol el m m₁ m' k S (entered_state S e) (entered e n b.counters.stamp (entry_price b e.side e.price)) new n up self w refl
      (λ p i. earlier-stands b e p (ascends-in 1 n b.orders p up i).1)
      (side-room k b e Bid passes.side) (side-room k b e Offer passes.side) passes.ends u is
      (subst (λ (v : Board). Reserved (write n e.reserve S.hidden) v.orders m₁.reserves.items) is
      (did.reserves 1 S.hidden passes.few up w.reserves))
      (f ∙ ap (λ (v : Board). entries_of v o) is ∙ ap (λ (x : Order). entries_of (entered_board b e) x) did.order) made

  pub entry_done : (m m₁ m' : Memory L B O E) (k : Opening) (S : State) (e : OrderEntry) (o : Order) (new : Entries) → Sound k S →
      Screens m.settings m.board e None →
      Ok tt ≡ refused_if (leb (room_for k e.side) (count (on e.side) S.board.orders)) Full →
      Ok tt ≡ refused_if (is_some e.end && leb k.ends (count ending S.board.orders)) Full →
      Shows bl ol el m k S → Untouched bl ol el m m₁ →
      Enters e o m.board m₁.board m.reserves.items m₁.reserves.items →
      new ≡ entries_of m₁.board o → Enlisted bl ol el m₁ m' new →
      Replies bl ol el m' k (Ok (Entered o.number)) (step k S (Entry e))
  unfolding step line_full entered
  entry_done m m₁ m' k S e o new sound screens x y w u done f made =
      let none : Refusal-is k S e None = refusal_is m k S e None false w screens (none-full _ _ (passed _ _ x) (passed _ _ y)) in
      accepted bl ol el m' k S _ _ _ _ none
      (ap (λ (z : Order). Ok (Entered z.number)) done.order ∙ ap (λ (v : Board). Ok (Entered v.counters.number)) w.board)
      (entered-shown m m₁ m' k S e o new sound w (entry-passes k S.board e none) u done f made)
