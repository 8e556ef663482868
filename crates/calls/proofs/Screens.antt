-- The tests of an entry: those of the board first, then the rooms of the lines. Assumes nothing.
use Rattle.std.proofs.Common.{◌≡◌, ℕ, ◌+◌, Bool, true, false, cond, not, ◌&&◌, ◌||◌, leb, List, [], ◌∷◌, ◌++◌, length, Some, None, Ok, Err, Option, sym, refl, ap, ◌∙◌, arith}
use Rattle.std.proofs.lemmas.Bool.Decides.{nat_tests}
use Rattle.std.proofs.lemmas.Bool.{true≢false}
use Rattle.line.specs.declared.lines.LineFault.TheVariants.{Full}
use Rattle.market.specs.declared.settings.Settings.{Settings}
use Rattle.market.specs.declared.order.Side.{Side}
use Rattle.market.specs.declared.order.Side.TheVariants.{Bid, Offer}
use Rattle.market.specs.declared.order.Order.{Order}
use Rattle.market.specs.declared.call.OrderEntry.{OrderEntry}
use Rattle.market.specs.declared.refusal.BookFault.TheVariants.{NotQuiet, Trader, Price, Size, End, Own, Writes, Orders}
use Rattle.market.specs.declared.refusal.Refusal.{Refusal}
use Rattle.market.specs.declared.refusal.Refusal.TheVariants.{Book, Line}
use Rattle.rules.specs.Base.{is_some, or_next, some_if, verdict, count}
use Rattle.rules.specs.Board.{Opening, Board, on}
use Rattle.rules.specs.Refusing.{most_writes, most_orders, is_trader, is_price, is_size, bad_sizes, untimely, own_meets, room_for, ending, line_full, entry_price, entry_tests, entry_refusal}
use Rattle.admission.specs.Checks.{refused_if}
use Rattle.queues.specs.Changes.{room_answer}

-- ---- one test more

module _ {A : Type 0} where
  tested : (q : Bool) (x : A) (r s : Option A) → some_if q x (or_next r s) ≡ or_next (some_if q x r) s
  tested true x r s = refl
  tested false x r s = refl

  verdict-last : (cs : List (Bool × A)) (q : Bool) (x : A) → verdict (cs ++ ((q, x) ∷ [])) ≡ or_next (verdict cs) (some_if q x None)
  verdict-last [] q x = refl
  verdict-last (c ∷ cs) q x =
      ap (λ (r : Option A). some_if c.0 c.1 r) (verdict-last cs q x) ∙ tested c.0 c.1 (verdict cs) (some_if q x None)

  nothing-next : (r : Option A) → or_next r None ≡ r
  nothing-next None = refl
  nothing-next (Some x) = refl

-- ---- the tests of the board

-- rooms for one order more than there are
roomy : Settings → List Order → Opening
roomy s os = record { settings = s; bids = count (on Bid) os + 1; offers = count (on Offer) os + 1; ends = count ending os + 1 }

past : (n : ℕ) → leb (n + 1) n ≡ false
past n = grind (arith, nat_tests)

side-roomy : (s : Settings) (os : List Order) (t : Side) → leb (room_for (roomy s os) t) (count (on t) os) ≡ false
unfolding roomy
side-roomy s os Bid = past (count (on Bid) os)
side-roomy s os Offer = past (count (on Offer) os)

neither : (a b c : Bool) → a ≡ false → b && c ≡ false → a || (b && c) ≡ false
neither true b c p q = p
neither false b c p q = q

no_end : (a b : Bool) → b ≡ false → a && b ≡ false
no_end true b p = p
no_end false b p = refl

never-full : (s : Settings) (os : List Order) (t : Side) (end : Option ℕ) → line_full (roomy s os) os t end ≡ false
unfolding line_full roomy
never-full s os t end =
    neither (leb (room_for (roomy s os) t) (count (on t) os)) (is_some end) (leb (count ending os + 1) (count ending os)) (side-roomy s os t)
    (no_end (is_some end) (leb (count ending os + 1) (count ending os)) (past (count ending os)))

board_tests : Opening → Board → OrderEntry → List (Bool × Refusal)
board_tests k b e =
    (not b.clock.quiet, Book NotQuiet) ∷
    (not (is_trader e.trader), Book Trader) ∷
    (not (is_price e.price), Book Price) ∷
    (bad_sizes k e.displayed (is_size k e.reserve), Book Size) ∷
    (untimely b.clock.time e.end, Book End) ∷
    (own_meets b.orders e.trader e.side (entry_price b e.side e.price), Book Own) ∷
    (leb most_writes b.counters.writes, Book Writes) ∷
    (leb most_orders (length b.orders), Book Orders) ∷ []

lines-last : (k : Opening) (b : Board) (e : OrderEntry) (full : Bool) → line_full k b.orders e.side e.end ≡ full →
    entry_refusal k b e (is_size k e.reserve) ≡ or_next (verdict (board_tests k b e)) (some_if full (Line Full) None)
unfolding entry_refusal entry_tests board_tests
lines-last k b e full h =
    verdict-last (board_tests k b e) (line_full k b.orders e.side e.end) (Line Full) ∙
    ap (λ q. or_next (verdict (board_tests k b e)) (some_if q (Line Full) None)) h

same_tests : (k : Opening) (os : List Order) (b : Board) (e : OrderEntry) → board_tests (roomy k.settings os) b e ≡ board_tests k b e
unfolding board_tests is_size roomy
same_tests k os b e = refl

-- the refusal of an entry at any opening with these settings whose lines have room
abbrev pub Screens : Settings → Board → OrderEntry → Option Refusal → Type 0
Screens s b e q =
    (k : Opening) → k.settings ≡ s → false ≡ line_full k b.orders e.side e.end → entry_refusal k b e (is_size k e.reserve) ≡ q

-- what the board's tests find goes before a full line
pub screened : (k : Opening) (b : Board) (s : Settings) (e : OrderEntry) (q : Option Refusal) (full : Bool) → k.settings ≡ s → Screens s b e q →
    line_full k b.orders e.side e.end ≡ full → entry_refusal k b e (is_size k e.reserve) ≡ or_next q (some_if full (Line Full) None)
unfolding roomy
screened k b s e q full h screens l =
    let k₀ = roomy k.settings b.orders in
    let free = never-full k.settings b.orders e.side e.end in
    let board : verdict (board_tests k b e) ≡ q =
    sym (nothing-next (verdict (board_tests k b e))) ∙
    sym (lines-last k₀ b e false free ∙ ap (λ (cs : List (Bool × Refusal)). or_next (verdict cs) None) (same_tests k b.orders b e)) ∙ screens k₀ h (sym free) in
    lines-last k b e full l ∙ ap (λ (r : Option Refusal). or_next r (some_if full (Line Full) None)) board

-- ---- the lines

pub either-full : (a b : Bool) → b ≡ true → a || b ≡ true
either-full true b p = refl
either-full false b p = p

pub side-full : (a b : Bool) → a ≡ true → a || b ≡ true
side-full true b p = refl
side-full false b p = absurd (true≢false (sym p))

pub none-full : (a b : Bool) → a ≡ false → b ≡ false → a || b ≡ false
none-full true b p q = p
none-full false b p q = q

pub room-told : (room n : ℕ) → room_answer room n ≡ refused_if (leb room n) Full
room-told room n = go (leb room n)
  where
    go : (q : Bool) → (cond q (Err Full) (Ok tt)) ≡ refused_if q Full
    go true = refl
    go false = refl
