-- The board and the reserves after an entry and after a change, put together from their parts. Assumes nothing.
use Rattle.std.proofs.Common.{◌≡◌, ℕ, suc, ◌+◌, ◌≤◌, min, Bool, false, true, cond, List, [], ◌∷◌, ◌++◌, length, Some, Option, refl, ap, ◌∙◌, inl, arith}
use Rattle.std.specs.Prelude.{Result, Ok, Err, IsOk, OnOk, ◌↔◌}
use Rattle.market.specs.declared.order.Order.{Order}
use Rattle.market.specs.declared.state.Counters.{Counters}
use Rattle.market.specs.declared.call.OrderEntry.{OrderEntry}
use Rattle.market.specs.declared.call.OrderChange.{OrderChange}
use Rattle.rules.specs.Base.{each, write}
use Rattle.rules.specs.Board.{Board}
use Rattle.rules.specs.Rising.{Ascends}
use Rattle.rules.specs.Refusing.{entry_price}
use Rattle.rules.specs.Calls.{awaiting, entered, entered_board, takes_stamp, changed, changed_board}
use Rattle.rules.specs.Fills.{replace}
use Rattle.rules.proofs.Rows.{write-here, write-there, ascends-in}
use Rattle.effects.specs.Effects.{claimed_board, forfeited_board}
use Rattle.board.proofs.Placed.{reserve_of}

-- a count that is not near its type's end
pub one_more : (n most : ℕ) {r : ℕ} → r ≡ min (n + 1) most → n + 1 ≤ most → r ≡ n + 1
one_more n most e h = omega arith

abbrev counts : ℕ → ℕ → ℕ → ℕ → Option ℕ → Counters
counts n s f w i = record { number = n; stamp = s; fills = f; writes = w; incoming = i }

pub same-counts : {n n' s s' f w w' : ℕ} {i i' : Option ℕ} → n ≡ n' → s ≡ s' → w ≡ w' → i ≡ i' → counts n s f w i ≡ counts n' s' f w' i'
same-counts a b c d = cc

-- what a push leaves where there is room
pub pushed : {E P : Type 0} (r : Result (Unit {0}) E) {room : Type 0} → (IsOk r ↔ room) → OnOk r P → room → P
pushed (Ok u) fits done l = done
pushed (Err e) fits done l = let h : false ≡ true = fits.1 l in cc

-- ---- an entry

-- with order o pushed, which has taken what it may
abbrev pub entering : Board → Order → Board
entering b o =
    record {
      orders = b.orders ++ (o ∷ []);
      phase = b.phase;
      clock = awaiting b.clock.time b.clock;
      counters = counts (b.counters.number + 1) (b.counters.stamp + 1) b.counters.fills (b.counters.writes + 1) (Some o.number);
      session = b.session;
      completions = b.completions;
      privileges = b.privileges;
    }

pub entered-board : (b x : Board) (e : OrderEntry) (o : Order) →
    o ≡ entered e b.counters.number b.counters.stamp (entry_price b e.side e.price) → x ≡ claimed_board b e o →
    entering x o ≡ entered_board b e
unfolding entered entered_board
entered-board b x e o p q =
    ap (λ (y : Board). entering y o) (q ∙ ap (claimed_board b e) p) ∙
    ap (entering (claimed_board b e (entered e b.counters.number b.counters.stamp (entry_price b e.side e.price)))) p

pub entered-number : (e : OrderEntry) (n s : ℕ) (b : Board) {o : Order} → o ≡ entered e n s (entry_price b e.side e.price) → o.number ≡ n
unfolding entered
entered-number e n s b p = ap (λ (x : Order). x.number) p

-- a reserve written for a number above all others
below : (n v : ℕ) (h : ℕ → ℕ) (k m : ℕ) (os : List Order) → m ≤ n → Ascends k m os →
    each (reserve_of (write n v h)) os ≡ each (reserve_of h) os
unfolding each
below n v h k m [] l a = refl
below n v h k m (o ∷ os) l a =
    let i = ascends-in k m (o ∷ os) o a (inl refl) in
    let e = write-there n v h o.number (λ q. omega (arith, i.1)) in
    let f = below n v h (suc o.number) m os l a.1 in
    cc

each-push : (f : Order → ℕ) (os : List Order) (o : Order) → each f (os ++ (o ∷ [])) ≡ each f os ++ (f o ∷ [])
unfolding each
each-push f [] o = refl
each-push f (p ∷ os) o = ap (λ xs. f p ∷ xs) (each-push f os o)

-- the reserves beside the orders, after one more with the reserve v
pub reserves-more : (n v : ℕ) (h : ℕ → ℕ) (k : ℕ) (os : List Order) (o : Order) → o.number ≡ n → Ascends k n os →
    each (reserve_of (write n v h)) (os ++ (o ∷ [])) ≡ each (reserve_of h) os ++ (v ∷ [])
reserves-more n v h k os o e a =
    let w = write-here n v h o.number e in
    let b = below n v h k n os (omega arith) a in
    each-push (reserve_of (write n v h)) os o ∙ ap (λ xs. xs ++ (write n v h o.number ∷ [])) b ∙ ap (λ x. each (reserve_of h) os ++ (x ∷ [])) w

pub each-length : (f : Order → ℕ) (os : List Order) → length (each f os) ≡ length os
unfolding each
each-length f [] = refl
each-length f (o ∷ os) = ap suc (each-length f os)

-- ---- a change

-- with order o changed in place
abbrev pub changing : ℕ → ℕ → Board → Board
changing stamp number b =
    record {
      orders = b.orders;
      phase = b.phase;
      clock = awaiting b.clock.time b.clock;
      counters = counts b.counters.number stamp b.counters.fills (b.counters.writes + 1) (Some number);
      session = b.session;
      completions = b.completions;
      privileges = b.privileges;
    }

abbrev pub with_orders : List Order → Board → Board
with_orders os b =
    record {
      orders = os;
      phase = b.phase;
      clock = b.clock;
      counters = b.counters;
      session = b.session;
      completions = b.completions;
      privileges = b.privileges;
    }

pub changed-board : (b x : Board) (c : OrderChange) (o : Order) (os : List Order) →
    os ≡ replace o.number (Some (changed c (takes_stamp c o) b.counters.stamp o)) b.orders →
    x ≡ forfeited_board (with_orders os b) o c.price →
    changing (cond (takes_stamp c o) (b.counters.stamp + 1) b.counters.stamp) o.number x ≡ changed_board b c o
unfolding changed_board
changed-board b x c o os p q =
    ap (changing (cond (takes_stamp c o) (b.counters.stamp + 1) b.counters.stamp) o.number)
    (q ∙ ap (λ (ys : List Order). forfeited_board (with_orders ys b) o c.price) p)

pub changed-number : (c : OrderChange) (anew : Bool) (s : ℕ) (o : Order) → (changed c anew s o).number ≡ o.number
unfolding changed
changed-number c anew s o = refl
