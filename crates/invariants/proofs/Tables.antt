-- Tables keep their length. Assumes nothing.
use Rattle.std.proofs.Common.{◌≡◌, ℕ, zero, suc, ◌+◌, ◌*◌, ◌<◌, ◌≤◌, Bool, true, false, leb, length, Some, None, Option, refl, arith, length-set}
use Rattle.std.proofs.lemmas.Bool.{and_parts, leb-true}
use Rattle.market.specs.declared.order.Side.{Side}
use Rattle.market.specs.declared.order.Side.TheVariants.{Bid, Offer}
use Rattle.market.specs.declared.order.Order.{Order}
use Rattle.market.specs.declared.state.Completion.{Completion}
use Rattle.market.specs.declared.state.Privilege.{Privilege}
use Rattle.market.specs.declared.state.Phase.{Phase}
use Rattle.market.specs.declared.state.Phase.TheVariants.{Open, Timed, Rolling, Fbs}
use Rattle.market.specs.declared.call.OrderEntry.{OrderEntry}
use Rattle.rules.specs.Board.{Board, Table, seat, lookup, place, rows, table}
use Rattle.rules.specs.Privileges.{first_completion, completed, granted, earned, lost, adjusted, adjust}
use Rattle.rules.specs.Fills.{Remainder, stays, restocks, leaves, completions_after, privileges_after}
use Rattle.rules.specs.Draws.{privileges_in}
use Rattle.rules.specs.Refusing.{is_trader}
use Rattle.rules.specs.Calls.{taken_at, lost_at}

module _ {X : Type 0} where
  rows-length : (t k : ℕ) (f : ℕ → Side → Option X) → length (rows t k f) ≡ 2 * k
  unfolding rows
  rows-length t zero f = refl
  rows-length t (suc k) f = let e = rows-length (t + 1) k f in omega arith

  pub table-length : (f : ℕ → Side → Option X) → length (table f) ≡ 258
  table-length f = rows-length 0 129 f

  pub place-length : (t : ℕ) (s : Side) (x : X) (xs : Table X) → length (place t s x xs) ≡ length xs
  unfolding place
  place-length t s x xs = length-set xs (seat t s) (Some x)

completed-length : (t : ℕ) (s : Side) (c : Completion) (cs : Table Completion) → length (completed t s c cs) ≡ length cs
unfolding completed
completed-length t s c cs = go (lookup cs t s)
  where
    go : (r : Option Completion) → length (first_completion r t s c cs) ≡ length cs
    go None = place-length t s c cs
    go (Some d) = refl

pub completions-length : (f : Remainder) (session : Bool) (t : ℕ) (s : Side) (c : Completion) (cs : Table Completion) →
    length (completions_after f session t s c cs) ≡ length cs
completions-length stays session t s c cs = refl
completions-length (restocks m) session t s c cs = refl
completions-length leaves false t s c cs = refl
completions-length leaves true t s c cs = completed-length t s c cs

pub adjust-length : (f : Privilege → Privilege) (t : ℕ) (s : Side) (ps : Table Privilege) → length (adjust f t s ps) ≡ length ps
unfolding adjust
adjust-length f t s ps = go (lookup ps t s)
  where
    go : (r : Option Privilege) → length (adjusted r f t s ps) ≡ length ps
    go None = refl
    go (Some p) = place-length t s (f p) ps

pub privileges-length : (f : Remainder) (o : Order) (ps : Table Privilege) → length (privileges_after f o ps) ≡ length ps
privileges-length stays o ps = refl
privileges-length (restocks m) o ps = refl
privileges-length leaves o ps = adjust-length (lost o.number) o.trader o.side ps

pub taken-length : (q : Bool) (n : ℕ) (e : OrderEntry) (ps : Table Privilege) → length (taken_at q n e ps) ≡ length ps
taken-length false n e ps = refl
taken-length true n e ps = adjust-length _ e.trader e.side ps

pub lost-length : (q : Bool) (o : Order) (ps : Table Privilege) → length (lost_at q o ps) ≡ length ps
lost-length false o ps = refl
lost-length true o ps = adjust-length _ o.trader o.side ps

pub turned-length : (p : Phase) (b : Board) → length (privileges_in p b) ≡ 258
unfolding granted
turned-length Open b = table-length (λ t s. None)
turned-length Timed b = table-length (λ t s. None)
turned-length Rolling b = table-length (earned b.orders b.completions)
turned-length Fbs b = table-length (λ t s. None)

-- ---- every trader has a place

pub trader-range : (t : ℕ) → is_trader t ≡ true → (1 ≤ t) × (t ≤ 128)
trader-range t h = let p = and_parts (leb 1 t) (leb t 128) h in (leb-true 1 t p.0, leb-true t 128 p.1)

pub seat-range : (t : ℕ) (s : Side) → is_trader t ≡ true → seat t s < 258
seat-range t Bid h = let l = (trader-range t h).1 in omega arith
seat-range t Offer h = let l = (trader-range t h).1 in omega arith
