-- How a line is kept in step with the orders: what each function leaves in it, and that it lists the orders as they are then.
-- Assumes nothing.
use Rattle.std.specs.Prelude.{◌≡◌, ℕ, ◌<◌, ◌≤◌, Bool, true, cond, List, [], ◌∷◌, ◌++◌, is_ok, Some, None, Ok, Err, Option, Result, nat_le}
use Rattle.line.specs.Held.{with_entry, without}
use Rattle.line.specs.Answers.{put_answer, take_answer}
use Rattle.line.specs.declared.lines.Line.{Ghosts}
use Rattle.line.specs.declared.lines.LineFault.{LineFault}
use Rattle.line.specs.declared.lines.LineFault.TheVariants.{Full}
use Rattle.market.specs.declared.order.Order.{Order}
use Rattle.rules.specs.Base.{is_some, count, each}
use Rattle.rules.specs.Board.{Board}
use Rattle.rules.specs.Fills.{replace}
use Rattle.rules.specs.Members.{In}
use Rattle.rules.specs.Rising.{Ascends, Keeps}
use Rattle.queues.specs.Lists.{Lists}

module _ {X : Type 0} (ahead : X → X → Bool) where
  -- with the entry, if there is one and the line takes it
  abbrev pub added : ℕ → Option X → List X → List X
  added room None xs = xs
  added room (Some x) xs = cond (is_ok (put_answer ahead x room xs)) (with_entry ahead x xs) xs

  -- without the entry, if there is one and the line holds it
  abbrev pub taken : Option X → List X → List X
  taken None xs = xs
  taken (Some x) xs = cond (is_ok (take_answer ahead x xs)) (without ahead x xs) xs

  -- with one after another
  abbrev pub filled : ℕ → List (Option X) → List X → List X
  filled room [] xs = xs
  filled room (e ∷ es) xs = filled room es (added room e xs)

-- the entry of an order, if there is one
abbrev pub entry_of : {X : Type 0} → (Order → Option X) → Option Order → Option X
entry_of entry None = None
entry_of entry (Some o) = entry o

-- for one more of n entries there is room, or not
abbrev pub room_answer : ℕ → ℕ → Result (Unit {0}) LineFault
room_answer room n = cond (nat_le room n) (Err Full) (Ok tt)

-- `mine` are the orders that have an entry in the line
module _ {L X : Type 0} (ahead : X → X → Bool) (mine : Order → Bool) (entry : Board → Order → Option X) (g : Ghosts L X) (l l' : L) where
  -- the line lists one order more, with a number above all others, if there is room for its entry
  pub record Enlists (new : Option X) : Type 0 where
    pub room : g.room l' ≡ g.room l
    pub entries : g.entries l' ≡ added ahead (g.room l) new (g.entries l)
    pub lists : (b : Board) (os : List Order) (o : Order) (m : ℕ) → Ascends 1 m os → m ≤ o.number → entry b o ≡ new →
        (mine o ≡ true → count mine os < g.room l) → Lists ahead g l os (entry b) → Lists ahead g l' (os ++ (o ∷ [])) (entry b)

  -- it lists one order fewer
  pub record Unlists (old : Option X) : Type 0 where
    pub room : g.room l' ≡ g.room l
    pub entries : g.entries l' ≡ taken ahead old (g.entries l)
    pub lists : (b : Board) (os : List Order) (o : Order) (m : ℕ) → Ascends 1 m os → In o os → entry b o ≡ old →
        Lists ahead g l os (entry b) → Lists ahead g l' (replace o.number None os) (entry b)

  -- it lists r, if anything, in place of o; the entries of the others are the same on both boards
  pub record Relists (old new : Option X) : Type 0 where
    pub room : g.room l' ≡ g.room l
    pub entries : g.entries l' ≡ added ahead (g.room l) new (taken ahead old (g.entries l))
    pub lists : (b b' : Board) (os : List Order) (o : Order) (r : Option Order) (m : ℕ) → Ascends 1 m os → In o os → Keeps o.number r →
        entry b o ≡ old → entry_of (entry b') r ≡ new → (is_some new ≡ true → is_some old ≡ true) →
        ((p : Order) → In p os → ¬ (p.number ≡ o.number) → entry b' p ≡ entry b p) →
        Lists ahead g l os (entry b) → Lists ahead g l' (replace o.number r os) (entry b')

  -- whatever it held, it lists all orders of the board, if there is room for their entries
  pub record Refills (b : Board) : Type 0 where
    pub room : g.room l' ≡ g.room l
    pub entries : g.entries l' ≡ filled ahead (g.room l) (each (entry b) b.orders) []
    pub lists : (m : ℕ) → Ascends 1 m b.orders → count mine b.orders ≤ g.room l → Lists ahead g l' b.orders (entry b)
