-- What is read along a line. Assumes nothing.
use Rattle.std.specs.Prelude.{ℕ, zero, suc, ◌+◌, Bool, cond, List, [], ◌∷◌, ℤ, Some, None, Option, nat_lt}
use Rattle.market.specs.declared.order.Order.{Order}
use Rattle.market.specs.declared.rank.EndTime.{EndTime}
use Rattle.rules.specs.Base.{eq_z, or_next, only_if}
use Rattle.rules.specs.Board.{ordered}
use Rattle.rules.specs.Fills.{displayed_of}

-- the price of an entry, if there is one
abbrev pub price_of : {X : Type 0} → (X → ℤ) → Option X → Option ℤ
price_of price None = None
price_of price (Some x) = Some (price x)

-- the order that an entry names, if there is one
abbrev pub order_of : {X : Type 0} → (X → ℕ) → List Order → Option X → Option Order
order_of number os None = None
order_of number os (Some x) = ordered (number x) os

-- an order, if there is one, with a time
abbrev pub with_time : Option Order → ℕ → Option (Order × ℕ)
with_time None t = None
with_time (Some o) t = Some (o, t)

-- the order that an end time names, with that time, if there is one and it is by the wished time
abbrev pub ending_by : ℕ → List Order → Option EndTime → Option (Order × ℕ)
ending_by wished os None = None
ending_by wished os (Some x) = cond (nat_lt wished x.end) None (with_time (ordered x.number os) x.end)

-- an order, if there is one and it passes
abbrev pub passing : (Order → Bool) → Option Order → Option Order
passing p None = None
passing p (Some o) = only_if (p o) (Some o)

-- the order that an entry names, if it passes
abbrev pub choice : {X : Type 0} → (Order → Bool) → (X → ℕ) → List Order → X → Option Order
choice p number os x = passing p (ordered (number x) os)

-- the first order that an entry leads to
abbrev pub walk : {X : Type 0} → (X → Option Order) → List X → Option Order
walk f [] = None
walk f (x ∷ xs) = or_next (f x) (walk f xs)

-- the total of what the first k entries show, as far as they are at p
abbrev pub shown_at : {X : Type 0} → (X → ℤ) → (X → ℕ) → ℕ → ℤ → List X → ℕ
shown_at price shown zero p xs = 0
shown_at price shown (suc k) p [] = 0
shown_at price shown (suc k) p (x ∷ xs) = cond (eq_z (price x) p) (shown x + shown_at price shown k p xs) 0

-- what the order that an entry names displays
abbrev pub displayed_by : {X : Type 0} → (X → ℕ) → List Order → X → ℕ
displayed_by number os x = displayed_of (ordered (number x) os)
