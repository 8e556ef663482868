-- The privileges of the FBS Period: how they are earned, carried, freed and lost. Assumes nothing.
use Rattle.std.specs.Prelude.{ℕ, Bool, true, false, cond, ◌&&◌, List, Some, None, Option, ◌==◌, nat_le, nat_lt}
use Rattle.market.specs.declared.order.Side.{Side}
use Rattle.market.specs.declared.order.Order.{Order}
use Rattle.market.specs.declared.state.Priority.{Priority}
use Rattle.market.specs.declared.state.Priority.TheVariants.{First, Second}
use Rattle.market.specs.declared.state.Carrier.{Carrier}
use Rattle.market.specs.declared.state.Carrier.TheVariants.{Free, Order as By, Gone}
use Rattle.market.specs.declared.state.Completion.{Completion}
use Rattle.market.specs.declared.state.Privilege.{Privilege}
use Rattle.rules.specs.Base.{is_some, find, first}
use Rattle.rules.specs.Board.{Table, lookup, place, table, of_trader}

-- ---- in the session

abbrev pub first_completion : Option Completion → ℕ → Side → Completion → Table Completion → Table Completion
first_completion None t s c cs = place t s c cs
first_completion (Some d) t s c cs = cs

-- an order of the trader was filled whole: only his first on a side counts
unfoldable pub completed : ℕ → Side → Completion → Table Completion → Table Completion
completed t s c cs = first_completion (lookup cs t s) t s c cs

-- ---- at the session's end

-- filled in part in the session
abbrev pub in_part : Order → Bool
in_part o = is_some o.first

abbrev pub sooner : Option ℕ → Option ℕ → Bool
sooner None b = false
sooner (Some a) None = true
sooner (Some a) (Some b) = nat_lt a b

-- the first had its first fill in the session before the second
abbrev pub filled_sooner : Order → Order → Bool
filled_sooner o p = sooner o.first p.first

abbrev pub as_carrier : Option Order → Carrier
as_carrier None = Free
as_carrier (Some o) = By o.number

-- Priority 2: the fill that completed the trader's first whole order earned it; his lowest-numbered order since then carries it
abbrev pub second_priority : Option Completion → ℕ → Side → List Order → Option Privilege
second_priority None t s os = None
second_priority (Some c) t s os =
    Some (record {
      priority = Second;
      earned = c.fill;
      carrier = as_carrier (find (λ o. of_trader t s o && nat_le c.number o.number) os);
    })

abbrev pub first_priority : Option ℕ → Order → Option Privilege
first_priority None o = None
first_priority (Some n) o = Some (record { priority = First; earned = n; carrier = By o.number })

-- Priority 1: the order with the trader's earliest fill carries it, by that fill's number; otherwise he may have Priority 2
abbrev pub earned_by : Option Order → Option Completion → ℕ → Side → List Order → Option Privilege
earned_by None c t s os = second_priority c t s os
earned_by (Some o) c t s os = first_priority o.first o

unfoldable pub earned : List Order → Table Completion → ℕ → Side → Option Privilege
earned os cs t s = earned_by (first (λ o. of_trader t s o && in_part o) filled_sooner os) (lookup cs t s) t s os

-- what every trader has earned on each side
unfoldable pub granted : List Order → Table Completion → Table Privilege
granted os cs = table (earned os cs)

-- ---- in the FBS Period

abbrev pub held : Carrier → Privilege → Privilege
held c p = record { priority = p.priority; earned = p.earned; carrier = c }

abbrev pub taken_by : ℕ → Carrier → Privilege → Privilege
taken_by n Free p = held (By n) p
taken_by n (By m) p = p
taken_by n Gone p = p

-- a privilege that no order has carried goes to order n
abbrev pub taken : ℕ → Privilege → Privilege
taken n p = taken_by n p.carrier p

-- a Priority 1 may be carried again; a Priority 2 is gone
abbrev pub freed_to : Priority → Carrier
freed_to First = Free
freed_to Second = Gone

abbrev pub freed_by : ℕ → Carrier → Privilege → Privilege
freed_by n Free p = p
freed_by n (By m) p = cond (m == n) (held (freed_to p.priority) p) p
freed_by n Gone p = p

-- order n, which may have carried it, was cancelled or removed
abbrev pub freed : ℕ → Privilege → Privilege
freed n p = freed_by n p.carrier p

abbrev pub lost_by : ℕ → Carrier → Privilege → Privilege
lost_by n Free p = p
lost_by n (By m) p = cond (m == n) (held Gone p) p
lost_by n Gone p = p

-- order n, which may have carried it, was filled whole or re-priced better than the session's price
abbrev pub lost : ℕ → Privilege → Privilege
lost n p = lost_by n p.carrier p

abbrev pub adjusted : Option Privilege → (Privilege → Privilege) → ℕ → Side → Table Privilege → Table Privilege
adjusted None f t s ps = ps
adjusted (Some p) f t s ps = place t s (f p) ps

-- what the trader has on the side is changed
unfoldable pub adjust : (Privilege → Privilege) → ℕ → Side → Table Privilege → Table Privilege
adjust f t s ps = adjusted (lookup ps t s) f t s ps
