-- What a check of a call answers. Assumes nothing.
use Rattle.std.specs.Prelude.{◌≡◌, Bool, true, false, Some, None, Ok, Err, Option, Result}
use Rattle.market.specs.declared.order.Order.{Order}
use Rattle.market.specs.declared.refusal.Refusal.{Refusal}

-- a test that passes is a fault
abbrev pub refused_if : {F : Type 0} → Bool → F → Result (Unit {0}) F
refused_if true f = Err f
refused_if false f = Ok tt

-- the refusal that the rules name, if any
abbrev pub Answers : Option Refusal → Result (Unit {0}) Refusal → Type 0
Answers refusal (Ok u) = refusal ≡ None
Answers refusal (Err r) = refusal ≡ Some r

-- the refusal that the rules name, or the order that the call is about
abbrev pub Finds : Option Refusal → Option Order → Result Order Refusal → Type 0
Finds refusal order (Ok o) = (refusal ≡ None) × (order ≡ Some o)
Finds refusal order (Err r) = refusal ≡ Some r
