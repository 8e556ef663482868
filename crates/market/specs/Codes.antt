-- The bytes that stand for sides, types and causes in a message, and the words that they print as. Assumes nothing.
use Rattle.std.specs.Prelude.{ℕ, List, codes, cond, not, Ok, Err, Result, ◌==◌, nat_lt}
use Rattle.market.specs.Tenors.{within}
use Rattle.market.specs.declared.order.Side.{Side}
use Rattle.market.specs.declared.order.Side.TheVariants.{Bid, Offer}
use Rattle.market.specs.declared.order.OrderType.{OrderType}
use Rattle.market.specs.declared.order.OrderType.TheVariants.{FaS, FaK, FaKI}
use Rattle.market.specs.declared.record.Cause.{Cause}
use Rattle.market.specs.declared.record.Cause.TheVariants.{FaKI as WasFaKI, FaK as WasFaK, End}
use Rattle.market.specs.declared.refusal.MessageFault.{MessageFault}
use Rattle.market.specs.declared.refusal.MessageFault.TheVariants.{Kind, Side as NoSide, OrderType as NoType}

abbrev pub side_byte : Side → ℕ
side_byte Bid = 0
side_byte Offer = 1

abbrev pub type_byte : OrderType → ℕ
type_byte FaS = 0
type_byte FaK = 1
type_byte FaKI = 2

abbrev pub cause_byte : Cause → ℕ
cause_byte WasFaKI = 1
cause_byte WasFaK = 2
cause_byte End = 3

abbrev pub side_of : ℕ → Side
side_of b = cond (b == 0) Bid Offer

abbrev pub type_of : ℕ → OrderType
type_of b = cond (b == 0) FaS (cond (b == 1) FaK FaKI)

abbrev pub cause_of : ℕ → Cause
cause_of b = cond (b == 1) WasFaKI (cond (b == 2) WasFaK End)

abbrev pub side_in : ℕ → Result Side MessageFault
side_in b = cond (nat_lt 1 b) (Err NoSide) (Ok (side_of b))

abbrev pub type_in : ℕ → Result OrderType MessageFault
type_in b = cond (nat_lt 2 b) (Err NoType) (Ok (type_of b))

-- a removal for a cause that there is none is of no kind that there is
abbrev pub cause_in : ℕ → Result Cause MessageFault
cause_in b = cond (not (within 1 3 b)) (Err Kind) (Ok (cause_of b))

-- ---- in words

abbrev pub side_word : Side → List ℕ
side_word Bid = codes "bid"
side_word Offer = codes "offer"

abbrev pub type_word : OrderType → List ℕ
type_word FaS = codes "FaS"
type_word FaK = codes "FaK"
type_word FaKI = codes "FaKI"

abbrev pub cause_word : Cause → List ℕ
cause_word WasFaKI = codes "FaKI"
cause_word WasFaK = codes "FaK"
cause_word End = codes "end"
