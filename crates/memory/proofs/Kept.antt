-- What becomes of one order's privilege leaves the standing of every other order. Assumes nothing.
use Rattle.std.proofs.Common.{◌≡◌, ℕ, ◌<◌, Bool, true, false, cond, eqb, ◌≢◌, length, get_or, set, Some, None, Option, sym, refl, ap, ◌∙◌, ⊎_elim, arith, get_or-set_other, get_or-set_same}
use Rattle.std.proofs.lemmas.List.{get_or_past}
use Rattle.std.proofs.lemmas.Bool.Decides.{nat_tests}
use Rattle.std.proofs.lemmas.Bool.{cases_eq, cases_lt}
use Rattle.market.specs.declared.order.Side.{Side}
use Rattle.market.specs.declared.order.Order.{Order}
use Rattle.market.specs.declared.state.Phase.{Phase}
use Rattle.market.specs.declared.state.Phase.TheVariants.{Open, Timed, Rolling, Fbs}
use Rattle.market.specs.declared.state.Priority.{Priority}
use Rattle.market.specs.declared.state.Priority.TheVariants.{First as FirstPriority, Second as SecondPriority}
use Rattle.market.specs.declared.state.Carrier.{Carrier}
use Rattle.market.specs.declared.state.Carrier.TheVariants.{Free, Order as By, Gone}
use Rattle.market.specs.declared.state.Privilege.{Privilege}
use Rattle.market.specs.declared.standing.Standing.TheVariants.{Last}
use Rattle.market.specs.declared.standing.Standing.{Standing}
use Rattle.rules.specs.Base.{names}
use Rattle.rules.specs.Board.{Table, lookup, place, seat}
use Rattle.rules.specs.Standings.{plain, privileged, carrying, favoured, last_on, standing_in}
use Rattle.rules.specs.Privileges.{taken, taken_by, freed, freed_by, freed_to, held, lost, lost_by, adjusted, adjust}

-- the change is not seen by an order with another number
abbrev pub Unseen : ℕ → (Privilege → Privilege) → Type 0
Unseen n f = (q : Privilege) (p : Order) → ¬ (p.number ≡ n) → favoured (Some (f q)) p ≡ favoured (Some q) p

other-number : (m n : ℕ) → ¬ (m ≡ n) → eqb n m ≡ false
other-number m n h = grind (arith, nat_tests)

same_number : (m n : ℕ) → eqb m n ≡ true → m ≡ n
same_number m n h = grind (arith, nat_tests)

-- carried by n, an order of another number stands by its stamp
unseen-by : (n : ℕ) (q : Privilege) (p : Order) → ¬ (p.number ≡ n) → carrying (By n) q p ≡ plain p
unseen-by n q p h =
    let e : eqb n p.number ≡ false = other-number p.number n h in
    ap (λ b. cond b (privileged q.priority q.earned) (plain p)) e

taken-cases : (n : ℕ) (c : Carrier) (q : Privilege) (p : Order) → ¬ (p.number ≡ n) → q.carrier ≡ c →
    carrying (taken_by n c q).carrier (taken_by n c q) p ≡ carrying c q p
taken-cases n Free q p h e = unseen-by n (taken_by n Free q) p h
taken-cases n (By m) q p h e = ap (λ (c : Carrier). carrying c q p) e
taken-cases n Gone q p h e = ap (λ (c : Carrier). carrying c q p) e

pub taken-unseen : (n : ℕ) → Unseen n (taken n)
taken-unseen n q p h = taken-cases n q.carrier q p h refl

-- order n carries it no more
moved : (n m : ℕ) (x : Carrier) (b : Bool) (q : Privilege) (p : Order) → ¬ (p.number ≡ n) → ((y : Privilege) → carrying x y p ≡ plain p) →
    eqb m n ≡ b → q.carrier ≡ By m → carrying (cond b (held x q) q).carrier (cond b (held x q) q) p ≡ carrying (By m) q p
moved n m x true q p h v t e =
    v (held x q) ∙ sym (ap (λ (j : ℕ). carrying (By j) q p) (same_number m n t) ∙ unseen-by n q p h)
moved n m x false q p h v t e = ap (λ (c : Carrier). carrying c q p) e

freed-vacant : (k : Priority) (y : Privilege) (p : Order) → carrying (freed_to k) y p ≡ plain p
freed-vacant FirstPriority y p = refl
freed-vacant SecondPriority y p = refl

freed-cases : (n : ℕ) (c : Carrier) (q : Privilege) (p : Order) → ¬ (p.number ≡ n) → q.carrier ≡ c →
    carrying (freed_by n c q).carrier (freed_by n c q) p ≡ carrying c q p
freed-cases n Free q p h e = ap (λ (c : Carrier). carrying c q p) e
freed-cases n (By m) q p h e = moved n m (freed_to q.priority) (eqb m n) q p h (λ y. freed-vacant q.priority y p) refl e
freed-cases n Gone q p h e = ap (λ (c : Carrier). carrying c q p) e

pub freed-unseen : (n : ℕ) → Unseen n (freed n)
freed-unseen n q p h = freed-cases n q.carrier q p h refl

lost-cases : (n : ℕ) (c : Carrier) (q : Privilege) (p : Order) → ¬ (p.number ≡ n) → q.carrier ≡ c →
    carrying (lost_by n c q).carrier (lost_by n c q) p ≡ carrying c q p
lost-cases n Free q p h e = ap (λ (c : Carrier). carrying c q p) e
lost-cases n (By m) q p h e = moved n m Gone (eqb m n) q p h (λ y. refl) refl e
lost-cases n Gone q p h e = ap (λ (c : Carrier). carrying c q p) e

pub lost-unseen : (n : ℕ) → Unseen n (lost n)
lost-unseen n q p h = lost-cases n q.carrier q p h refl

-- ---- the table

-- what is there stands in the table
lookup-inside : (ps : Table Privilege) (i : ℕ) (q : Privilege) → get_or ps i None ≡ Some q → i < length ps
lookup-inside ps i q e = ⊎_elim (λ h. h) (λ h. absurd (nothing (sym (get_or_past ps i None h) ∙ e))) (cases_lt i (length ps))
  where
    none : Option Privilege
    none = None

    nothing : none ≡ Some q → ⊥
    nothing z = let zero-is-one : ◌≡◌ {A = ℕ} 0 1 = cc in omega arith

placed : (n : ℕ) (f : Privilege → Privilege) (ps : Table Privilege) (i j : ℕ) (q : Privilege) (p : Order) → Unseen n f → ¬ (p.number ≡ n) →
    get_or ps i None ≡ Some q → favoured (get_or (set ps i (Some (f q))) j None) p ≡ favoured (get_or ps j None) p
placed n f ps i j q p u h e = ⊎_elim same differs (cases_eq j i)
  where
    same : j ≡ i → favoured (get_or (set ps i (Some (f q))) j None) p ≡ favoured (get_or ps j None) p
    same z =
        ap (λ (k : ℕ). favoured (get_or (set ps i (Some (f q))) k None) p) z ∙
        ap (λ (x : Option Privilege). favoured x p) (get_or-set_same ps i (Some (f q)) None (lookup-inside ps i q e)) ∙ u q p h ∙
        ap (λ (x : Option Privilege). favoured x p) (sym e ∙ ap (λ (k : ℕ). get_or ps k None) (sym z))

    differs : j ≢ i → favoured (get_or (set ps i (Some (f q))) j None) p ≡ favoured (get_or ps j None) p
    differs z = ap (λ (x : Option Privilege). favoured x p) (get_or-set_other ps i j (Some (f q)) None z)

adjusted-unseen : (n : ℕ) (f : Privilege → Privilege) (t : ℕ) (s : Side) (ps : Table Privilege) (p : Order) (r : Option Privilege) →
    Unseen n f → ¬ (p.number ≡ n) → lookup ps t s ≡ r →
    favoured (lookup (adjusted r f t s ps) p.trader p.side) p ≡ favoured (lookup ps p.trader p.side) p
unfolding place
adjusted-unseen n f t s ps p None u h e = refl
adjusted-unseen n f t s ps p (Some q) u h e = placed n f ps (seat t s) (seat p.trader p.side) q p u h e

-- an order with another number stands as it stood
pub standing-unseen : (n : ℕ) (f : Privilege → Privilege) (t : ℕ) (s : Side) (ph : Phase) (x y : Option ℕ) (ps : Table Privilege) (p : Order) →
    Unseen n f → ¬ (p.number ≡ n) → standing_in ph x y (adjust f t s ps) p ≡ standing_in ph x y ps p
unfolding adjust
standing-unseen n f t s Open x y ps p u h = refl
standing-unseen n f t s Timed x y ps p u h = refl
standing-unseen n f t s Rolling x y ps p u h = refl
standing-unseen n f t s Fbs x y ps p u h =
    ap (λ (z : Standing). cond (names (last_on p.side x y) p.trader) (Last p.stamp) z)
    (adjusted-unseen n f t s ps p (lookup ps t s) u h refl)
