-- Which tenors and periods there are, and the lot of each tenor. Assumes nothing.
use Rattle.std.specs.Prelude.{ℕ, Bool, cond, ◌&&◌, ◌||◌, ◌==◌, nat_le}

-- a number from the first to the last, both among them
abbrev pub within : ℕ → ℕ → ℕ → Bool
within first last n = nat_le first n && nat_le n last

-- tenors of 1 to 30 and of 40 years, and periods of 1 to 60,000 milliseconds
abbrev pub lawful : ℕ → ℕ → ℕ → ℕ → Bool
lawful tenor timed rolling fbs =
    (within 1 30 tenor || tenor == 40) && (within 1 60000 timed && (within 1 60000 rolling && within 1 60000 fbs))

abbrev pub lot_of : ℕ → ℕ
lot_of tenor =
    cond (nat_le tenor 2) 250
    (cond (nat_le tenor 3) 150
    (cond (nat_le tenor 5) 100
    (cond (nat_le tenor 7) 75
    (cond (nat_le tenor 12) 50
    (cond (nat_le tenor 30) 25 10)))))
