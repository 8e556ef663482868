-- Settings are made exactly of lawful tenors and periods. Assumes nothing.
use Rattle.std.specs.Prelude.{◌≡◌, ℕ, false, Ok, Err, Result}
use Rattle.market.specs.Tenors.{lawful}
use Rattle.market.specs.declared.settings.Settings.{Settings}
use Rattle.market.specs.declared.refusal.Refusal.{Refusal}
use Rattle.market.specs.declared.refusal.Refusal.TheVariants.{Settings as BadSettings}

-- the settings of these numbers, which are lawful by their type; or the refusal, and the numbers are not lawful
abbrev pub Made : ℕ → ℕ → ℕ → ℕ → Result Settings Refusal → Type 0
Made tenor timed rolling fbs (Ok s) = (s.tenor ≡ tenor) × (s.timed ≡ timed) × (s.rolling ≡ rolling) × (s.fbs ≡ fbs)
Made tenor timed rolling fbs (Err e) = (lawful tenor timed rolling fbs ≡ false) × (e ≡ BadSettings)
