-- The Coptic count of years turns over by 365 days, and in a leap year by one more.
use Rattle.std.specs.Prelude.{◌≡◌, ℕ, ◌+◌, ◌-◌, ◌*◌, ◌/◌, ◌%◌, ◌≤◌, Bool, true, false, ℤ, pos, ◌+ℤ◌, ◌==◌, refl}
use Rattle.std.proofs.Common.{arith}
use Rattle.std.specs.Int.Signed.{le_z_yes}
use Rattle.std.proofs.lemmas.Int.{ints}
use Rattle.std.proofs.lemmas.Bool.{eqb-true, eqb-false}
use Rattle.date.specs.Division.{remainder}
use Rattle.date.proofs.Divisions.{one_if, floors}
use Rattle.reckoning.specs.Rules.{Sound}
use Rattle.solar.specs.Coptic.{leap, before_year, coptic}
use Rattle.solar.specs.ThirtyMonths.{thirty_sound}

turns : (y : ℤ) → before_year (y +ℤ pos 1) ≡ before_year y +ℤ pos (365 + one_if (leap y))
unfolding before_year leap
turns y = by (remainder y 4 == 3) refl
  where
    by : (t : Bool) → (remainder y 4 == 3) ≡ t → before_year (y +ℤ pos 1) ≡ before_year y +ℤ pos (365 + one_if t)
    by true e = let f = eqb-true _ _ e in omega (arith, ints, floors)
    by false e = let f = eqb-false _ _ e in omega (arith, ints, floors)

pub coptic_sound : Sound coptic
unfolding before_year
coptic_sound = thirty_sound 3 before_year leap turns (le_z_yes tt) (le_z_yes tt)

-- the count and the test in natural numbers
pub count_is : (y : ℤ) (n a : ℕ) → pos n ≡ y → 1 ≤ n → a ≡ n / 4 → pos (103604 + 365 * (n - 1) + a) ≡ before_year y
unfolding before_year
count_is y n a e h p = rw (← e) (omega (arith, ints))

pub leap_is : (y : ℤ) (n : ℕ) → pos n ≡ y → (n % 4 == 3) ≡ leap y
unfolding leap
leap_is y n e = rw (← e) refl
