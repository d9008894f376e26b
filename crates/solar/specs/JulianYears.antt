-- The Julian count of years turns over by 365 days, and in a leap year by one more.
use Rattle.std.specs.Prelude.{◌≡◌, ℕ, ◌+◌, ◌*◌, ◌/◌, ◌%◌, ℤ, pos, ◌+ℤ◌, ◌-ℤ◌, ◌==◌, refl}
use Rattle.std.proofs.Common.{arith}
use Rattle.std.specs.Int.Signed.{le_z_yes}
use Rattle.std.proofs.lemmas.Int.{ints}
use Rattle.date.proofs.Divisions.{one_if, floor_next}
use Rattle.reckoning.specs.Rules.{Sound}
use Rattle.solar.specs.Julian.{leap, before_year, julian}
use Rattle.solar.specs.CivilMonths.{civil_sound}

turns : (y : ℤ) → before_year (y +ℤ pos 1) ≡ before_year y +ℤ pos (365 + one_if (leap y))
unfolding before_year leap
turns y =
    let same : y +ℤ pos 1 -ℤ pos 1 ≡ y = omega (arith, ints) in
    let a = floor_next y 4 (omega arith) in
    rw same (omega (arith, ints))

pub julian_sound : Sound julian
unfolding before_year
julian_sound = civil_sound 2 before_year leap turns (le_z_yes tt) (le_z_yes tt)

-- the count and the test in natural numbers
pub count_is : (y : ℤ) (n a : ℕ) → pos n ≡ y -ℤ pos 1 → a ≡ n / 4 → pos (365 * n + a) -ℤ pos 2 ≡ before_year y
unfolding before_year
count_is y n a e p = rw (← e) (omega (arith, ints))

pub leap_is : (y : ℤ) (n : ℕ) → pos n ≡ y → (n % 4 == 0) ≡ leap y
unfolding leap
leap_is y n e = rw (← e) refl
