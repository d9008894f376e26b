-- The French count of years turns over by 365 days, and in a leap year by one more.
use Rattle.std.specs.Prelude.{◌≡◌, ℕ, ◌+◌, ◌/◌, ◌%◌, Bool, true, false, not, ◌&&◌, ◌||◌, ℤ, pos, ◌+ℤ◌, ◌-ℤ◌, ◌==◌, refl}
use Rattle.std.proofs.Common.{arith, sym}
use Rattle.std.specs.Int.Signed.{le_z_yes}
use Rattle.std.proofs.lemmas.Int.{ints}
use Rattle.std.proofs.lemmas.Bool.{true≢false}
use Rattle.date.specs.Division.{divisible}
use Rattle.date.proofs.Divisions.{one_if, floor_next, factor}
use Rattle.reckoning.specs.Rules.{Sound}
use Rattle.solar.specs.French.{leap, before_year, french}
use Rattle.solar.specs.Gregorian.{leap as gregorian_leap, before_year as before_gregorian}
use Rattle.solar.specs.GregorianYears.{turns as gregorian_turns}
use Rattle.solar.specs.ThirtyMonths.{thirty_sound}

-- a year divisible by 4,000 would be leap, and is not
counts : (a b : Bool) → (b ≡ true → a ≡ true) → one_if (a && not b) + one_if b ≡ one_if a
counts true true p = refl
counts true false p = refl
counts false true p = absurd (true≢false (sym (p refl)))
counts false false p = refl

would_be_leap : (y : ℤ) → divisible y 4000 ≡ true → gregorian_leap y ≡ true
unfolding gregorian_leap
would_be_leap y h =
    let a : divisible y 4 ≡ true = factor y 1000 4 (omega arith) (omega arith) h in
    let b : divisible y 400 ≡ true = factor y 10 400 (omega arith) (omega arith) h in
    leaps (divisible y 4) (divisible y 100) (divisible y 400) a b
  where
    leaps : (a b c : Bool) → a ≡ true → c ≡ true → a && (not b || c) ≡ true
    leaps a true c p q = rw (p, q) refl
    leaps a false c p q = rw p refl

turns : (y : ℤ) → before_year (y +ℤ pos 1) ≡ before_year y +ℤ pos (365 + one_if (leap y))
unfolding before_year leap
turns y =
    let same : y +ℤ pos 1 -ℤ pos 1 ≡ y = omega (arith, ints) in
    let a = gregorian_turns y in
    let b = floor_next y 4000 (omega arith) in
    let d = counts (gregorian_leap y) (divisible y 4000) (would_be_leap y) in
    rw (same, a) (omega (arith, ints))

pub french_sound : Sound french
unfolding before_year before_gregorian
french_sound = thirty_sound 6 before_year leap turns (le_z_yes tt) (le_z_yes tt)

-- the test in natural numbers
pub leap_is : (y : ℤ) (n : ℕ) → pos n ≡ y → (gregorian_leap y && not (n % 4000 == 0)) ≡ leap y
unfolding leap
leap_is y n e = rw (← e) refl

-- the count with the 4,000th years counted in natural numbers
pub count_is : (y : ℤ) (n a : ℕ) → pos n ≡ y -ℤ pos 1 → a ≡ n / 4000 → pos 654414 +ℤ before_gregorian y -ℤ pos a ≡ before_year y
unfolding before_year
count_is y n a e p = rw (← e, p) refl
