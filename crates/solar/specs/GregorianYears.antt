-- The Gregorian count of years turns over by 365 days, and in a leap year by one more.
use Rattle.std.specs.Prelude.{◌≡◌, ℕ, ◌+◌, ◌-◌, ◌*◌, ◌/◌, ◌%◌, Bool, true, false, not, ◌&&◌, ◌||◌, ℤ, pos, ◌+ℤ◌, ◌-ℤ◌, ◌≤ℤ◌, ◌==◌, ◌≢◌, refl}
use Rattle.std.proofs.Common.{arith, sym}
use Rattle.std.specs.Int.Signed.{le_z_yes}
use Rattle.std.proofs.lemmas.Int.{ints}
use Rattle.std.proofs.lemmas.Bool.{true≢false}
use Rattle.date.specs.Division.{divisible}
use Rattle.date.proofs.Divisions.{one_if, floor_next, factor, floors}
use Rattle.reckoning.specs.Rules.{Sound}
use Rattle.solar.specs.Gregorian.{leap, before_year, gregorian}
use Rattle.solar.specs.CivilMonths.{civil_sound}

-- a leap year and a century make a fourth year and a fourth century
counts : (a b c : Bool) → (b ≡ true → a ≡ true) → (c ≡ true → b ≡ true) → one_if (a && (not b || c)) + one_if b ≡ one_if a + one_if c
counts true true true p q = refl
counts true true false p q = refl
counts true false true p q = absurd (true≢false (sym (q refl)))
counts true false false p q = refl
counts false true c p q = absurd (true≢false (sym (p refl)))
counts false false true p q = absurd (true≢false (sym (q refl)))
counts false false false p q = refl

pub turns : (y : ℤ) → before_year (y +ℤ pos 1) ≡ before_year y +ℤ pos (365 + one_if (leap y))
unfolding before_year leap
turns y =
    let same : y +ℤ pos 1 -ℤ pos 1 ≡ y = omega (arith, ints) in
    let a = floor_next y 4 (omega arith) in
    let b = floor_next y 100 (omega arith) in
    let c = floor_next y 400 (omega arith) in
    let d = counts (divisible y 4) (divisible y 100) (divisible y 400) (factor y 25 4 (omega arith) (omega arith)) (factor y 4 100 (omega arith) (omega arith)) in
    rw same (omega (arith, ints))

pub gregorian_sound : Sound gregorian
unfolding before_year
gregorian_sound = civil_sound 1 before_year leap turns (le_z_yes tt) (le_z_yes tt)

-- the count and the test in natural numbers
pub count_is : (y : ℤ) (n a b c : ℕ) → pos n ≡ y -ℤ pos 1 → a ≡ n / 4 → b ≡ n / 100 → c ≡ n / 400 → pos (365 * n + a + c - b) ≡ before_year y
unfolding before_year
count_is y n a b c e p q r = rw (← e) (omega (arith, ints))

pub leap_is : (y : ℤ) (n : ℕ) → pos n ≡ y → (n % 4 == 0 && (not (n % 100 == 0) || n % 400 == 0)) ≡ leap y
unfolding leap
leap_is y n e = rw (← e) refl

-- the ways through the test, by the remainders of 4, of 100 and of 400
abbrev pub tested : ℕ → ℕ → ℕ → Bool
tested a b c = a == 0 && (not (b == 0) || c == 0)

pub no_century : (a b c : ℕ) → a ≡ 0 → (b ≢ 0) → not (b == 0) ≡ tested a b c
no_century a b c e f = grind arith

pub century : (a b c : ℕ) → a ≡ 0 → b ≡ 0 → (c == 0) ≡ tested a b c
century a b c e f = grind arith

pub common : (a b c : ℕ) → (a ≢ 0) → (a == 0) ≡ tested a b c
common a b c e = grind arith

-- the days before a year are not below 0, and fit with room to spare
pub few_before : (y : ℤ) → pos 1 ≤ℤ y → y ≤ℤ pos 100000 → (pos 0 ≤ℤ before_year y) × (before_year y ≤ℤ pos 40000000)
unfolding before_year
few_before y l u = (omega (arith, ints, floors), omega (arith, ints, floors))
