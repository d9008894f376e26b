-- The Islamic months and years follow each other without a gap.
use Rattle.std.specs.Prelude.{◌≡◌, ℕ, ◌+◌, ◌*◌, ◌/◌, ◌%◌, ◌<◌, ◌≤◌, Bool, true, false, ℤ, pos, ◌+ℤ◌, ◌-ℤ◌, ◌*ℤ◌, nat_lt, refl}
use Rattle.std.proofs.Common.{arith}
use Rattle.std.specs.Int.Signed.{le_z_yes}
use Rattle.std.proofs.lemmas.Int.{ints}
use Rattle.std.proofs.lemmas.Bool.{ltb-true, ltb-false}
use Rattle.date.specs.Division.{remainder}
use Rattle.date.proofs.Divisions.{floors, one_if}
use Rattle.reckoning.specs.Rules.{Sound}
use Rattle.lunar.specs.Islamic.{leap, before_year, days, before_month, islamic}

few : (l : Bool) (m : ℕ) → days l m ≤ 63
few l m = grind arith

month_more : (l : Bool) (m : ℕ) → 1 ≤ m → m < 12 → before_month (m + 1) ≡ before_month m + days l m
month_more l m a b = grind arith

-- a year has 354 days, and a leap year one more
turns : (y : ℤ) → before_year (y +ℤ pos 1) ≡ before_year y +ℤ pos (354 + one_if (leap y))
turns y = by (nat_lt (remainder (pos 11 *ℤ y +ℤ pos 14) 30) 11) refl
  where
    same : pos 11 *ℤ (y +ℤ pos 1) +ℤ pos 3 ≡ pos 11 *ℤ y +ℤ pos 14
    same = omega (arith, ints)

    by : (t : Bool) → nat_lt (remainder (pos 11 *ℤ y +ℤ pos 14) 30) 11 ≡ t → before_year (y +ℤ pos 1) ≡ before_year y +ℤ pos (354 + one_if t)
    by true e = let f = ltb-true _ _ e in rw same (omega (arith, ints, floors))
    by false e = let f = ltb-false _ _ e in rw same (omega (arith, ints, floors))

last_month : (l : Bool) → before_month 12 + days l 12 ≡ 354 + one_if l
last_month true = refl
last_month false = refl

pub islamic_sound : Sound islamic
islamic_sound = record {
  next_month = λ y m iy a b. (let e = month_more (leap y) m a b in omega (arith, ints));
  next_year = λ y iy. (let e = turns y in let f = last_month (leap y) in omega (arith, ints));
  some_months = λ y iy. omega arith;
  few_months = λ y iy. omega arith;
  few_days = λ y m iy im. few (leap y) m;
  first_fits = le_z_yes tt;
  last_fits = le_z_yes tt;
  start_fits = le_z_yes tt;
  end_fits = le_z_yes tt;
}

-- the count and the test in natural numbers
pub count_is : (y : ℤ) (n a : ℕ) → pos n ≡ y -ℤ pos 1 → a ≡ (11 * n + 14) / 30 → pos (227014 + 354 * n + a) ≡ before_year y
count_is y n a e p =
    let same : pos 11 *ℤ y +ℤ pos 3 ≡ pos (11 * n + 14) = omega (arith, ints) in
    rw (same, ← e) (omega (arith, ints))

pub leap_is : (y : ℤ) (n : ℕ) → pos n ≡ y → nat_lt ((11 * n + 14) % 30) 11 ≡ leap y
leap_is y n e = let same : pos 11 *ℤ y +ℤ pos 14 ≡ pos (11 * n + 14) = omega (arith, ints) in rw same refl
