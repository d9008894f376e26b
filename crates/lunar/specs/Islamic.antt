-- The Islamic civil calendar, kind 4.
use Rattle.std.specs.Prelude.{ℕ, ◌+◌, ◌-◌, ◌*◌, ◌/◌, ◌%◌, Bool, cond, ◌&&◌, ◌||◌, ℤ, pos, ◌+ℤ◌, ◌-ℤ◌, ◌*ℤ◌, ◌==◌, nat_lt}
use Rattle.date.specs.Division.{floor, remainder}
use Rattle.reckoning.specs.Rules.{Rule}

-- eleven years of thirty: (11y + 14) mod 30 < 11
abbrev pub leap : ℤ → Bool
leap y = nat_lt (remainder (pos 11 *ℤ y +ℤ pos 14) 30) 11

-- 227,014 + 354(y − 1) + ⌊(11y + 3) / 30⌋
abbrev pub before_year : ℤ → ℤ
before_year y = pos 227014 +ℤ pos 354 *ℤ (y -ℤ pos 1) +ℤ floor (pos 11 *ℤ y +ℤ pos 3) 30

-- 30 days and 29 in turn, and 30 in the twelfth month of a leap year
abbrev pub days : Bool → ℕ → ℕ
days leap m = cond (m % 2 == 1 || (leap && m == 12)) 30 29

-- the days of the year before the month: 29(m − 1) + ⌊m / 2⌋
abbrev pub before_month : ℕ → ℕ
before_month m = 29 * (m - 1) + m / 2

abbrev pub islamic : Rule
islamic = record {
  kind = 4;
  first = pos 1;
  span = 99998;
  months = λ y. 12;
  length = λ y m. days (leap y) m;
  start = λ y m. before_year y +ℤ pos (before_month m);
}
