-- The ISO week calendar, kind 7. The month of a date holds its week, and its day is 1 for Monday to 7 for Sunday.
use Rattle.std.specs.Prelude.{ℕ, ◌-◌, ◌*◌, cond, ℤ, pos, ◌+ℤ◌, ◌-ℤ◌, ◌==◌, unsigned_abs}
use Rattle.date.specs.Division.{remainder}
use Rattle.reckoning.specs.Rules.{Rule}
use Rattle.solar.specs.Gregorian.{before_year}

-- the Monday on or before a day: day 1 is a Monday
abbrev pub monday_by : ℤ → ℤ
monday_by n = n -ℤ pos (remainder (n -ℤ pos 1) 7)

-- week 1 of a year begins on the Monday on or before the Gregorian 4 January
unfoldable pub week_one : ℤ → ℤ
week_one y = monday_by (before_year y +ℤ pos 4)

-- 53 weeks where it is 371 days to the next week 1, else 52
unfoldable pub weeks : ℤ → ℕ
weeks y = cond (unsigned_abs (week_one (y +ℤ pos 1) -ℤ week_one y) == 371) 53 52

-- the days of the year before the week: 7(w − 1)
abbrev pub before_week : ℕ → ℕ
before_week w = 7 * (w - 1)

abbrev pub iso : Rule
iso = record {
  kind = 7;
  first = pos 1;
  span = 99998;
  months = weeks;
  length = λ y w. 7;
  start = λ y w. week_one y -ℤ pos 1 +ℤ pos (before_week w);
}
