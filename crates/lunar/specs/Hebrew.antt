-- The Hebrew calendar, kind 5.
use Rattle.std.specs.Prelude.{ℕ, ◌+◌, ◌-◌, ℤ, pos, ◌+ℤ◌, ◌-ℤ◌, unsigned_abs}
use Rattle.reckoning.specs.Rules.{Rule}
use Rattle.lunar.specs.HebrewMonths.{days, before_month}
use Rattle.lunar.specs.Molad.{leap, epoch, molad_day, molad_part, weekday}
use Rattle.lunar.specs.Postponements.{delay}

-- the day of the new year, counted as the molad's
unfoldable pub new_year : ℕ → ℕ
new_year y = molad_day y + delay (leap y) (leap (y - 1)) (weekday (molad_day y)) (molad_part y)

-- the days of the year, from its new year to the next
abbrev pub year_days : ℕ → ℕ
year_days y = new_year (y + 1) - new_year y

-- the day before the new year
abbrev pub before_year : ℤ → ℤ
before_year y = epoch +ℤ pos (new_year (unsigned_abs y)) -ℤ pos 1

abbrev pub hebrew : Rule
hebrew = record {
  kind = 5;
  first = pos 1;
  span = 99998;
  months = λ y. 13;
  length = λ y m. days (leap (unsigned_abs y)) (year_days (unsigned_abs y)) m;
  start = λ y m. before_year y +ℤ pos (before_month (leap (unsigned_abs y)) (year_days (unsigned_abs y)) m);
}
