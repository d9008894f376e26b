-- What a rule means as a calendar: the date on each day, and the day of each date.
use Rattle.std.specs.Prelude.{◌≡◌, ℕ, zero, suc, ◌+◌, ◌-◌, ◌≤◌, Bool, cond, ◌&&◌, ℤ, pos, ◌+ℤ◌, ◌-ℤ◌, Ok, Err, Result, ◌==◌, int_le, int_lt, nat_le}
use Rattle.calendar.specs.Meaning.{Meaning, outside_range}
use Rattle.date.specs.declared.dates.Date.{Date}
use Rattle.date.specs.declared.faults.Cause.TheVariants.{Field, OutsideRange, NoDate}
use Rattle.date.specs.declared.faults.Fault.{Fault}
use Rattle.date.specs.Dated.{dated}
use Rattle.date.specs.Days.{within}
use Rattle.date.specs.declared.faults.Field.{Field as DateField}
use Rattle.date.specs.Refusals.{refusal, place_of}
use Rattle.reckoning.specs.Rules.{Rule, last_year, end, InYears, InMonths}

-- A date names a day: it has no era and no mark, its year and its month are the rule's, its day is one of that month's,
-- and so many days after the month's start comes the day.
pub record Names (r : Rule) (d : Date) (n : ℤ) : Type 0 where
  pub era : d.era ≡ 0
  pub mark : d.mark ≡ 0
  pub year : InYears r d.year
  pub month : InMonths r d.year d.month
  pub to : d.day ≤ r.length d.year d.month
  pub day : n ≡ r.start d.year d.month +ℤ pos d.day

-- ---- the day of a date

abbrev pub has_year : Rule → ℤ → Bool
has_year r y = int_le r.first y && int_le y (last_year r)

-- the days of a month of the year, and none of a month that the year does not have
abbrev pub month_days : Rule → ℤ → ℕ → ℕ
month_days r y m = cond (nat_le m (r.months y)) (r.length y m) 0

-- the number of the first field of a date that the rule does not have, and 0 where it has them all; a month of no days is
-- none of the year's
abbrev pub misdated : Rule → Date → ℕ
misdated r d =
    cond (d.era == 0) (cond (has_year r d.year) (cond (d.mark == 0) (cond (month_days r d.year d.month == 0) 4 (cond (nat_le d.day (month_days r d.year d.month)) 0 5)) 3) 2) 1

-- the number of the field that an answer refuses, and 0 where it refuses none
abbrev pub place_in : {X : Type 0} → Result X DateField → ℕ
place_in (Ok x) = 0
place_in (Err f) = place_of f

-- the day that a date counts to, if it is in the range
abbrev pub counted : Rule → ℤ → Result ℤ Fault
counted r n = cond (within n) (Ok n) (Err (refusal OutsideRange 0 n r.kind))

unfoldable pub of : Rule → Date → Result ℤ Fault
of r d = cond (misdated r d == 0) (counted r (r.start d.year d.month +ℤ pos d.day)) (Err (refusal Field (misdated r d) (pos 0) r.kind))

-- ---- the date on a day

-- the largest number up to k that passes the test, or 0
abbrev pub latest : (ℕ → Bool) → ℕ → ℕ
latest t zero = zero
latest t (suc k) = cond (t (suc k)) (suc k) (latest t k)

-- the latest year that started before the day n, and the latest month of the year y that did
abbrev pub year_on : Rule → ℤ → ℤ
year_on r n = r.first +ℤ pos (latest (λ j. int_lt (r.start (r.first +ℤ pos j) 1) n) r.span)

abbrev pub month_on : Rule → ℤ → ℤ → ℕ
month_on r y n = latest (λ j. int_lt (r.start y (j + 1)) n) (r.months y - 1) + 1

-- the date in the month m of the year y that comes so many days after the month's start
abbrev pub dated_in : Rule → ℤ → ℤ → ℕ → Result Date Fault
dated_in r n y m = dated (pos 0) y (pos 0) (pos m) (n -ℤ r.start y m)

unfoldable pub dated_on : Rule → ℤ → Result Date Fault
dated_on r n = dated_in r n (year_on r n) (month_on r (year_on r n) n)

-- a day comes after the start of the first year, and by the end of the last
abbrev pub has_day : Rule → ℤ → Bool
has_day r n = int_lt (r.start r.first 1) n && int_le n (end r)

-- a day of the range is refused where it comes before the first year or after the last
unfoldable pub on : Rule → ℤ → Result Date Fault
on r n = cond (within n) (cond (has_day r n) (dated_on r n) (Err (refusal NoDate 0 (pos 0) r.kind))) (Err (outside_range r.kind))

abbrev pub reckoned : Rule → Meaning
reckoned r = record { kind = r.kind; on = on r; of = of r }
