-- Era: years counted anew from the first day of each row of a table.
use Rattle.std.specs.Prelude.{ℕ, cond, List, ℤ, pos, ◌+ℤ◌, ◌-ℤ◌, Some, None, Ok, Err, Option, Result, ◌==◌}
use Rattle.date.specs.declared.dates.Date.{Date}
use Rattle.date.specs.declared.faults.Cause.TheVariants.{Field, OutsideEra, NoDate}
use Rattle.date.specs.declared.faults.Fault.{Fault}
use Rattle.date.specs.Dated.{dated}
use Rattle.date.specs.Days.{within}
use Rattle.date.specs.Refusals.{refusal, handed, replaced, then}
use Rattle.calendar.specs.declared.rows.Row.{Row}
use Rattle.calendar.specs.Meaning.{Meaning, outside_range}
use Rattle.calendar.specs.Rows.{row_of, era_on}

abbrev pub era_kind : ℕ
era_kind = 10

abbrev pub outside_era : Fault
outside_era = refusal OutsideEra 0 (pos 0) era_kind

abbrev pub no_era_date : Fault
no_era_date = refusal NoDate 0 (pos 0) era_kind

-- a field of a date that no era has
abbrev pub no_era_field : ℕ → Fault
no_era_field place = refusal Field place (pos 0) era_kind

-- the year of a date that has no era
abbrev pub bare_year : Result Date Fault → Result ℤ Fault
bare_year (Ok b) = cond (b.era == 0) (Ok b.year) (Err outside_era)
bare_year (Err f) = Err outside_era

-- the year below on the row's first day
abbrev pub first_year : Meaning → Row → Result ℤ Fault
first_year below r = bare_year (below.on r.first)

-- the date b below, counted in the era i from the row r, which begins in the year y below
abbrev pub raised : ℕ → Row → ℤ → Date → Result Date Fault
raised i r y b = replaced no_era_date (dated (pos i) (pos r.number +ℤ b.year -ℤ y) (pos b.mark) (pos b.month) (pos b.day))

abbrev pub in_row : Meaning → ℕ → Option Row → Date → Result Date Fault
in_row below i None b = Ok b
in_row below i (Some r) b = then (first_year below r) (λ y. raised i r y b)

-- the date on a day of the era i that is b below; the era 0 has no row
abbrev pub reckoned : List Row → Meaning → ℕ → Date → Result Date Fault
reckoned rows below i b = cond (b.era == 0) (in_row below i (row_of rows i) b) (Err no_era_date)

-- the date d of the row r as it is below
abbrev pub lowered : Row → ℤ → Date → Result Date Fault
lowered r y d = replaced (no_era_field 2) (dated (pos 0) (d.year -ℤ pos r.number +ℤ y) (pos d.mark) (pos d.month) (pos d.day))

abbrev pub from_row : Meaning → Option Row → Date → Result Date Fault
from_row below None d = Err (no_era_field 1)
from_row below (Some r) d = then (first_year below r) (λ y. lowered r y d)

-- the date below of the date d
abbrev pub unreckoned : List Row → Meaning → Date → Result Date Fault
unreckoned rows below d = cond (d.era == 0) (Ok d) (from_row below (row_of rows d.era) d)

-- a day that was found must belong to the era
abbrev pub belonging : List Row → ℕ → ℤ → Result ℤ Fault
belonging rows i n = cond (era_on rows n == i) (Ok n) (Err outside_era)

abbrev pub with_eras : List Row → Meaning → Meaning
with_eras rows below = record {
  kind = era_kind;
  on = λ n. cond (within n) (then (handed (below.on n)) (reckoned rows below (era_on rows n))) (Err (outside_range era_kind));
  of = λ d. then (unreckoned rows below d) (λ b. then (handed (below.of b)) (belonging rows d.era));
}
