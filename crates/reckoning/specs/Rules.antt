-- An arithmetic calendar by its rule, and the laws that a rule keeps. Years and days are whole numbers, months and days of
-- the month natural ones. A month of no days is one that the year leaves out.
use Rattle.std.specs.Prelude.{◌≡◌, ℕ, ◌+◌, ◌<◌, ◌≤◌, ℤ, pos, negsuc, ◌+ℤ◌, ◌≤ℤ◌}
use Rattle.date.specs.Fields.{year_from, year_to, month_to, day_to}

pub record Rule : Type 0 where
  pub kind : ℕ
  -- the first year, and how many come after it
  pub first : ℤ
  pub span : ℕ
  -- the months of a year, and the days of a month of it
  pub months : ℤ → ℕ
  pub length : ℤ → ℕ → ℕ
  -- the day before the first of a month of a year
  pub start : ℤ → ℕ → ℤ

abbrev pub last_year : Rule → ℤ
last_year r = r.first +ℤ pos r.span

-- the last day of the last year
abbrev pub end : Rule → ℤ
end r = r.start (last_year r +ℤ pos 1) 1

pub record InYears (r : Rule) (y : ℤ) : Type 0 where
  pub from : r.first ≤ℤ y
  pub to : y ≤ℤ last_year r

pub record InMonths (r : Rule) (y : ℤ) (m : ℕ) : Type 0 where
  pub from : 1 ≤ m
  pub to : m ≤ r.months y

pub record Sound (r : Rule) : Type 0 where
  -- a month starts where the one before it ends, and a year where the year before it ends
  pub next_month : (y : ℤ) (m : ℕ) → InYears r y → 1 ≤ m → m < r.months y → r.start y (m + 1) ≡ r.start y m +ℤ pos (r.length y m)
  pub next_year : (y : ℤ) → InYears r y → r.start (y +ℤ pos 1) 1 ≡ r.start y (r.months y) +ℤ pos (r.length y (r.months y))
  -- years, months and days of the month fit a date
  pub some_months : (y : ℤ) → InYears r y → 1 ≤ r.months y
  pub few_months : (y : ℤ) → InYears r y → r.months y ≤ month_to
  pub few_days : (y : ℤ) (m : ℕ) → InYears r y → InMonths r y m → r.length y m ≤ day_to
  pub first_fits : year_from ≤ℤ r.first
  pub last_fits : last_year r ≤ℤ year_to
  -- and its days lie within a thousand million of day 0
  pub start_fits : negsuc 999999999 ≤ℤ r.start r.first 1
  pub end_fits : end r ≤ℤ pos 1000000000
