-- The ranges of a date's five numbers, each named once. This file names no type of the crate, so that `Date` can cite it.
use Rattle.std.specs.Prelude.{ℕ, Bool, cond, ◌&&◌, ℤ, pos, negsuc, ◌==◌, int_le}

abbrev pub era_to : ℕ
era_to = 255

-- −9,999
abbrev pub year_from : ℤ
year_from = negsuc 9998

abbrev pub year_to : ℤ
year_to = pos 99999

abbrev pub mark_to : ℕ
mark_to = 1

abbrev pub month_to : ℕ
month_to = 63

abbrev pub day_to : ℕ
day_to = 63

abbrev pub between : ℤ → ℤ → ℤ → Bool
between from to n = int_le from n && int_le n to

abbrev pub era_fits : ℤ → Bool
era_fits n = between (pos 0) (pos era_to) n

abbrev pub year_fits : ℤ → Bool
year_fits n = between year_from year_to n

abbrev pub mark_fits : ℤ → Bool
mark_fits n = between (pos 0) (pos mark_to) n

abbrev pub month_fits : ℤ → Bool
month_fits n = between (pos 1) (pos month_to) n

abbrev pub day_fits : ℤ → Bool
day_fits n = between (pos 1) (pos day_to) n

-- the number, from 1, of the first of an era, a year, a mark, a month and a day of the month that is out of its range,
-- and 0 where none is
abbrev pub misfit : ℤ → ℤ → ℤ → ℤ → ℤ → ℕ
misfit e y k m d = cond (era_fits e) (cond (year_fits y) (cond (mark_fits k) (cond (month_fits m) (cond (day_fits d) 0 5) 4) 3) 2) 1

abbrev pub fits : ℤ → ℤ → ℤ → ℤ → ℤ → Bool
fits e y k m d = misfit e y k m d == 0
