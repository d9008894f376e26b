-- The rows of a table of eras, counted from 1.
use Rattle.std.specs.Prelude.{ℕ, zero, suc, Bool, cond, List, [], ◌∷◌, ℤ, Some, None, Option, int_le}
use Rattle.calendar.specs.declared.rows.Row.{Row}

-- the row at a place, counted from 0
abbrev pub at_place : List Row → ℕ → Option Row
at_place [] i = None
at_place (r ∷ rs) zero = Some r
at_place (r ∷ rs) (suc i) = at_place rs i

-- the row of an era
abbrev pub row_of : List Row → ℕ → Option Row
row_of rows zero = None
row_of rows (suc i) = at_place rows i

-- the number of the last of some rows that began, from that of the rows behind the first and whether the first began
abbrev pub last_with : Bool → ℕ → ℕ
last_with began zero = cond began 1 0
last_with began (suc i) = suc (suc i)

-- the era of a day: the number of the last row that began by then, and 0 where none did
abbrev pub era_on : List Row → ℤ → ℕ
era_on [] n = 0
era_on (r ∷ rs) n = last_with (int_le r.first n) (era_on rs n)
