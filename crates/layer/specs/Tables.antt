-- Tables of eras: which rows may stand in one, and what adding and amending leave.
use Rattle.std.specs.Prelude.{ℕ, zero, suc, pred, Bool, true, cond, ◌&&◌, List, [], ◌∷◌, ◌++◌, length, ℤ, pos, Ok, Err, Result, int_lt, nat_le, nat_lt}
use Rattle.calendar.specs.declared.rows.Row.{Row}
use Rattle.calendar.specs.Eras.{era_kind}
use Rattle.date.specs.declared.faults.Cause.TheVariants.{BadRow}
use Rattle.date.specs.declared.faults.Fault.{Fault}
use Rattle.date.specs.Days.{within}
use Rattle.date.specs.Refusals.{plainly}

abbrev pub most_rows : ℕ
most_rows = 16

abbrev pub number_to : ℕ
number_to = 999

abbrev pub number_fits : ℕ → Bool
number_fits k = nat_le 1 k && nat_le k number_to

-- a row that may follow one which begins on the day `last`
abbrev pub follows : ℤ → Row → Bool
follows last r = int_lt last r.first && (within r.first && number_fits r.number)

-- the rows begin on later and later days of the range, all after the day `last`
abbrev pub rise : ℤ → List Row → Bool
rise last [] = true
rise last (r ∷ rs) = follows last r && rise r.first rs

-- the day on which the last row begins, and `last` where there is none
abbrev pub last_first : ℤ → List Row → ℤ
last_first last [] = last
last_first last (r ∷ rs) = last_first r.first rs

-- rows that an era layer may have: not too many, and they rise
abbrev pub rows_fit : List Row → Bool
rows_fit rows = nat_le (length rows) most_rows && rise (pos 0) rows

-- whether one more row may be added, and the rows then
abbrev pub may_add : List Row → Row → Bool
may_add rows r = nat_lt (length rows) most_rows && follows (last_first (pos 0) rows) r

abbrev pub with_row : List Row → Row → List Row
with_row rows r = cond (may_add rows r) (rows ++ (r ∷ [])) rows

-- whether the number of the row i, counted from 1, may become k, and the rows then
abbrev pub may_amend : List Row → ℕ → ℕ → Bool
may_amend rows i k = nat_le 1 i && (nat_le i (length rows) && number_fits k)

-- the rows, with the number k at a place counted from 0
abbrev pub renumbered : List Row → ℕ → ℕ → List Row
renumbered [] i k = []
renumbered (r ∷ rs) zero k = record { first = r.first; number = k } ∷ rs
renumbered (r ∷ rs) (suc i) k = r ∷ renumbered rs i k

abbrev pub with_number : List Row → ℕ → ℕ → List Row
with_number rows i k = cond (may_amend rows i k) (renumbered rows (pred i) k) rows

-- the refusal of a row that does not fit, and the answer of adding and of amending
abbrev pub bad_row : Fault
bad_row = plainly BadRow era_kind

abbrev pub done_if : Bool → Result Unit Fault
done_if t = cond t (Ok tt) (Err bad_row)
