-- Days: signed whole numbers. Day 1 is 1 January of year 1 in the Gregorian calendar.
use Rattle.std.specs.Prelude.{ℕ, ◌%◌, Bool, cond, ℤ, pos, Ok, Err, Result, unsigned_abs}
use Rattle.date.specs.declared.faults.Cause.TheVariants.{OutsideRange}
use Rattle.date.specs.declared.faults.Fault.{Fault}
use Rattle.date.specs.Fields.{between}
use Rattle.date.specs.Refusals.{refusal}

abbrev pub first_day : ℤ
first_day = pos 1

abbrev pub last_day : ℤ
last_day = pos 3652059

-- whether a day is in the range
abbrev pub within : ℤ → Bool
within n = between first_day last_day n

-- the weekday of a day of the range, 0 for Sunday; no calendar is asked, so its refusal has kind 0
abbrev pub weekday_on : ℤ → Result ℕ Fault
weekday_on n = cond (within n) (Ok (unsigned_abs n % 7)) (Err (refusal OutsideRange 0 (pos 0) 0))
