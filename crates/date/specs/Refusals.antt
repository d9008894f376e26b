-- Refusals: their numbers, and how they travel.
use Rattle.std.specs.Prelude.{ℕ, ◌+◌, min, ℤ, pos, Ok, Err, Result}
use Rattle.date.specs.declared.faults.Cause.{Cause}
use Rattle.date.specs.declared.faults.Cause.TheVariants.{Malformed, NoLetter, Field, OutsideRange, Skipped, OutsideEra, NoDate, UnsoundSeam, BadRow, Full, ReferenceStands, NoRow, OutputShort, BadStyle}
use Rattle.date.specs.declared.faults.Fault.{Fault}
use Rattle.date.specs.declared.faults.Field.{Field as DateField}
use Rattle.date.specs.declared.faults.Field.TheVariants as f

-- the number of each cause
abbrev pub number_of : Cause → ℕ
number_of Malformed = 1
number_of NoLetter = 2
number_of Field = 3
number_of OutsideRange = 4
number_of Skipped = 5
number_of OutsideEra = 6
number_of NoDate = 7
number_of UnsoundSeam = 8
number_of BadRow = 9
number_of Full = 10
number_of ReferenceStands = 11
number_of NoRow = 12
number_of OutputShort = 13
number_of BadStyle = 14

-- the number of each field of a date
abbrev pub place_of : DateField → ℕ
place_of f.Era = 1
place_of f.Year = 2
place_of f.Mark = 3
place_of f.Month = 4
place_of f.Day = 5

-- a refusal as it is first given: cause, place, day and kind, at level 0
abbrev pub refusal : Cause → ℕ → ℤ → ℕ → Fault
refusal c p n k = record { cause = c; place = p; day = n; kind = k; level = 0 }

-- a refusal that names neither a place nor a day
abbrev pub plainly : Cause → ℕ → Fault
plainly c k = refusal c 0 (pos 0) k

-- the refusal of a field of a date
abbrev pub misfitting : DateField → ℕ → Fault
misfitting f k = refusal Field (place_of f) (pos 0) k

-- one level higher, up to 255, and nothing else altered
abbrev pub lifted : Fault → Fault
lifted f = record { cause = f.cause; place = f.place; day = f.day; kind = f.kind; level = min (f.level + 1) 255 }

-- what a layer hands on of an answer from below
abbrev pub handed : {X : Type 0} → Result X Fault → Result X Fault
handed (Ok x) = Ok x
handed (Err f) = Err (lifted f)

-- an answer with the refusal f in place of its own
abbrev pub replaced : {X : Type 0} → Fault → Result X Fault → Result X Fault
replaced f (Ok x) = Ok x
replaced f (Err e) = Err f

-- an answer, and what is asked next of its value: the first refusal ends it
abbrev pub then : {X Y E : Type 0} → Result X E → (X → Result Y E) → Result Y E
then (Ok x) next = next x
then (Err e) next = Err e
