-- What is written of dates and refusals, byte by byte.
use Rattle.std.specs.Prelude.{ℕ, ◌/◌, ◌%◌, cond, List, [], ◌∷◌, ◌++◌, decimal, ◌==◌}
use Rattle.std.specs.Fmt.{signed_decimal}
use Rattle.date.specs.declared.dates.Date.{Date}
use Rattle.date.specs.declared.faults.Fault.{Fault}
use Rattle.date.specs.Bytes.{space, bang, hyphen, slash, one, colon}
use Rattle.date.specs.Refusals.{number_of}

-- an era and a colon; nothing where there is no era
abbrev pub era_text : ℕ → List ℕ
era_text e = cond (e == 0) [] (decimal e ++ colon ∷ [])

-- a mark, told where it is 1
abbrev pub mark_text : ℕ → List ℕ
mark_text m = cond (m == 1) (slash ∷ one ∷ []) []

-- a number below 100 in two digits
abbrev pub pair_text : ℕ → List ℕ
pair_text n = decimal (n / 10) ++ decimal (n % 10)

-- a month and a day of the month, a hyphen before each
abbrev pub day_text : ℕ → ℕ → List ℕ
day_text m d = hyphen ∷ (pair_text m ++ (hyphen ∷ pair_text d))

-- the written form of a date
abbrev pub date_text : Date → List ℕ
date_text d = era_text d.era ++ (signed_decimal d.year ++ (mark_text d.mark ++ day_text d.month d.day))

-- a refusal in numbers, one space before each: cause, place, day, kind and level
abbrev pub refusal_text : Fault → List ℕ
refusal_text f =
    bang ∷ space ∷ (decimal (number_of f.cause) ++ (space ∷ (decimal f.place ++ (space ∷ (signed_decimal f.day ++ (space ∷ (decimal f.kind ++ (space ∷ decimal f.level))))))))
