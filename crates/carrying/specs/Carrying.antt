-- Carrying a date from one pile to another by way of its day, and the days between two dates.
use Rattle.std.specs.Prelude.{ℤ, ◌-ℤ◌, Ok, Result}
use Rattle.date.specs.declared.dates.Date.{Date}
use Rattle.date.specs.Refusals.{then}
use Rattle.calendar.specs.declared.refusing.Party.TheVariants.{First, Second}
use Rattle.calendar.specs.declared.refusing.Refused.{Refused}
use Rattle.calendar.specs.Meaning.{Meaning}
use Rattle.calendar.specs.Parties.{told_by}

abbrev pub carried : Meaning → Meaning → Date → Result Date Refused
carried from to d = then (told_by First (from.of d)) (λ n. told_by Second (to.on n))

-- the second's day less the first's
abbrev pub spanned : Meaning → Meaning → Date → Date → Result ℤ Refused
spanned first second d e = then (told_by First (first.of d)) (λ n. then (told_by Second (second.of e)) (λ k. Ok (k -ℤ n)))
