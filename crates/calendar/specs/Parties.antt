-- Which of two piles refused.
use Rattle.std.specs.Prelude.{ℕ, Ok, Err, Result}
use Rattle.date.specs.declared.faults.Fault.{Fault}
use Rattle.calendar.specs.declared.refusing.Party.{Party}
use Rattle.calendar.specs.declared.refusing.Party.TheVariants.{Neither, First, Second}
use Rattle.calendar.specs.declared.refusing.Refused.{Refused}

abbrev pub number_of : Party → ℕ
number_of Neither = 0
number_of First = 1
number_of Second = 2

-- an answer whose refusal names the pile that gave it
abbrev pub told_by : {X : Type 0} → Party → Result X Fault → Result X Refused
told_by p (Ok x) = Ok x
told_by p (Err f) = Err (record { fault = f; party = p })
