-- The calendar of each letter.
use Rattle.std.specs.Prelude.{ℤ, Result}
use Rattle.calendar.specs.Piles.{Pile, Sound, calendar, meaning}
use Rattle.date.specs.declared.dates.Date.{Date}
use Rattle.date.specs.declared.faults.Fault.{Fault}
use Rattle.reckoning.specs.Faiths.{rule_lawful}
use Rattle.reckoning.specs.Reckoned.{reckoned}
use Rattle.solar.specs.Gregorian.{gregorian}
use Rattle.solar.specs.GregorianYears.{gregorian_sound}
use Rattle.solar.specs.Julian.{julian}
use Rattle.solar.specs.JulianYears.{julian_sound}
use Rattle.concord.specs.declared.letters.Letter.{Letter}
use Rattle.concord.specs.declared.letters.Letter.TheVariants.{G, J}

abbrev pub pile_of : Letter → Pile
pile_of G = calendar (reckoned gregorian)
pile_of J = calendar (reckoned julian)

-- the date that a day carries under a letter, and the day that carries a date
abbrev pub date_under : Letter → ℤ → Result Date Fault
date_under l n = (meaning (pile_of l)).on n

abbrev pub day_under : Letter → Date → Result ℤ Fault
day_under l d = (meaning (pile_of l)).of d

-- the calendar of each letter keeps the law
pub sound : (l : Letter) → Sound (pile_of l)
sound G = rule_lawful gregorian gregorian_sound
sound J = rule_lawful julian julian_sound
