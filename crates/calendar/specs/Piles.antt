-- Piles: a calendar, or a layer over piles, to any height.
use Rattle.std.specs.Prelude.{◌≡◌, ℤ, Ok}
use Rattle.date.specs.declared.dates.Date.{Date}
use Rattle.calendar.specs.Meaning.{Meaning, Lawful}

pub data Pile : Type 0 where
  calendar : Meaning → Pile

-- what a pile answers
abbrev pub meaning : Pile → Meaning
meaning (calendar m) = m

-- every calendar at the bottom of a pile keeps the law
abbrev pub Sound : Pile → Type 0
Sound (calendar m) = Lawful m

-- a day carries a date in a pile: in a calendar, as the calendar says
abbrev pub Carries : Pile → ℤ → Date → Type 0
Carries (calendar m) n d = m.on n ≡ Ok d
