-- Piles: a calendar, or a layer over piles, to any height. A layer makes another calendar of what stands below it.
use Rattle.std.specs.Prelude.{List, ℤ}
use Rattle.calendar.specs.declared.rows.Row.{Row}
use Rattle.calendar.specs.Eras.{with_eras}
use Rattle.calendar.specs.Meaning.{Meaning, Lawful}
use Rattle.calendar.specs.Reforms.{reformed}
use Rattle.calendar.specs.Styles.{YearStyle, styled}

pub data Pile : Type 0 where
  calendar : Meaning → Pile
  -- from an old pile to a new one on a day, the cut
  reform : Pile → Pile → ℤ → Pile
  style : YearStyle → Pile → Pile
  -- by the rows of a table
  era : List Row → Pile → Pile

-- what a pile answers
abbrev pub meaning : Pile → Meaning
meaning (calendar m) = m
meaning (reform old new c) = reformed (meaning old) (meaning new) c
meaning (style s below) = styled s (meaning below)
meaning (era rows below) = with_eras rows (meaning below)

-- every calendar at the bottom of a pile keeps the law
abbrev pub Sound : Pile → Type 0
Sound (calendar m) = Lawful m
Sound (reform old new c) = Sound old × Sound new
Sound (style s below) = Sound below
Sound (era rows below) = Sound below
