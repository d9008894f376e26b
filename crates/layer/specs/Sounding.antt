-- A layer over calendars that keep the law keeps it.
use Rattle.std.specs.Prelude.{List, ℤ}
use Rattle.calendar.specs.declared.rows.Row.{Row}
use Rattle.calendar.specs.Eras.{with_eras}
use Rattle.calendar.specs.Piles.{Pile, calendar, meaning, Sound}
use Rattle.calendar.specs.Reforms.{reformed}
use Rattle.calendar.specs.Styles.{YearStyle, styled}
use Rattle.calendar.proofs.Laws.{lawful}
use Rattle.carrying.specs.Counting.{era_lawful}
use Rattle.carrying.specs.Reforming.{reform_lawful}
use Rattle.carrying.specs.Styling.{style_lawful}

pub reform_sound : (old new : Pile) (c : ℤ) → Sound old → Sound new → Sound (calendar (reformed (meaning old) (meaning new) c))
reform_sound old new c s t = reform_lawful (meaning old) (meaning new) c (lawful old s) (lawful new t)

pub style_sound : (y : YearStyle) (below : Pile) → Sound below → Sound (calendar (styled y (meaning below)))
style_sound y below s = style_lawful y (meaning below) (lawful below s)

pub era_sound : (rows : List Row) (below : Pile) → Sound below → Sound (calendar (with_eras rows (meaning below)))
era_sound rows below s = era_lawful rows (meaning below) (lawful below s)
