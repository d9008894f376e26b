-- The first field of a date whose number is out of its range.
use Rattle.std.specs.Prelude.{cond, ℤ, Some, None, Option}
use Rattle.date.specs.declared.faults.Field.{Field}
use Rattle.date.specs.declared.faults.Field.TheVariants as f
use Rattle.date.specs.Fields.{era_fits, year_fits, mark_fits, month_fits, day_fits}

abbrev pub first_misfit : ℤ → ℤ → ℤ → ℤ → ℤ → Option Field
first_misfit e y k m d =
    cond (era_fits e) (cond (year_fits y) (cond (mark_fits k) (cond (month_fits m) (cond (day_fits d) None (Some f.Day)) (Some f.Month)) (Some f.Mark)) (Some f.Year)) (Some f.Era)
