-- Which starts and additions make a style.
use Rattle.std.specs.Prelude.{Bool, cond, ◌&&◌, ℤ, pos, negsuc, Ok, Err, Result, unsigned_abs}
use Rattle.calendar.specs.Styles.{YearStyle, style_kind}
use Rattle.date.specs.declared.faults.Cause.TheVariants.{BadStyle}
use Rattle.date.specs.declared.faults.Fault.{Fault}
use Rattle.date.specs.Fields.{between, month_fits, day_fits}
use Rattle.date.specs.Refusals.{refusal}
use Rattle.layer.specs.declared.style.StyleRule.{StyleRule}

-- −9,999
abbrev pub addition_from : ℤ
addition_from = negsuc 9998

abbrev pub addition_to : ℤ
addition_to = pos 9999

abbrev pub addition_fits : ℤ → Bool
addition_fits a = between addition_from addition_to a

-- a start month and day that a date can have, and an addition
abbrev pub style_fits : ℤ → ℤ → ℤ → Bool
style_fits m d a = month_fits m && (day_fits d && addition_fits a)

abbrev pub ruled : ℤ → ℤ → ℤ → Result StyleRule Fault
ruled m d a = cond (style_fits m d a) (Ok (record { month = unsigned_abs m; day = unsigned_abs d; addition = a })) (Err (refusal BadStyle 0 (pos 0) style_kind))

-- the style that a rule makes
abbrev pub year_style : StyleRule → YearStyle
year_style r = record { month = r.month; day = r.day; addition = r.addition }
