-- Style: a year that starts on another month and day than the year below, and is counted from elsewhere.
use Rattle.std.specs.Prelude.{ℕ, cond, ◌&&◌, ℤ, pos, ◌+ℤ◌, ◌-ℤ◌, Err, Result, ◌==◌, nat_lt}
use Rattle.date.specs.declared.dates.Date.{Date}
use Rattle.date.specs.declared.faults.Cause.TheVariants.{Field, NoDate}
use Rattle.date.specs.declared.faults.Fault.{Fault}
use Rattle.date.specs.Dated.{dated}
use Rattle.date.specs.Days.{within}
use Rattle.date.specs.Order.{by_nat}
use Rattle.date.specs.Refusals.{refusal, handed, replaced, then}
use Rattle.calendar.specs.Meaning.{Meaning, outside_range}

abbrev pub style_kind : ℕ
style_kind = 9

-- the month and day on which the year starts, and what is added to the year below
pub record YearStyle : Type 0 where
  pub month : ℕ
  pub day : ℕ
  pub addition : ℤ

-- the mark of a month and day: 1 before the start
abbrev pub mark_of : YearStyle → ℕ → ℕ → ℕ
mark_of s m d = cond (by_nat m s.month (nat_lt d s.day)) 1 0

abbrev pub no_styled_date : Fault
no_styled_date = refusal NoDate 0 (pos 0) style_kind

-- a field of a date that the style does not have
abbrev pub no_styled_field : ℕ → Fault
no_styled_field place = refusal Field place (pos 0) style_kind

-- the date in the style with this mark, of the date b below
abbrev pub renumbered : YearStyle → ℕ → Date → Result Date Fault
renumbered s k b = replaced no_styled_date (dated (pos 0) (b.year +ℤ s.addition -ℤ pos k) (pos k) (pos b.month) (pos b.day))

-- the date in the style of a day that is b below
abbrev pub restyled : YearStyle → Date → Result Date Fault
restyled s b = cond (b.era == 0 && b.mark == 0) (renumbered s (mark_of s b.month b.day) b) (Err no_styled_date)

-- the date below of the date d in the style, its mark being right
abbrev pub numbered_back : YearStyle → Date → Result Date Fault
numbered_back s d = replaced (no_styled_field 2) (dated (pos 0) (d.year -ℤ s.addition +ℤ pos d.mark) (pos 0) (pos d.month) (pos d.day))

abbrev pub unstyled : YearStyle → Date → Result Date Fault
unstyled s d = cond (d.era == 0) (cond (d.mark == mark_of s d.month d.day) (numbered_back s d) (Err (no_styled_field 3))) (Err (no_styled_field 1))

abbrev pub styled : YearStyle → Meaning → Meaning
styled s below = record {
  kind = style_kind;
  on = λ n. cond (within n) (then (handed (below.on n)) (restyled s)) (Err (outside_range style_kind));
  of = λ d. then (unstyled s d) (λ b. handed (below.of b));
}
