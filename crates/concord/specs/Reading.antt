-- How a line is read, byte by byte: a letter, a space and a written date.
use Rattle.std.specs.Prelude.{ℕ, cond, ◌==◌}
use Rattle.concord.specs.declared.reader.Reader.{Reader}
use Rattle.concord.specs.declared.reader.State.{State}
use Rattle.concord.specs.declared.reader.State.TheVariants as s
use Rattle.date.specs.Bytes.{space, hyphen, slash, one, colon}
use Rattle.concord.specs.Bytes.{naught, digit, digit_from_1, value}
use Rattle.concord.specs.Ways.{Next, bad, at, with_letter, with_digit, with_era, with_minus, with_mark, with_month, with_day}

-- after a year comes a slash or a hyphen
abbrev pub year_end : Reader → ℕ → Next
year_end r b = cond (b == slash) (at s.Slash r) (cond (b == hyphen) (at s.YearEnd r) bad)

-- a year that does not begin with a digit from 1
abbrev pub minus_or_naught : Reader → ℕ → Next
minus_or_naught r b = cond (b == hyphen) (with_minus r) (cond (b == naught) (at s.Zero r) bad)

-- by what was read last
abbrev pub next_in : State → Reader → ℕ → Next
next_in s.Nothing r b = with_letter b r
next_in s.Letter r b = cond (b == space) (at s.Space r) bad
next_in s.Space r b = cond (digit_from_1 b) (with_digit (value b) s.Number r) (minus_or_naught r b)
next_in s.Number r b = cond (digit b) (with_digit (value b) s.Number r) (cond (b == colon) (with_era r) (year_end r b))
next_in s.Colon r b = cond (digit_from_1 b) (with_digit (value b) s.Year r) (minus_or_naught r b)
next_in s.Minus r b = cond (digit_from_1 b) (with_digit (value b) s.Year r) bad
next_in s.Zero r b = year_end r b
next_in s.Year r b = cond (digit b) (with_digit (value b) s.Year r) (year_end r b)
next_in s.Slash r b = cond (b == one) (with_mark r) bad
next_in s.Mark r b = cond (b == hyphen) (at s.YearEnd r) bad
next_in s.YearEnd r b = cond (digit b) (with_month (value b) s.MonthTens r) bad
next_in s.MonthTens r b = cond (digit b) (with_month (value b) s.Month r) bad
next_in s.Month r b = cond (b == hyphen) (at s.MonthEnd r) bad
next_in s.MonthEnd r b = cond (digit b) (with_day (value b) s.DayTens r) bad
next_in s.DayTens r b = cond (digit b) (with_day (value b) s.Day r) bad
next_in s.Day r b = bad

abbrev pub next : Reader → ℕ → Next
next r b = next_in r.state r b
