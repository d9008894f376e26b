-- Where a line may end, and what it then says.
use Rattle.std.specs.Prelude.{cond, ℤ, pos, neg_ℤ, Ok, Err, Result}
use Rattle.date.specs.declared.faults.Cause.{Cause}
use Rattle.date.specs.declared.faults.Cause.TheVariants.{Malformed}
use Rattle.concord.specs.declared.reader.Line.{Line}
use Rattle.concord.specs.declared.reader.Reader.{Reader}
use Rattle.concord.specs.declared.reader.State.{State}
use Rattle.concord.specs.declared.reader.State.TheVariants as s

abbrev pub year_of : Reader → ℤ
year_of r = cond r.minus (neg_ℤ (pos r.number)) (pos r.number)

abbrev pub line_of : Reader → Line
line_of r = record { letter = r.letter; era = r.era; year = year_of r; mark = r.mark; month = r.month; day = r.day }

abbrev pub unended : Result Line Cause
unended = Err Malformed

-- after the second digit of the day, and nowhere else
abbrev pub ended_in : State → Reader → Result Line Cause
ended_in s.Nothing r = unended
ended_in s.Letter r = unended
ended_in s.Space r = unended
ended_in s.Number r = unended
ended_in s.Colon r = unended
ended_in s.Minus r = unended
ended_in s.Zero r = unended
ended_in s.Year r = unended
ended_in s.Slash r = unended
ended_in s.Mark r = unended
ended_in s.YearEnd r = unended
ended_in s.MonthTens r = unended
ended_in s.Month r = unended
ended_in s.MonthEnd r = unended
ended_in s.DayTens r = unended
ended_in s.Day r = Ok (line_of r)

abbrev pub ended : Reader → Result Line Cause
ended r = ended_in r.state r
