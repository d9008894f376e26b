-- What is answered of a line.
use Rattle.std.specs.Prelude.{List, [], ◌∷◌, ℤ, pos, Ok, Result}
use Rattle.date.specs.declared.dates.Date.{Date}
use Rattle.date.specs.declared.faults.Fault.{Fault}
use Rattle.date.specs.Dated.{dated}
use Rattle.date.specs.Days.{weekday_on}
use Rattle.date.specs.Refusals.{then}
use Rattle.concord.specs.declared.concordance.Answer.{Answer}
use Rattle.concord.specs.declared.concordance.Column.{Column}
use Rattle.concord.specs.declared.letters.Letter.{Letter}
use Rattle.concord.specs.declared.letters.Letter.TheVariants.{G, J}
use Rattle.concord.specs.declared.reader.Line.{Line}
use Rattle.concord.specs.Calendars.{date_under, day_under}

-- the date of a line's numbers, if they fit
abbrev pub date_of : Line → Result Date Fault
date_of l = dated (pos l.era) l.year (pos l.mark) (pos l.month) (pos l.day)

abbrev pub column : ℤ → Letter → Column
column n l = record { letter = l; date = date_under l n }

-- a day's date under every letter
abbrev pub columns_on : ℤ → List Column
columns_on n = column n G ∷ column n J ∷ []

-- the answer to a line as it was read: the first refusal ends it
abbrev pub answered : Result Line Fault → Result Answer Fault
answered read =
    then read (λ l.
    then (date_of l) (λ d.
    then (day_under l.letter d) (λ n.
    then (weekday_on n) (λ w.
    Ok (record { day = n; weekday = w; columns = columns_on n })))))
