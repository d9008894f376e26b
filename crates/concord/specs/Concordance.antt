-- What ties together the dates of an answer: they are one day's.
use Rattle.std.specs.Prelude.{◌≡◌, Ok}
use Rattle.date.specs.declared.dates.Date.{Date}
use Rattle.concord.specs.declared.concordance.Answer.{Answer}
use Rattle.concord.specs.declared.letters.Letter.{Letter}
use Rattle.concord.specs.declared.reader.Line.{Line}
use Rattle.concord.specs.Answering.{date_of, answered}
use Rattle.concord.specs.Calendars.{date_under}

pub record Concordant : Type 0 where
  -- under every letter there is a date
  pub dated : (l : Line) (a : Answer) → answered (Ok l) ≡ Ok a → (x : Letter) → (d : Date) × (date_under x a.day ≡ Ok d)
  -- under the line's own letter it is the line's own
  pub own : (l : Line) (a : Answer) → answered (Ok l) ≡ Ok a → date_under l.letter a.day ≡ date_of l
  -- and a line that has any of the letters and the date under it gets the same answer
  pub same : (l k : Line) (a : Answer) → answered (Ok l) ≡ Ok a → date_under k.letter a.day ≡ date_of k → answered (Ok k) ≡ Ok a
