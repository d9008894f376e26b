-- What is written of an answer, byte by byte.
use Rattle.std.specs.Prelude.{ℕ, List, [], ◌∷◌, ◌++◌, Ok, Err, decimal, Result}
use Rattle.std.specs.Fmt.{signed_decimal}
use Rattle.std.specs.List.{flat_map}
use Rattle.date.specs.declared.dates.Date.{Date}
use Rattle.date.specs.declared.faults.Fault.{Fault}
use Rattle.date.specs.Bytes.{space}
use Rattle.date.specs.Writing.{date_text, refusal_text}
use Rattle.concord.specs.declared.concordance.Answer.{Answer}
use Rattle.concord.specs.declared.concordance.Column.{Column}
use Rattle.concord.specs.declared.letters.Letter.{Letter}
use Rattle.concord.specs.Letters.{byte_of}

abbrev pub letter_text : Letter → List ℕ
letter_text l = byte_of l ∷ []

-- a date, or the refusal in its place
abbrev pub told : Result Date Fault → List ℕ
told (Ok d) = date_text d
told (Err f) = refusal_text f

-- a letter and what stands under it
abbrev pub column_text : Column → List ℕ
column_text c = space ∷ (letter_text c.letter ++ (space ∷ told c.date))

-- one column after another
abbrev pub columns_text : List Column → List ℕ
columns_text cs = flat_map column_text cs

-- the day, the weekday, and the columns
abbrev pub answer_text : Answer → List ℕ
answer_text a = signed_decimal a.day ++ (space ∷ (decimal a.weekday ++ columns_text a.columns))
