-- A whole input: its lines, and what is read of them.
use Rattle.std.specs.Prelude.{◌≡◌, ℕ, cond, List, [], ◌∷◌, ◌++◌, map, Some, None, Option, Result, ◌==◌}
use Rattle.date.specs.declared.faults.Fault.{Fault}
use Rattle.concord.specs.declared.lines.Lines.{Lines}
use Rattle.concord.specs.declared.reader.Line.{Line}
use Rattle.concord.specs.Bytes.{line_feed}
use Rattle.concord.specs.Lines.{fresh, finished, taken, fed, rest}

-- a last line that no line feed ends, unless it is empty
abbrev pub last_line : List ℕ → List (List ℕ)
last_line [] = []
last_line (b ∷ bs) = (b ∷ bs) ∷ []

-- the lines of an input, cut at line feeds, after the front of a line
abbrev pub lines_after : List ℕ → List ℕ → List (List ℕ)
lines_after front [] = last_line front
lines_after front (b ∷ bs) = cond (b == line_feed) (front ∷ lines_after [] bs) (lines_after (front ++ b ∷ []) bs)

abbrev pub lines_of : List ℕ → List (List ℕ)
lines_of bs = lines_after [] bs

-- a line read by itself
abbrev pub all_taken : Lines → List ℕ → Lines
all_taken t [] = t
all_taken t (b ∷ bs) = all_taken (taken t b) bs

abbrev pub read_alone : List ℕ → Result Line Fault
read_alone bs = finished (all_taken fresh bs)

-- what is read of an input as its bytes come
abbrev pub noted : Option (Result Line Fault) → List (Result Line Fault) → List (Result Line Fault)
noted (Some a) more = a ∷ more
noted None more = more

abbrev pub read_on : Lines → List ℕ → List (Result Line Fault)
read_on t [] = noted (rest t) []
read_on t (b ∷ bs) = noted (fed t b).0 (read_on (fed t b).1 bs)

-- each line of an input is read as if it stood alone, once and in its order
abbrev pub EachAlone : Type 0
EachAlone = (bs : List ℕ) → read_on fresh bs ≡ map read_alone (lines_of bs)
