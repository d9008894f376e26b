-- Lines cut at line feeds from bytes that come one by one.
use Rattle.std.specs.Prelude.{ℕ, ◌+◌, ◌-◌, ◌^◌, min, cond, pos, Some, None, Ok, Err, Option, Result, ◌==◌}
use Rattle.date.specs.declared.faults.Cause.{Cause}
use Rattle.date.specs.declared.faults.Fault.{Fault}
use Rattle.date.specs.Refusals.{refusal, then}
use Rattle.concord.specs.declared.lines.Lines.{Lines}
use Rattle.concord.specs.declared.reader.Line.{Line}
use Rattle.concord.specs.declared.reader.Reader.{Reader}
use Rattle.concord.specs.Bytes.{line_feed}
use Rattle.concord.specs.Ending.{ended}
use Rattle.concord.specs.Reading.{next}
use Rattle.concord.specs.Ways.{start}

-- nothing read yet of a line
abbrev pub fresh : Lines
fresh = record { reading = Ok start; place = 1 }

-- an answer of the reader, its refusal told with its place
abbrev pub placed : {X : Type 0} → ℕ → Result X Cause → Result X Fault
placed k (Ok x) = Ok x
placed k (Err c) = Err (refusal c k (pos 0) 0)

-- the answer for a line that ends here
abbrev pub finished : Lines → Result Line Fault
finished t = then t.reading (λ r. placed t.place (ended r))

-- a line goes on to the next place, or is refused at this one; the count stops at the largest number that it can hold
abbrev pub stepped : Result Reader Fault → Lines → Lines
stepped (Ok r) t = record { reading = Ok r; place = min (t.place + 1) (2 ^ 64 - 1) }
stepped (Err f) t = record { reading = Err f; place = t.place }

-- a byte of the line taken; after a refusal the rest is passed over
abbrev pub taken : Lines → ℕ → Lines
taken t b = stepped (then t.reading (λ r. placed t.place (next r b))) t

-- a byte of the input: a line feed ends the line, and the next begins
abbrev pub fed : Lines → ℕ → Option (Result Line Fault) × Lines
fed t b = cond (b == line_feed) (Some (finished t), fresh) (None, taken t b)

abbrev pub rest_by : Result Reader Fault → Lines → Option (Result Line Fault)
rest_by (Ok r) t = cond (t.place == 1) None (Some (finished t))
rest_by (Err f) t = Some (finished t)

-- at the end of the input: a last line that no line feed ends, unless it is empty
abbrev pub rest : Lines → Option (Result Line Fault)
rest t = rest_by t.reading t
