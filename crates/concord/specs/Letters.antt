-- The letters and the bytes that write them.
use Rattle.std.specs.Prelude.{ℕ, cond, Ok, Err, Result, ◌==◌}
use Rattle.date.specs.declared.faults.Cause.{Cause}
use Rattle.date.specs.declared.faults.Cause.TheVariants.{Malformed, NoLetter}
use Rattle.concord.specs.declared.letters.Letter.{Letter}
use Rattle.concord.specs.declared.letters.Letter.TheVariants.{G, J}
use Rattle.concord.specs.Bytes.{capital, capital_G, capital_J}

-- the byte that writes a letter
abbrev pub byte_of : Letter → ℕ
byte_of G = capital_G
byte_of J = capital_J

-- the letter that a byte writes; another capital names no calendar, and any other byte is no letter
abbrev pub letter_of : ℕ → Result Letter Cause
letter_of b = cond (b == byte_of G) (Ok G) (cond (b == byte_of J) (Ok J) (cond (capital b) (Err NoLetter) (Err Malformed)))
