-- The ways on from where a reader stands: each comes to a state, and most note something.
use Rattle.std.specs.Prelude.{ℕ, ◌+◌, ◌*◌, ◌%◌, Bool, true, false, cond, Ok, Err, Result, nat_le}
use Rattle.date.specs.declared.faults.Cause.{Cause}
use Rattle.date.specs.declared.faults.Cause.TheVariants.{Malformed}
use Rattle.date.specs.Refusals.{then}
use Rattle.concord.specs.declared.letters.Letter.{Letter}
use Rattle.concord.specs.declared.letters.Letter.TheVariants.{G}
use Rattle.concord.specs.declared.reader.Reader.{Reader}
use Rattle.concord.specs.declared.reader.State.{State}
use Rattle.concord.specs.declared.reader.State.TheVariants as s
use Rattle.concord.specs.Letters.{letter_of}

-- a reader by its fields: state, letter, era, minus, number, mark, month, day
abbrev pub reader : State → Letter → ℕ → Bool → ℕ → ℕ → ℕ → ℕ → Reader
reader s l e m n k mo d = record { state = s; letter = l; era = e; minus = m; number = n; mark = k; month = mo; day = d }

-- before the first byte; the letter is yet to come
abbrev pub start : Reader
start = reader s.Nothing G 0 false 0 0 0 0

-- the reader after a byte, or why no line goes on with that byte
abbrev pub Next : Type 0
Next = Result Reader Cause

abbrev pub bad : Next
bad = Err Malformed

-- what a step answers, and the reader that it leaves
abbrev pub answer : Next → Result Unit Cause
answer (Ok r) = Ok tt
answer (Err e) = Err e

abbrev pub after : Reader → Next → Reader
after r (Ok q) = q
after r (Err e) = r

abbrev pub at : State → Reader → Next
at s r = Ok (reader s r.letter r.era r.minus r.number r.mark r.month r.day)

abbrev pub with_letter : ℕ → Reader → Next
with_letter b r = then (letter_of b) (λ l. Ok (reader s.Letter l r.era r.minus r.number r.mark r.month r.day))

-- one digit more of an era or a year, which has five at most
abbrev pub with_digit : ℕ → State → Reader → Next
with_digit d s r = cond (nat_le 10000 r.number) bad (Ok (reader s r.letter r.era r.minus (r.number * 10 + d) r.mark r.month r.day))

-- the number is an era, which has three digits at most
abbrev pub with_era : Reader → Next
with_era r = cond (nat_le 1000 r.number) bad (Ok (reader s.Colon r.letter r.number r.minus 0 r.mark r.month r.day))

abbrev pub with_minus : Reader → Next
with_minus r = Ok (reader s.Minus r.letter r.era true r.number r.mark r.month r.day)

abbrev pub with_mark : Reader → Next
with_mark r = Ok (reader s.Mark r.letter r.era r.minus r.number 1 r.month r.day)

-- a number of two digits at most, when one more is read
abbrev pub two_digits : ℕ → ℕ → ℕ
two_digits n d = n % 10 * 10 + d

abbrev pub with_month : ℕ → State → Reader → Next
with_month d s r = Ok (reader s r.letter r.era r.minus r.number r.mark (two_digits r.month d) r.day)

abbrev pub with_day : ℕ → State → Reader → Next
with_day d s r = Ok (reader s r.letter r.era r.minus r.number r.mark r.month (two_digits r.day d))
