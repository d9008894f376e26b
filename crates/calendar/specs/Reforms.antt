-- Reform: an old calendar before a day, the cut, and a new one from the cut on. Where the two meet is the seam.
use Rattle.std.specs.Prelude.{ℕ, cond, ℤ, pos, ◌-ℤ◌, Ok, Err, Result, int_lt}
use Rattle.date.specs.declared.dates.Date.{Date}
use Rattle.date.specs.declared.faults.Cause.TheVariants.{Skipped, UnsoundSeam}
use Rattle.date.specs.declared.faults.Fault.{Fault}
use Rattle.date.specs.Days.{within}
use Rattle.date.specs.Order.{earlier}
use Rattle.date.specs.Refusals.{refusal, handed, then}
use Rattle.calendar.specs.Meaning.{Meaning, outside_range}

abbrev pub reform_kind : ℕ
reform_kind = 8

-- the refusal of a day from the cut on, where the seam is not sound
abbrev pub unsound : ℤ → Fault
unsound c = refusal UnsoundSeam 0 c reform_kind

-- the refusal of a date that falls between the two calendars
abbrev pub skipped : ℤ → Fault
skipped c = refusal Skipped 0 c reform_kind

-- the last date of the old and the first of the new, if the last is earlier than the first
abbrev pub meeting : ℤ → Result Date Fault → Result Date Fault → Result (Date × Date) Fault
meeting c (Ok e) (Ok f) = cond (earlier e f) (Ok (e, f)) (Err (unsound c))
meeting c (Ok e) (Err y) = Err (unsound c)
meeting c (Err x) (Ok f) = Err (unsound c)
meeting c (Err x) (Err y) = Err (unsound c)

-- the seam at the cut c: what the old carries on the day before and the new on the cut
abbrev pub seam : Meaning → Meaning → ℤ → Result (Date × Date) Fault
seam old new c = cond (within c) (meeting c (old.on (c -ℤ pos 1)) (new.on c)) (Err (unsound c))

-- a day that the old has found must come before the cut
abbrev pub before_cut : ℤ → ℤ → Result ℤ Fault
before_cut c n = cond (int_lt n c) (Ok n) (Err (unsound c))

-- a date not later than the old's last is put to the old, one not earlier than the new's first to the new
abbrev pub placed : Meaning → Meaning → ℤ → Date → Result (Date × Date) Fault → Result ℤ Fault
placed old new c d (Ok s) = cond (earlier s.0 d) (cond (earlier d s.1) (Err (skipped c)) (handed (new.of d))) (handed (old.of d))
placed old new c d (Err f) = then (handed (old.of d)) (before_cut c)

abbrev pub reformed : Meaning → Meaning → ℤ → Meaning
reformed old new c = record {
  kind = reform_kind;
  on = λ n. cond (within n) (cond (int_lt n c) (handed (old.on n)) (then (seam old new c) (λ s. handed (new.on n)))) (Err (outside_range reform_kind));
  of = λ d. placed old new c d (seam old new c);
}
