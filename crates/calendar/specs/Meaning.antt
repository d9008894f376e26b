-- What a calendar means: which date each day carries, which day carries each date, and the refusal that every other day
-- and date gets. And the law that a calendar keeps.
use Rattle.std.specs.Prelude.{◌≡◌, ℕ, true, false, ◌↔◌, ℤ, pos, ◌<ℤ◌, Ok, Err, Result}
use Rattle.date.specs.declared.dates.Date.{Date}
use Rattle.date.specs.declared.faults.Cause.TheVariants.{OutsideRange}
use Rattle.date.specs.declared.faults.Fault.{Fault}
use Rattle.date.specs.Days.{within}
use Rattle.date.specs.Order.{earlier}
use Rattle.date.specs.Refusals.{refusal}

pub record Meaning : Type 0 where
  pub kind : ℕ
  pub on : ℤ → Result Date Fault
  pub of : Date → Result ℤ Fault

-- the refusal of a day outside the range, which every calendar and layer gives itself and first
abbrev pub outside_range : ℕ → Fault
outside_range kind = refusal OutsideRange 0 (pos 0) kind

pub record Lawful (m : Meaning) : Type 0 where
  -- a day outside the range is refused as such, by this kind
  pub outside : (n : ℤ) → within n ≡ false → m.on n ≡ Err (outside_range m.kind)
  -- the day that carries a date is the day of that date, and no other is
  pub exact : (n : ℤ) (d : Date) → (m.on n ≡ Ok d) ↔ (m.of d ≡ Ok n)
  -- of two days that carry dates, the later carries the later date
  pub ascends : (n k : ℤ) (d e : Date) → n <ℤ k → m.on n ≡ Ok d → m.on k ≡ Ok e → earlier d e ≡ true
