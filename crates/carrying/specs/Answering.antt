-- How a pile answers: as its days carry dates.
use Rattle.std.specs.Prelude.{◌≡◌, true, ◌↔◌, ℤ, ◌<ℤ◌, Ok, Err}
use Rattle.carrying.specs.Carries.{Carries}
use Rattle.calendar.specs.Meaning.{Lawful}
use Rattle.carrying.specs.Piles.{Pile, meaning}
use Rattle.date.specs.declared.dates.Date.{Date}
use Rattle.date.specs.declared.faults.Fault.{Fault}
use Rattle.date.specs.Order.{earlier}

pub record Answers (p : Pile) : Type 0 where
  -- the pile is a calendar in turn
  pub lawful : Lawful (meaning p)
  -- the date on a day is the one that the day carries, and the day of a date is the one that carries it
  pub on : (n : ℤ) (d : Date) → ((meaning p).on n ≡ Ok d) ↔ Carries p n d
  pub of : (n : ℤ) (d : Date) → ((meaning p).of d ≡ Ok n) ↔ Carries p n d
  -- a day is refused exactly when it carries no date, and a date exactly when no day carries it
  pub day_refused : (n : ℤ) → ((f : Fault) × ((meaning p).on n ≡ Err f)) ↔ ((d : Date) → Carries p n d → ⊥)
  pub date_refused : (d : Date) → ((f : Fault) × ((meaning p).of d ≡ Err f)) ↔ ((n : ℤ) → Carries p n d → ⊥)
  -- later days carry later dates
  pub ascends : (n k : ℤ) (d e : Date) → n <ℤ k → Carries p n d → Carries p k e → earlier d e ≡ true
