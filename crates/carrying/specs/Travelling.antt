-- What becomes of a date that is carried from one pile to another.
use Rattle.std.specs.Prelude.{◌≡◌, ◌⊎◌, ◌↔◌, ℤ, Ok, Err}
use Rattle.calendar.specs.declared.refusing.Party.TheVariants.{First, Second}
use Rattle.calendar.specs.declared.refusing.Refused.{Refused}
use Rattle.carrying.specs.Carries.{Carries}
use Rattle.carrying.specs.Piles.{Pile, meaning}
use Rattle.carrying.specs.Carrying.{carried}
use Rattle.date.specs.declared.dates.Date.{Date}

-- no day carries the date in the pile
abbrev pub NoDay : Pile → Date → Type 0
NoDay p d = (n : ℤ) → Carries p n d → ⊥

-- the date's day in the first pile carries no date in the second
abbrev pub NoDateThere : Pile → Pile → Date → Type 0
NoDateThere p q d = (n : ℤ) × Carries p n d × ((e : Date) → Carries q n e → ⊥)

pub record Travels (p q : Pile) : Type 0 where
  -- a carried date is the one that its day carries in the second pile
  pub there : (d e : Date) → (carried (meaning p) (meaning q) d ≡ Ok e) ↔ ((n : ℤ) × Carries p n d × Carries q n e)
  -- carried back it returns as it left
  pub back : (d e : Date) → carried (meaning p) (meaning q) d ≡ Ok e → carried (meaning q) (meaning p) e ≡ Ok d
  -- it is refused exactly when no day carries it in the first pile or its day carries no date in the second
  pub refused : (d : Date) → ((f : Refused) × (carried (meaning p) (meaning q) d ≡ Err f)) ↔ (NoDay p d ⊎ NoDateThere p q d)
  -- and the refusal is told as that pile's
  pub first_refused : (d : Date) (f : Refused) → carried (meaning p) (meaning q) d ≡ Err f → (f.party ≡ First) ↔ NoDay p d
  pub second_refused : (d : Date) (f : Refused) → carried (meaning p) (meaning q) d ≡ Err f → (f.party ≡ Second) ↔ NoDateThere p q d
