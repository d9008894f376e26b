-- What a reckoning says of its rule: between which years and up to which day it goes, and the months of each year.
use Rattle.std.specs.Prelude.{◌≡◌, ℕ, ℤ, pos, ◌+ℤ◌}
use Rattle.reckoning.specs.Rules.{Rule, InMonths, last_year, end}

-- a kind, a first year, a last year and a last day are the rule's
pub record Bounds (r : Rule) (k : ℕ) (a b n : ℤ) : Type 0 where
  pub kind : k ≡ r.kind
  pub first : a ≡ r.first
  pub last : b ≡ last_year r
  pub last_day : n ≡ end r

-- so many months, of such lengths, with so many days of the year before each, are those of the year y
pub record MonthsOf (r : Rule) (y : ℤ) (count : ℕ) (days passed : ℕ → ℕ) : Type 0 where
  pub months : count ≡ r.months y
  pub length : (m : ℕ) → InMonths r y m → days m ≡ r.length y m
  pub start : (m : ℕ) → InMonths r y m → r.start y m ≡ r.start y 1 +ℤ pos (passed m)
