-- The year and the month that hold a day.
use Rattle.std.specs.Prelude.{ℕ, ◌+◌, ◌<◌, ◌≤◌, ℤ, pos, ◌+ℤ◌, ◌≤ℤ◌, ◌<ℤ◌}
use Rattle.reckoning.specs.Rules.{Rule, InYears, InMonths}

pub record HoldsYear (r : Rule) (n y : ℤ) : Type 0 where
  pub years : InYears r y
  pub after : r.start y 1 <ℤ n
  pub by : n ≤ℤ r.start (y +ℤ pos 1) 1

pub record HoldsMonth (r : Rule) (n y : ℤ) (m : ℕ) : Type 0 where
  pub months : InMonths r y m
  pub after : r.start y m <ℤ n
  pub by : n ≤ℤ (r.start y m +ℤ pos (r.length y m))

-- The month that holds the nth day of a year of so many months, by the days of the year before each: the last that begins
-- in time.
pub record HoldsNth (count : ℕ) (before : ℕ → ℕ) (n m : ℕ) : Type 0 where
  pub from : 1 ≤ m
  pub to : m ≤ count
  pub after : before m < n
  pub by : m < count → n ≤ before (m + 1)
