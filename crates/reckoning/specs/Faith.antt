-- What every rule that keeps its laws gives: the theorem of arithmetic calendars.
use Rattle.std.specs.Prelude.{◌≡◌, true, ◌↔◌, ℤ, ◌≤ℤ◌, ◌<ℤ◌, Ok}
use Rattle.date.specs.declared.dates.Date.{Date}
use Rattle.date.specs.Days.{within}
use Rattle.date.specs.Order.{earlier}
use Rattle.reckoning.specs.Reckoned.{Names, reckoned}
use Rattle.reckoning.specs.Rules.{Rule, end}

pub record Faithful (r : Rule) : Type 0 where
  -- every day from the first year's first to the last year's last has one valid date and no other
  pub one_date : (n : ℤ) → r.start r.first 1 <ℤ n → n ≤ℤ end r → (d : Date) × Names r d n × ((e : Date) → Names r e n → e ≡ d)
  -- the answers are the days and dates that name each other, and no more
  pub on_exact : (n : ℤ) (d : Date) → ((reckoned r).on n ≡ Ok d) ↔ ((within n ≡ true) × Names r d n)
  pub of_exact : (n : ℤ) (d : Date) → ((reckoned r).of d ≡ Ok n) ↔ ((within n ≡ true) × Names r d n)
  -- the later day has the later date
  pub ascends : (n k : ℤ) (d e : Date) → n <ℤ k → Names r d n → Names r e k → earlier d e ≡ true
