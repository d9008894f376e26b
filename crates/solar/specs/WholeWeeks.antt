-- What an ISO year is made of: whole weeks.
use Rattle.std.specs.Prelude.{◌≡◌, ◌⊎◌, ℤ, pos, ◌+ℤ◌}
use Rattle.date.specs.Division.{remainder}
use Rattle.solar.specs.Iso.{week_one, weeks}

-- Week 1 of the year begins on a Monday, and the next week 1 either 364 days later, after 52 weeks, or 371 days later,
-- after 53.
pub record Whole (y : ℤ) : Type 0 where
  pub monday : remainder (week_one y) 7 ≡ 1
  pub turns : ((week_one (y +ℤ pos 1) ≡ week_one y +ℤ pos 364) × (weeks y ≡ 52)) ⊎ ((week_one (y +ℤ pos 1) ≡ week_one y +ℤ pos 371) × (weeks y ≡ 53))
