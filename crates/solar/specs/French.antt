-- The French calendar by its arithmetic rule, kind 6. Its years go as the Gregorian, but for one leap day in 4,000 years.
use Rattle.std.specs.Prelude.{Bool, not, ◌&&◌, ℤ, pos, ◌+ℤ◌, ◌-ℤ◌}
use Rattle.date.specs.Division.{floor, divisible}
use Rattle.reckoning.specs.Rules.{Rule}
use Rattle.solar.specs.Gregorian.{leap as gregorian_leap, before_year as before_gregorian}
use Rattle.solar.specs.Thirty.{thirty}

-- divisible by 4, but a century only if divisible by 400; and not if divisible by 4,000
unfoldable pub leap : ℤ → Bool
leap y = gregorian_leap y && not (divisible y 4000)

-- 654,414 + 365(y − 1) + ⌊(y − 1) / 4⌋ − ⌊(y − 1) / 100⌋ + ⌊(y − 1) / 400⌋ − ⌊(y − 1) / 4,000⌋
unfoldable pub before_year : ℤ → ℤ
before_year y = pos 654414 +ℤ before_gregorian y -ℤ floor (y -ℤ pos 1) 4000

abbrev pub french : Rule
french = thirty 6 before_year leap
