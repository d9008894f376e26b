-- The Gregorian calendar, kind 1.
use Rattle.std.specs.Prelude.{Bool, not, ◌&&◌, ◌||◌, ℤ, pos, ◌+ℤ◌, ◌-ℤ◌, ◌*ℤ◌}
use Rattle.date.specs.Division.{floor, divisible}
use Rattle.reckoning.specs.Rules.{Rule}
use Rattle.solar.specs.Civil.{civil}

-- divisible by 4, but a century only if divisible by 400
unfoldable pub leap : ℤ → Bool
leap y = divisible y 4 && (not (divisible y 100) || divisible y 400)

-- 365(y − 1) + ⌊(y − 1) / 4⌋ − ⌊(y − 1) / 100⌋ + ⌊(y − 1) / 400⌋
unfoldable pub before_year : ℤ → ℤ
before_year y = pos 365 *ℤ (y -ℤ pos 1) +ℤ floor (y -ℤ pos 1) 4 -ℤ floor (y -ℤ pos 1) 100 +ℤ floor (y -ℤ pos 1) 400

abbrev pub gregorian : Rule
gregorian = civil 1 before_year leap
