-- The Julian calendar, kind 2.
use Rattle.std.specs.Prelude.{Bool, ℤ, pos, ◌+ℤ◌, ◌-ℤ◌, ◌*ℤ◌}
use Rattle.date.specs.Division.{floor, divisible}
use Rattle.reckoning.specs.Rules.{Rule}
use Rattle.solar.specs.Civil.{civil}

-- divisible by 4
unfoldable pub leap : ℤ → Bool
leap y = divisible y 4

-- −2 + 365(y − 1) + ⌊(y − 1) / 4⌋
unfoldable pub before_year : ℤ → ℤ
before_year y = pos 365 *ℤ (y -ℤ pos 1) +ℤ floor (y -ℤ pos 1) 4 -ℤ pos 2

abbrev pub julian : Rule
julian = civil 2 before_year leap
