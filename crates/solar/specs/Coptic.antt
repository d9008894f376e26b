-- The Coptic calendar, kind 3.
use Rattle.std.specs.Prelude.{Bool, ℤ, pos, ◌+ℤ◌, ◌-ℤ◌, ◌*ℤ◌, ◌==◌}
use Rattle.date.specs.Division.{floor, remainder}
use Rattle.reckoning.specs.Rules.{Rule}
use Rattle.solar.specs.Thirty.{thirty}

-- every fourth year, from the third
unfoldable pub leap : ℤ → Bool
leap y = remainder y 4 == 3

-- 103,604 + 365(y − 1) + ⌊y / 4⌋
unfoldable pub before_year : ℤ → ℤ
before_year y = pos 103604 +ℤ pos 365 *ℤ (y -ℤ pos 1) +ℤ floor y 4

abbrev pub coptic : Rule
coptic = thirty 3 before_year leap
