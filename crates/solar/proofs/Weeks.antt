-- From week 1 of a year to that of the next, in a year from 1: what `weeks_in` compares.
use Rattle.std.proofs.Common.{◌≡◌, ℕ, ◌+◌, ◌⊎◌, pos, ◌+ℤ◌}
use Rattle.solar.specs.Iso.{week_one, weeks}
use Rattle.solar.specs.IsoYears.{whole}

pub turns : (n : ℕ) → ((week_one (pos (n + 1)) ≡ week_one (pos n) +ℤ pos 364) × (weeks (pos n) ≡ 52)) ⊎ ((week_one (pos (n + 1)) ≡ week_one (pos n) +ℤ pos 371) × (weeks (pos n) ≡ 53))
turns n = (whole (pos n)).turns
