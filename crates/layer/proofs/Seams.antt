-- The day before a day of the range, as the code holds it.
use Rattle.std.proofs.Common.{◌≡◌, true, ℤ, pos, ◌-ℤ◌, arith, w32, to_z, of_z}
use Rattle.std.proofs.lemmas.Int.{ints, to_z-of_z}
use Rattle.date.specs.Days.{within}
use Rattle.date.proofs.Keys.{day_between}

pub day_before : (n : ℤ) → within n ≡ true → to_z w32 (of_z w32 (n -ℤ pos 1)) ≡ n -ℤ pos 1
day_before n h = let b = day_between n h in to_z-of_z w32 _ (omega (arith, ints))
