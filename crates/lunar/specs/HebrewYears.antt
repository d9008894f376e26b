-- What holds of every Hebrew year: its length, its months, and the weekday on which it begins.
use Rattle.std.specs.Prelude.{◌≡◌, ℕ, Bool, true, false, ◌⊎◌, ℤ, pos, ◌+ℤ◌, unsigned_abs}
use Rattle.date.specs.Division.{remainder}
use Rattle.lunar.specs.Hebrew.{hebrew}
use Rattle.lunar.specs.HebrewMonths.{of_first}
use Rattle.lunar.specs.Molad.{leap}
use Rattle.lunar.specs.Postponements.{lo_adu}

-- the lengths of a leap year, and those of a common one
abbrev pub Length : Bool → ℕ → Type 0
Length true n = (n ≡ 383) ⊎ ((n ≡ 384) ⊎ (n ≡ 385))
Length false n = (n ≡ 353) ⊎ ((n ≡ 354) ⊎ (n ≡ 355))

-- a year of n days
pub record Regular (y : ℤ) (n : ℕ) : Type 0 where
  -- the next year starts n days later
  pub lasts : hebrew.start (y +ℤ pos 1) 1 ≡ hebrew.start y 1 +ℤ pos n
  -- n is one of the six lengths, one of the three long ones exactly if the year is leap
  pub length : Length (leap (unsigned_abs y)) n
  -- the months fill the year
  pub filled : of_first (hebrew.length y) 13 ≡ n
  -- new year's day is no Sunday, no Wednesday and no Friday
  pub begins : lo_adu (remainder (hebrew.start y 1 +ℤ pos 1) 7) ≡ false
