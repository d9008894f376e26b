-- The months that the Coptic and the French year share, and the rule that they make with a count of years: twelve of 30
-- days, and a thirteenth that has the days left over.
use Rattle.std.specs.Prelude.{ℕ, ◌-◌, ◌*◌, Bool, cond, ℤ, pos, ◌+ℤ◌, nat_le}
use Rattle.reckoning.specs.Rules.{Rule}

-- the days of a month, in a leap year and in another
abbrev pub days : Bool → ℕ → ℕ
days leap m = cond (nat_le m 12) 30 (cond leap 6 5)

-- the days of the year before the month: 30(m − 1)
abbrev pub before_month : ℕ → ℕ
before_month m = 30 * (m - 1)

-- years from 1, by the days before each and by which are leap
abbrev pub thirty : ℕ → (ℤ → ℤ) → (ℤ → Bool) → Rule
thirty kind before leap = record {
  kind = kind;
  first = pos 1;
  span = 99998;
  months = λ y. 13;
  length = λ y m. days (leap y) m;
  start = λ y m. before y +ℤ pos (before_month m);
}
