-- The months that the Julian and the Gregorian year share, and the rule that they make with a count of years.
use Rattle.std.specs.Prelude.{ℕ, ◌-◌, ◌*◌, ◌/◌, Bool, cond, ◌||◌, ℤ, pos, negsuc, ◌+ℤ◌, ◌==◌, nat_le}
use Rattle.reckoning.specs.Rules.{Rule}

-- the days of a month, in a leap year and in another
abbrev pub days : Bool → ℕ → ℕ
days leap m = cond (m == 2) (cond leap 29 28) (cond (m == 4 || (m == 6 || (m == 9 || m == 11))) 30 31)

-- February's share: nothing up to it, then −1 in a leap year and −2 in another
abbrev pub february : Bool → ℕ → ℤ
february leap m = cond (nat_le m 2) (pos 0) (cond leap (negsuc 0) (negsuc 1))

-- the days of the year before the month: ⌊(367m − 362) / 12⌋ and February's share
abbrev pub before_month : Bool → ℕ → ℤ
before_month leap m = pos ((367 * m - 362) / 12) +ℤ february leap m

-- years from 1, by the days before each and by which are leap
abbrev pub civil : ℕ → (ℤ → ℤ) → (ℤ → Bool) → Rule
civil kind before leap = record {
  kind = kind;
  first = pos 1;
  span = 99998;
  months = λ y. 12;
  length = λ y m. days (leap y) m;
  start = λ y m. before y +ℤ before_month (leap y) m;
}
