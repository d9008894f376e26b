-- The months of the Hebrew year from Tishri, by whether it is leap and by how many days it has.
use Rattle.std.specs.Prelude.{ℕ, zero, suc, ◌+◌, ◌-◌, Bool, cond, ◌||◌, ◌==◌}

-- a complete year has a day more than a regular one, and a deficient year a day less
abbrev pub complete : ℕ → Bool
complete n = n == 355 || n == 385

abbrev pub deficient : ℕ → Bool
deficient n = n == 353 || n == 383

-- Marheshvan, the second month, has 30 days in a complete year, and Kislev, the third, 29 in a deficient one. Adar I, the
-- sixth, stands in leap years only.
abbrev pub days : Bool → ℕ → ℕ → ℕ
days leap n m =
    cond (m == 2) (cond (complete n) 30 29)
    (cond (m == 3) (cond (deficient n) 29 30)
    (cond (m == 6) (cond leap 30 0)
    (cond (m == 1 || (m == 5 || (m == 8 || (m == 10 || m == 12)))) 30 29)))

-- the days of the first k months
abbrev pub of_first : (ℕ → ℕ) → ℕ → ℕ
of_first length zero = 0
of_first length (suc k) = of_first length k + length (suc k)

-- the days of the year before the month
abbrev pub before_month : Bool → ℕ → ℕ → ℕ
before_month leap n m = of_first (days leap n) (m - 1)
