-- From one molad to the next year's: the months between them, and the days and parts that these make.
use Rattle.std.specs.Prelude.{◌≡◌, ℕ, ◌+◌, ◌-◌, ◌*◌, ◌/◌, ◌%◌, ◌<◌, ◌≤◌, Bool, true, false, cond, nat_le}
use Rattle.std.proofs.Common.{arith, ap, ◌∙◌}
use Rattle.std.proofs.Math.Arith.{digits_div, digits_mod}
use Rattle.date.proofs.Divisions.{one_if}
use Rattle.lunar.specs.Molad.{leap, months_before, molad_day, molad_part, weekday}

-- a division by its quotient and remainder
pub division : (n k q r : ℕ) → n ≡ q * k + r → r < k → (n / k ≡ q) × (n % k ≡ r)
division n k q r e h = (ap (λ x. x / k) e ∙ digits_div q h, ap (λ x. x % k) e ∙ digits_mod q h)

-- twelve months to a common year, and thirteen to a leap year
abbrev months : Bool → ℕ
months l = cond l 13 12

months_more : (y : ℕ) → 1 ≤ y → months_before (y + 1) ≡ months_before y + months (leap y)
months_more y h = grind arith

-- no two leap years adjoin
pub apart : (y : ℕ) → leap y ≡ true → leap (y + 1) ≡ false
apart y e = grind arith

pub apart_before : (y : ℕ) → 1 ≤ y → leap y ≡ true → leap (y - 1) ≡ false
apart_before y h e = grind arith

-- the whole days of a year's months, and the parts that are left
abbrev pub whole : Bool → ℕ
whole l = cond l 383 354

abbrev pub rest : Bool → ℕ
rest l = cond l 23269 9516

-- from this part on they make a day more
abbrev pub room : Bool → ℕ
room l = cond l 2651 16404

abbrev pub carry : Bool → ℕ → ℕ
carry l p = one_if (nat_le (room l) p)

-- the part of the next year's molad
abbrev pub next_part : Bool → ℕ → ℕ
next_part l p = p + rest l - carry l p * 25920

pub next_molad : (y : ℕ) → 1 ≤ y → (molad_day (y + 1) ≡ molad_day y + (whole (leap y) + carry (leap y) (molad_part y))) × (molad_part (y + 1) ≡ next_part (leap y) (molad_part y))
next_molad y h = let e = months_more y h in (grind arith, grind arith)

pub week_more : (d x : ℕ) → weekday (d + x) ≡ (weekday d + x) % 7
week_more d x = omega arith

-- the molads lie in the years' range
pub molad_small : (y : ℕ) → 1 ≤ y → y ≤ 100000 → molad_day y ≤ 36600000
molad_small y h i = omega arith
