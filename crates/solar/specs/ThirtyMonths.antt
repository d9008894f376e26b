-- Months of 30 days with a thirteenth keep the laws of a rule, whatever the count of years, if a year has 365 days and a
-- leap year one more.
use Rattle.std.specs.Prelude.{◌≡◌, ℕ, ◌+◌, ◌<◌, ◌≤◌, Bool, true, false, ℤ, pos, negsuc, ◌+ℤ◌, ◌≤ℤ◌, refl}
use Rattle.std.proofs.Common.{arith}
use Rattle.std.specs.Int.Signed.{le_z_yes}
use Rattle.std.proofs.lemmas.Int.{ints}
use Rattle.date.proofs.Divisions.{one_if}
use Rattle.reckoning.specs.Rules.{Sound}
use Rattle.solar.specs.Thirty.{days, thirty}

month_more : (leap : Bool) (m : ℕ) → m < 13 → days leap m ≡ 30
month_more leap m h = grind arith

few : (leap : Bool) (m : ℕ) → days leap m ≤ 63
few true m = grind arith
few false m = grind arith

last_month : (leap : Bool) → days leap 13 ≡ 5 + one_if leap
last_month true = refl
last_month false = refl

module _ (kind : ℕ) (before : ℤ → ℤ) (leap : ℤ → Bool) where
  pub thirty_sound : ((y : ℤ) → before (y +ℤ pos 1) ≡ before y +ℤ pos (365 + one_if (leap y))) → negsuc 999999999 ≤ℤ (before (pos 1) +ℤ pos 0) → (before (pos 100000) +ℤ pos 0) ≤ℤ pos 1000000000 → Sound (thirty kind before leap)
  thirty_sound turns low high = record {
    next_month = λ y m iy a b. (let e = month_more (leap y) m b in rw e (omega (arith, ints)));
    next_year = λ y iy. (let e = turns y in let f = last_month (leap y) in rw (e, f) (omega (arith, ints)));
    some_months = λ y iy. omega arith;
    few_months = λ y iy. omega arith;
    few_days = λ y m iy im. few (leap y) m;
    first_fits = le_z_yes tt;
    last_fits = le_z_yes tt;
    start_fits = low;
    end_fits = high;
  }
