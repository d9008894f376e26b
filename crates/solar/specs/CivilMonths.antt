-- Civil months keep the laws of a rule, whatever the count of years, if a year has 365 days and a leap year one more.
use Rattle.std.specs.Prelude.{◌≡◌, ℕ, zero, suc, ◌+◌, ◌<◌, ◌≤◌, Bool, true, false, ◌&&◌, T, ℤ, pos, negsuc, ◌+ℤ◌, ◌≤ℤ◌, int_le, refl}
use Rattle.std.proofs.Common.{arith, ⊎_elim, sym}
use Rattle.std.proofs.Math.IntN.{+ℤ_assoc}
use Rattle.std.specs.Int.Signed.{le_z_yes}
use Rattle.std.proofs.lemmas.Int.{ints}
use Rattle.std.proofs.lemmas.Bool.{cases_order}
use Rattle.date.proofs.Divisions.{one_if}
use Rattle.reckoning.specs.Rules.{Sound}
use Rattle.solar.specs.Civil.{days, before_month, civil}

-- a test passes at each number below k
abbrev every : (ℕ → Bool) → ℕ → Bool
every f zero = true
every f (suc k) = f k && every f k

both : (a b : Bool) → T (a && b) → T a × T b
both true b t = (tt, t)
both false b t = absurd t

each : (f : ℕ → Bool) (k : ℕ) → T (every f k) → (i : ℕ) → i < k → T (f i)
each f zero t i h = absurd (omega arith)
each f (suc k) t i h = let p = both (f k) (every f k) t in ⊎_elim (λ e. rw e p.0) (⊎_elim (λ l. each f k p.1 i l) (λ g. absurd (omega arith))) (cases_order i k)

-- each month starts where the one before it ends: computed for the eleven of both years
follows : Bool → ℕ → Bool
follows leap m = int_le (before_month leap (suc m + 1)) (before_month leap (suc m) +ℤ pos (days leap (suc m))) && int_le (before_month leap (suc m) +ℤ pos (days leap (suc m))) (before_month leap (suc m + 1))

all_follow : (leap : Bool) → T (every (follows leap) 11)
unfolding follows
all_follow true = tt
all_follow false = tt

month_more : (leap : Bool) (m : ℕ) → 1 ≤ m → m < 12 → before_month leap (m + 1) ≡ before_month leap m +ℤ pos (days leap m)
unfolding follows
month_more leap zero a b = absurd (omega arith)
month_more leap (suc m) a b = by _ _ (each (follows leap) 11 (all_follow leap) m (omega arith))
  where
    by : (x y : ℤ) → T (int_le x y && int_le y x) → x ≡ y
    by x y t = let p = both _ _ t in let q : T (int_le x y) = p.0 in let r : T (int_le y x) = p.1 in omega (arith, ints)

few : (leap : Bool) (m : ℕ) → days leap m ≤ 63
few true m = grind arith
few false m = grind arith

last_month : (leap : Bool) → before_month leap 12 ≡ pos (334 + one_if leap)
last_month true = refl
last_month false = refl

-- the days of the year before a month are few
pub few_before : (leap : Bool) (m : ℕ) → 1 ≤ m → m ≤ 12 → (pos 0 ≤ℤ before_month leap m) × (before_month leap m ≤ℤ pos 400)
few_before true m h l = (grind (arith, ints), grind (arith, ints))
few_before false m h l = (grind (arith, ints), grind (arith, ints))

module _ (kind : ℕ) (before : ℤ → ℤ) (leap : ℤ → Bool) where
  pub civil_sound : ((y : ℤ) → before (y +ℤ pos 1) ≡ before y +ℤ pos (365 + one_if (leap y))) → negsuc 999999999 ≤ℤ (before (pos 1) +ℤ pos 0) → (before (pos 100000) +ℤ pos 0) ≤ℤ pos 1000000000 → Sound (civil kind before leap)
  civil_sound turns low high = record {
    next_month = λ y m iy a b. (let e = month_more (leap y) m a b in rw e (sym (+ℤ_assoc (before y) (before_month (leap y) m) (pos (days (leap y) m)))));
    next_year = λ y iy. (let e = turns y in let f = last_month (leap y) in rw (e, f) (omega (arith, ints)));
    some_months = λ y iy. omega arith;
    few_months = λ y iy. omega arith;
    few_days = λ y m iy im. few (leap y) m;
    first_fits = le_z_yes tt;
    last_fits = le_z_yes tt;
    start_fits = low;
    end_fits = high;
  }
