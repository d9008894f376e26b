-- The Hebrew months fill their years, and the years follow each other without a gap.
use Rattle.std.specs.Prelude.{◌≡◌, ℕ, zero, suc, ◌+◌, ◌*◌, ◌≤◌, Bool, true, false, ℤ, pos, negsuc, ◌+ℤ◌, ◌-ℤ◌, ◌≤ℤ◌, unsigned_abs, refl}
use Rattle.std.proofs.Common.{arith, inl, inr, sym, ap, subst, ◌∙◌, add-one, sub-one}
use Rattle.std.specs.Int.Signed.{le_z_yes}
use Rattle.std.proofs.lemmas.Int.{ints}
use Rattle.date.specs.Division.{remainder}
use Rattle.date.proofs.Divisions.{floor_is, remainder_lt}
use Rattle.reckoning.specs.Rules.{Sound, InYears}
use Rattle.lunar.specs.Hebrew.{new_year, year_days, before_year, hebrew}
use Rattle.lunar.specs.HebrewMonths.{days, of_first, before_month}
use Rattle.lunar.specs.HebrewYears.{Length, Regular}
use Rattle.lunar.specs.Molad.{leap, epoch, weekday}
use Rattle.lunar.specs.NewYears.{year_fits, year_lengths, allowed_days}

pub few : (l : Bool) (n m : ℕ) → days l n m ≤ 30
few l n m = grind arith

pub before_small : (l : Bool) (n k : ℕ) → of_first (days l n) k ≤ 30 * k
before_small l n zero = omega arith
before_small l n (suc k) = let a = before_small l n k in let b = few l n (suc k) in omega arith

-- the months of a year make up its days
months_fill : (l : Bool) (n : ℕ) → Length l n → of_first (days l n) 13 ≡ n
months_fill true n (inl e) = rw e refl
months_fill true n (inr (inl e)) = rw e refl
months_fill true n (inr (inr e)) = rw e refl
months_fill false n (inl e) = rw e refl
months_fill false n (inr (inl e)) = rw e refl
months_fill false n (inr (inr e)) = rw e refl

pub month_more : (l : Bool) (n m : ℕ) → 1 ≤ m → before_month l n (m + 1) ≡ before_month l n m + days l n m
month_more l n zero h = absurd (omega arith)
month_more l n (suc k) h = simp (add-one, sub-one)

year_is : (a : ℕ) → 1 ≤ a → new_year (a + 1) ≡ new_year a + year_days a
year_is a h = let f = year_fits a h in omega arith

-- the first molad falls on a Monday
week : (a : ℕ) → remainder (before_year (pos a) +ℤ pos 0 +ℤ pos 1) 7 ≡ weekday (new_year a)
week a =
    let day : ℤ = before_year (pos a) +ℤ pos 0 +ℤ pos 1 in
    let e = floor_is day 7 (omega arith) in
    let l = remainder_lt day 7 (omega arith) in
    omega (arith, ints)

pub regular : (y : ℤ) → pos 1 ≤ℤ y → Regular y (year_days (unsigned_abs y))
regular (negsuc a) h = absurd (omega (arith, ints))
regular (pos a) h =
    let i : 1 ≤ a = omega (arith, ints) in
    let t = year_is a i in
    record {
      lasts = omega (arith, ints);
      length = year_lengths a i;
      filled = months_fill (leap a) (year_days a) (year_lengths a i);
      begins = (let w = week a in rw w (allowed_days a));
    }

next : (y : ℤ) → InYears hebrew y → hebrew.start (y +ℤ pos 1) 1 ≡ hebrew.start y 13 +ℤ pos (hebrew.length y 13)
next y iy =
    let r = regular y iy.from in
    let a = r.lasts in
    let b = r.filled in
    omega (arith, ints)

pub hebrew_sound : Sound hebrew
unfolding new_year
hebrew_sound = record {
  next_month = λ y m iy a b. (let e = month_more (leap (unsigned_abs y)) (year_days (unsigned_abs y)) m a in omega (arith, ints));
  next_year = next;
  some_months = λ y iy. omega arith;
  few_months = λ y iy. omega arith;
  few_days = λ y m iy im. (let f = few (leap (unsigned_abs y)) (year_days (unsigned_abs y)) m in omega arith);
  first_fits = le_z_yes tt;
  last_fits = le_z_yes tt;
  start_fits = le_z_yes tt;
  end_fits = le_z_yes tt;
}

pub regular_by : (y : ℤ) (n : ℕ) → pos 1 ≤ℤ y → n ≡ year_days (unsigned_abs y) → Regular y n
regular_by y n h e = let P : ℕ → Type 0 = λ x. Regular y x in subst P (sym e) (regular y h)

-- the count in natural numbers
pub count_is : (y : ℤ) (n d : ℕ) → pos n ≡ y → d ≡ new_year n → pos d -ℤ pos 1373428 ≡ before_year y
count_is y n d e f = back d ∙ ap (λ x. epoch +ℤ pos x -ℤ pos 1) (f ∙ ap (λ z. new_year (unsigned_abs z)) e)
  where
    back : (d : ℕ) → pos d -ℤ pos 1373428 ≡ epoch +ℤ pos d -ℤ pos 1
    back d = omega (arith, ints)
