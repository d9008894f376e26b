-- The weeks of a year: 52 or 53, from a Monday on.
use Rattle.std.specs.Prelude.{◌≡◌, ℕ, ◌+◌, ◌-◌, ◌%◌, ◌≤◌, Bool, true, false, cond, ◌⊎◌, ℤ, pos, ◌+ℤ◌, ◌-ℤ◌, ◌==◌, unsigned_abs, refl}
use Rattle.std.proofs.Common.{arith, inl, inr, ⊎_elim, ap, ◌∙◌}
use Rattle.std.specs.Int.Signed.{le_z_yes}
use Rattle.std.proofs.lemmas.Int.{ints}
use Rattle.std.proofs.lemmas.Bool.{cases_lt}
use Rattle.date.specs.Division.{remainder}
use Rattle.date.proofs.Divisions.{one_if, floors, floor_is}
use Rattle.reckoning.specs.Rules.{Sound}
use Rattle.solar.specs.Gregorian.{leap, before_year}
use Rattle.solar.specs.Iso.{monday_by, week_one, weeks, iso}
use Rattle.solar.specs.WholeWeeks.{Whole}
use Rattle.solar.specs.GregorianYears.{turns}

-- the Monday on or before a day is one
on_monday : (m n : ℤ) → m ≡ monday_by n → remainder m 7 ≡ 1
on_monday m n e =
    let f : m ≡ n -ℤ pos (remainder (n -ℤ pos 1) 7) = e in
    let a = floor_is m 7 (omega arith) in
    let b = floor_is (n -ℤ pos 1) 7 (omega arith) in
    omega (arith, ints, floors)

-- from there to that of 365 or 366 days later it is 52 or 53 weeks
monday_more : (a b n : ℤ) (l : ℕ) → l ≤ 1 → a ≡ monday_by n → b ≡ monday_by (n +ℤ pos (365 + l)) → (b ≡ a +ℤ pos 364) ⊎ (b ≡ a +ℤ pos 371)
monday_more a b n l h p q =
    let k = n +ℤ pos (365 + l) in
    let e : a ≡ n -ℤ pos (remainder (n -ℤ pos 1) 7) = p in
    let f : b ≡ k -ℤ pos (remainder (k -ℤ pos 1) 7) = q in
    let s = floor_is (n -ℤ pos 1) 7 (omega arith) in
    let t = floor_is (k -ℤ pos 1) 7 (omega arith) in
    ⊎_elim (λ u. inl (omega (arith, ints, floors))) (λ u. inr (omega (arith, ints, floors))) (cases_lt (remainder (n -ℤ pos 1) 7 + l) 6)

few : (t : Bool) → one_if t ≤ 1
few true = omega arith
few false = omega arith

year_more : (y : ℤ) → (week_one (y +ℤ pos 1) ≡ week_one y +ℤ pos 364) ⊎ (week_one (y +ℤ pos 1) ≡ week_one y +ℤ pos 371)
unfolding week_one
year_more y =
    let e = turns y in
    let f : before_year y +ℤ pos (365 + one_if (leap y)) +ℤ pos 4 ≡ before_year y +ℤ pos 4 +ℤ pos (365 + one_if (leap y)) = omega (arith, ints) in
    monday_more _ _ (before_year y +ℤ pos 4) (one_if (leap y)) (few (leap y)) refl (ap monday_by (ap (λ d. d +ℤ pos 4) e ∙ f))

monday : (y : ℤ) → remainder (week_one y) 7 ≡ 1
unfolding week_one
monday y = on_monday (week_one y) (before_year y +ℤ pos 4) refl

by_days : (y : ℤ) (d : ℕ) → week_one (y +ℤ pos 1) ≡ week_one y +ℤ pos d → weeks y ≡ cond (d == 371) 53 52
unfolding weeks
by_days y d e = ap (λ n. cond (n == 371) 53 52) (far (week_one y) (week_one (y +ℤ pos 1)) e)
  where
    far : (a b : ℤ) → b ≡ a +ℤ pos d → unsigned_abs (b -ℤ a) ≡ d
    far a b e = omega (arith, ints)

pub whole : (y : ℤ) → Whole y
whole y = record {
  monday = monday y;
  turns = ⊎_elim (λ e. inl (e, by_days y 364 e)) (λ e. inr (e, by_days y 371 e)) (year_more y);
}

few_weeks : (y : ℤ) → (1 ≤ weeks y) × (weeks y ≤ 53)
few_weeks y = ⊎_elim (λ p. (omega arith, omega arith)) (λ p. (omega arith, omega arith)) (whole y).turns

next : (y : ℤ) → iso.start (y +ℤ pos 1) 1 ≡ iso.start y (weeks y) +ℤ pos 7
next y = ⊎_elim (λ p. omega (arith, ints)) (λ p. omega (arith, ints)) (whole y).turns

pub iso_sound : Sound iso
unfolding week_one before_year
iso_sound = record {
  next_month = λ y w iy a b. omega (arith, ints);
  next_year = λ y iy. next y;
  some_months = λ y iy. (few_weeks y).0;
  few_months = λ y iy. omega (arith, (few_weeks y).1);
  few_days = λ y w iy iw. omega arith;
  first_fits = le_z_yes tt;
  last_fits = le_z_yes tt;
  start_fits = le_z_yes tt;
  end_fits = le_z_yes tt;
}

-- the count in natural numbers
pub count_is : (y : ℤ) (n r : ℕ) → pos n ≡ before_year y → r ≡ (n + 3) % 7 → pos (n + 3 - r) ≡ week_one y -ℤ pos 1
unfolding week_one
count_is y n r e p =
    let third : before_year y +ℤ pos 4 -ℤ pos 1 ≡ pos (n + 3) = omega (arith, ints) in
    let f : week_one y ≡ before_year y +ℤ pos 4 -ℤ pos (remainder (before_year y +ℤ pos 4 -ℤ pos 1) 7) = refl in
    let g : remainder (before_year y +ℤ pos 4 -ℤ pos 1) 7 ≡ (n + 3) % 7 = ap (λ z. remainder z 7) third in
    omega (arith, ints)

-- how far the counts of a year and of the next lie apart
pub apart : (y a b : ℤ) → a ≡ week_one (y +ℤ pos 1) -ℤ pos 1 → b ≡ week_one y -ℤ pos 1 → ((a -ℤ b ≡ pos 364) × (weeks y ≡ 52)) ⊎ ((a -ℤ b ≡ pos 371) × (weeks y ≡ 53))
apart y a b e f = ⊎_elim (λ p. inl (omega (arith, ints), p.1)) (λ p. inr (omega (arith, ints), p.1)) (whole y).turns
