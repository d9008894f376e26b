-- The steps of the conversion: corrections of the hints, and how far its numbers reach.
use Rattle.std.proofs.Common.{◌≡◌, ℕ, zero, suc, ◌+◌, ◌-◌, ◌*◌, ◌<◌, ◌≤◌, ℤ, pos, ◌+ℤ◌, ◌-ℤ◌, ◌≤ℤ◌, ◌<ℤ◌, true, false, Result, ◌⊎◌, Option, Some, None, MatchOption, unwrap_or, int_lt, subst, sym, refl, ap, ◌∙◌, ⊎_elim, arith, w32, w64, SFits, to_z, of_z}
use Rattle.std.proofs.lemmas.Int.{ints, to_z-of_z}
use Rattle.std.proofs.lemmas.Bool.{and_from, and_left, and_right, cases_order, cond-true}
use Rattle.date.specs.declared.dates.Date.{Date}
use Rattle.date.specs.declared.faults.Fault.{Fault}
use Rattle.date.specs.Dated.{dated}
use Rattle.date.specs.Days.{within}
use Rattle.date.specs.Fields.{year_from, year_to}
use Rattle.reckoning.specs.Orders.{lt_is, is_lt, is_le, not_le}
use Rattle.reckoning.specs.Reckoned.{has_day, on}
use Rattle.reckoning.specs.Faiths.{found_on}
use Rattle.reckoning.specs.Theory.{from_first, to_end}
use Rattle.reckoning.specs.Held.{HoldsYear, HoldsMonth, HoldsNth}
use Rattle.reckoning.specs.Years.{MonthsOf}
use Rattle.reckoning.specs.Rules.{Rule, Sound, InYears, InMonths, last_year, end}

-- years that are equal start on one day
pub start_of : (r : Rule) (x y z : ℤ) → z ≡ r.start x 1 → x ≡ y → z ≡ r.start y 1
start_of r x y z h e = h ∙ ap (λ v. r.start v 1) e

-- a day before the first year or after the last is none of the rule's
pub before_first : (r : Rule) (x n : ℤ) → x ≡ r.first → int_lt (r.start x 1) n ≡ false → has_day r n ≡ false
before_first r x n e l = and_left _ _ (subst (λ y. int_lt (r.start y 1) n ≡ false) e l)

pub after_last : (r : Rule) (n : ℤ) → end r <ℤ n → has_day r n ≡ false
after_last r n l = and_right _ _ (not_le _ _ l)

-- the days of the year before a month, on top of those before the year, are the days before the month
pub month_start : (r : Rule) (before : ℕ → ℕ) (y z x : ℤ) (m k a : ℕ) → r.start y m ≡ r.start y 1 +ℤ pos (before m) → z ≡ y → x ≡ r.start z 1 → k ≡ m → a ≡ before k → r.start y m ≡ x +ℤ pos a
month_start r before y z x m k a h e f p q =
    let n = start_of r z y x f e in
    let b = q ∙ ap before p in
    omega (arith, ints)

-- the last year holds a day that comes after its start, and by the end
pub by_last : (r : Rule) (y n : ℤ) → InYears r y → r.start y 1 <ℤ n → last_year r ≤ℤ y → n ≤ℤ end r → HoldsYear r n y
by_last r y n h a l b =
    let to = h.to in
    let e : y ≡ last_year r = omega (arith, ints) in
    record { years = h; after = a; by = rw e b }

lt_not : (a b : ℤ) → int_lt a b ≡ false → b ≤ℤ a
lt_not a b h = omega (arith, ints)

-- the year found from one that starts in time: the first whose next starts too late, or the last
pub year_held : (r : Rule) (n y last x : ℤ) (o : Option ℤ) → InYears r y → int_lt (r.start y 1) n ≡ true → last ≡ last_year r → n ≤ℤ end r → x ≡ unwrap_or o last
    → MatchOption o ((last ≡ y) ⊎ (int_lt (r.start last 1) n ≡ true)) (λ i. (y ≤ℤ i) × (i <ℤ last) × ((i ≡ y) ⊎ (int_lt (r.start i 1) n ≡ true)) × (int_lt (r.start (i +ℤ pos 1) 1) n ≡ false)) → HoldsYear r n x
year_held r n y last x None i a l b e h =
    let in_years : InYears r last = record { from = (let from = i.from in let to = i.to in omega (arith, ints)); to = omega (arith, ints) } in
    let in_time = lt_is _ _ (⊎_elim (λ k. subst (λ z. int_lt (r.start z 1) n ≡ true) (sym k) a) (λ k. k) h) in
    subst (HoldsYear r n) (sym e) (by_last r last n in_years in_time (omega (arith, ints)) b)
year_held r n y last x (Some z) i a l b e h =
    let in_years : InYears r z = record { from = (let from = i.from in omega (arith, ints, h.0)); to = omega (arith, ints, h.1) } in
    let in_time = lt_is _ _ (⊎_elim (λ k. subst (λ z. int_lt (r.start z 1) n ≡ true) (sym k) a) (λ k. k) h.2) in
    subst (HoldsYear r n) (sym e) (record { years = in_years; after = in_time; by = lt_not _ _ h.3 })

-- a month begins in time if each one from a month that does has a next that does
reached : (before : ℕ → ℕ) (n m x : ℕ) → m ≤ x → before m < n → ((k : ℕ) → m ≤ k → k < x → before (k + 1) < n) → before x < n
reached before n m x a l h = ⊎_elim (λ e. subst (λ k. before k < n) e l) (⊎_elim (λ b. subst (λ k. before k < n) (omega arith) (h (x - 1) (omega arith) (omega arith))) (λ b. absurd (omega (arith, a, b)))) (cases_order m x)

-- the month found from one that begins in time: the first whose next begins too late, or the last
pub nth_held : (before : ℕ → ℕ) (n count m x : ℕ) (o : Option ℕ) → 1 ≤ m → m ≤ count → before m < n → x ≡ unwrap_or o count
    → MatchOption o ((k : ℕ) → m ≤ k → k < count → before (k + 1) < n) (λ i. (m ≤ i) × (i < count) × (n ≤ before (i + 1)) × ((k : ℕ) → m ≤ k → k < i → before (k + 1) < n)) → HoldsNth count before n x
nth_held before n count m x None a b l e h = record { from = omega (arith, a, b, e); to = omega (arith, e); after = subst (λ k. before k < n) (sym e) (reached before n m count b l h); by = λ z. absurd (omega (arith, e, z)) }
nth_held before n count m x (Some i) a b l e h = record { from = omega (arith, a, e, h.0); to = omega (arith, e, h.1); after = subst (λ k. before k < n) (sym e) (reached before n m i h.0 l h.3); by = λ z. subst (λ k. n ≤ before (k + 1)) (sym e) h.2 }

module _ (r : Rule) (s : Sound r) where
  -- a year that holds a day has months, and none before the first
  pub first_month : (n y : ℤ) (count : ℕ) (days before : ℕ → ℕ) → HoldsYear r n y → MonthsOf r y count days before → (1 ≤ count) × (before 1 ≡ 0)
  first_month n y count days before h o =
      let some = s.some_months y h.years in
      let c = o.months in
      let q = o.start 1 (record { from = omega arith; to = some }) in
      (omega arith, omega (arith, ints))

  -- the month of the nth day of the year holds that day: the next starts too late, or there is none
  pub month_held : (n y : ℤ) (count k m : ℕ) (days before : ℕ → ℕ) → HoldsYear r n y → MonthsOf r y count days before → pos k ≡ n -ℤ r.start y 1 → HoldsNth count before k m → HoldsMonth r n y m
  month_held n y count k m days before h o e i = record { months = im; after = (let a = i.after in let q = o.start m im in omega (arith, ints)); by = ⊎_elim last (⊎_elim next (λ l. absurd (omega (arith, i.to)))) (cases_order m count) }
    where
      im : InMonths r y m
      im = record { from = i.from; to = (let to = i.to in let c = o.months in omega arith) }

      next : m < count → n ≤ℤ (r.start y m +ℤ pos (r.length y m))
      next l =
          let b = i.by l in
          let q = o.start (m + 1) (record { from = omega arith; to = omega (arith, o.months) }) in
          let f = s.next_month y m h.years i.from (omega (arith, o.months)) in
          omega (arith, ints)

      last : m ≡ count → n ≤ℤ (r.start y m +ℤ pos (r.length y m))
      last l =
          let same : m ≡ r.months y = omega (arith, o.months) in
          let f = s.next_year y h.years in
          let b = h.by in
          rw same (omega (arith, ints))

  -- the date made of a year and a month that hold a day of the range is the one that the day carries
  pub date_found : (n y : ℤ) (m : ℕ) (a b c : ℤ) (x : Result Date Fault) → HoldsYear r n y → HoldsMonth r n y m → within n ≡ true → a ≡ y → b ≡ pos m → c ≡ n -ℤ r.start y m → x ≡ dated (pos 0) a (pos 0) b c → x ≡ on r n
  unfolding on
  date_found n y m a b c x h i w p q t e = e ∙ (λ j. dated (pos 0) (p j) (pos 0) (q j) (t j)) ∙ found_on r s n y m after by h i ∙ sym (cond-true _ _ _ w ∙ cond-true _ _ _ (and_from _ _ (is_lt _ _ after) (is_le _ _ by)))
    where
      after : r.start r.first 1 <ℤ n
      after = let f = from_first r s y h.years in let g = h.after in omega (arith, ints)

      by : n ≤ℤ end r
      by = let f = to_end r s y h.years in let g = h.by in omega (arith, ints)

  -- a month starts at most 63 days after the one before it
  starts_soon : (y : ℤ) (k m : ℕ) → InYears r y → m ≡ k + 1 → m ≤ r.months y → r.start y m ≤ℤ (r.start y 1 +ℤ pos (63 * k))
  starts_soon y zero m h e l = let f : m ≡ 1 = omega arith in rw f (omega (arith, ints))
  starts_soon y (suc k) m h e l =
      let before = starts_soon y k (k + 1) h refl (omega arith) in
      let next = s.next_month y (k + 1) h (omega arith) (omega arith) in
      let few = s.few_days y (k + 1) h (record { from = omega arith; to = omega arith }) in
      let f : m ≡ k + 1 + 1 = omega arith in
      rw f (omega (arith, ints))

  -- a year is short
  pub year_short : (y : ℤ) → InYears r y → r.start (y +ℤ pos 1) 1 ≤ℤ (r.start y 1 +ℤ pos 3969)
  year_short y h = by (r.months y) refl
    where
      by : (k : ℕ) → r.months y ≡ k → r.start (y +ℤ pos 1) 1 ≤ℤ (r.start y 1 +ℤ pos 3969)
      by zero e = absurd (omega (arith, s.some_months y h))
      by (suc k) e =
          let a = starts_soon y k (r.months y) h (omega arith) (omega arith) in
          let b = s.next_year y h in
          let c = s.few_days y (r.months y) h (record { from = s.some_months y h; to = omega arith }) in
          let d = s.few_months y h in
          omega (arith, ints)

  -- a day that the year holds is one of few from its start
  pub nth_near : (n y z : ℤ) → HoldsYear r n y → z ≡ r.start y 1 → (z <ℤ n) × (n ≤ℤ (z +ℤ pos 3969))
  nth_near n y z h e =
      let a = h.after in
      let b = h.by in
      let c = year_short y h.years in
      (omega (arith, ints), omega (arith, ints))

-- numbers made wider are themselves
pub wider : (x z : ℤ) → SFits w32 z → x ≡ to_z w32 (of_z w32 z) → to_z w64 (of_z w64 x) ≡ z
wider x z f h = omega (arith, ints)

pub wider_nat : (x : ℤ) (m : ℕ) → m < 256 → x ≡ pos m → to_z w64 (of_z w64 x) ≡ pos m
wider_nat x m l h = omega (arith, ints)

-- the day of the month: the kth day of the year, less the days before the month
pub of_month : (r : Rule) (y n x : ℤ) (m k a b : ℕ) → pos k ≡ n -ℤ r.start y 1 → k < 65536 → b < k → a ≡ b → r.start y m ≡ r.start y 1 +ℤ pos b → x ≡ pos (k - a) → to_z w64 (of_z w64 x) ≡ n -ℤ r.start y m
of_month r y n x m k a b e u l q f h = omega (arith, ints)

-- ---- a year before the last, and the next, as the code holds them

fits_before : (a b y : ℤ) → year_from ≤ℤ a → b ≤ℤ year_to → a ≤ℤ y → y <ℤ b → SFits w32 y × SFits w32 (y +ℤ pos 1)
fits_before a b y l h i j = (omega (arith, ints), omega (arith, ints))

pub next_year : (r : Rule) → Sound r → (y : ℤ) → r.first ≤ℤ y → y <ℤ last_year r → SFits w32 (to_z w32 (of_z w32 y) +ℤ pos 1) × InYears r (to_z w32 (of_z w32 (to_z w32 (of_z w32 y) +ℤ pos 1)))
next_year r s y from to =
    let f = fits_before r.first (last_year r) y s.first_fits s.last_fits from to in
    let e = to_z-of_z w32 y f.0 in
    let h : InYears r (y +ℤ pos 1) = record { from = omega (arith, ints); to = omega (arith, ints) } in
    (subst (λ v. SFits w32 (v +ℤ pos 1)) (sym e) f.1, subst (InYears r) (sym (ap (λ v. to_z w32 (of_z w32 (v +ℤ pos 1))) e ∙ to_z-of_z w32 _ f.1)) h)
