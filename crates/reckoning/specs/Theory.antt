-- What the laws of a rule give: every day of its years is named by one triple of year, month and day of the month, and a
-- later triple names a later day.
use Rattle.std.specs.Prelude.{◌≡◌, ℕ, zero, suc, ◌+◌, ◌-◌, ◌<◌, ◌≤◌, Bool, true, false, cond, ◌⊎◌, ℤ, pos, ◌+ℤ◌, ◌-ℤ◌, ◌≤ℤ◌, ◌<ℤ◌, int_lt, unsigned_abs, refl}
use Rattle.std.proofs.Common.{arith, inl, inr, ⊎_elim, sym}
use Rattle.std.proofs.lemmas.Int.{ints}
use Rattle.std.proofs.lemmas.Bool.{cases_order}
use Rattle.reckoning.specs.Held.{HoldsYear, HoldsMonth}
use Rattle.reckoning.specs.Reckoned.{latest, year_on, month_on}
use Rattle.reckoning.specs.Rules.{Rule, Sound, InYears, InMonths, last_year, end}
use Rattle.reckoning.specs.Orders.{orderℤ, is_lt}

-- a year, a month and a day of the month that the rule has
pub record Valid (r : Rule) (y : ℤ) (m t : ℕ) : Type 0 where
  pub year : InYears r y
  pub month : InMonths r y m
  pub from : 1 ≤ t
  pub to : t ≤ r.length y m

abbrev pub day_at : Rule → ℤ → ℕ → ℕ → ℤ
day_at r y m t = r.start y m +ℤ pos t

-- the earlier by year, then month, then day of the month
abbrev pub Before : ℤ → ℕ → ℕ → ℤ → ℕ → ℕ → Type 0
Before y m t z k u = (y <ℤ z) ⊎ ((y ≡ z) × ((m < k) ⊎ ((m ≡ k) × (t < u))))

abbrev pub Same : ℤ → ℕ → ℕ → ℤ → ℕ → ℕ → Type 0
Same y m t z k u = (y ≡ z) × (m ≡ k) × (t ≡ u)

module _ (r : Rule) (s : Sound r) where
  -- a later month of the year starts once this one has ended
  later_month : (y : ℤ) → InYears r y → (m k n : ℕ) → 1 ≤ m → n ≡ m + suc k → n ≤ r.months y → (r.start y m +ℤ pos (r.length y m)) ≤ℤ r.start y n
  later_month y iy m zero n h e l =
      let e' : n ≡ m + 1 = omega arith in
      let here = s.next_month y m iy h (omega arith) in
      rw e' (omega (arith, ints))
  later_month y iy m (suc k) n h e l =
      let p : ℕ = m + suc k in
      let e' : n ≡ p + 1 = omega arith in
      let before = later_month y iy m k p h refl (omega arith) in
      let here = s.next_month y p iy (omega arith) (omega arith) in
      rw e' (omega (arith, ints))

  -- and so does the next year
  pub month_ends : (y : ℤ) (m : ℕ) → InYears r y → InMonths r y m → (r.start y m +ℤ pos (r.length y m)) ≤ℤ r.start (y +ℤ pos 1) 1
  month_ends y m iy im = ⊎_elim at (⊎_elim before (λ g. absurd (omega (arith, im.to)))) (cases_order m (r.months y))
    where
      before : m < r.months y → (r.start y m +ℤ pos (r.length y m)) ≤ℤ r.start (y +ℤ pos 1) 1
      before l =
          let a = later_month y iy m (r.months y - suc m) (r.months y) im.from (omega arith) (omega arith) in
          let b = s.next_year y iy in
          omega (arith, ints)

      at : m ≡ r.months y → (r.start y m +ℤ pos (r.length y m)) ≤ℤ r.start (y +ℤ pos 1) 1
      at e = let b = s.next_year y iy in rw e (omega (arith, ints))

  -- no month starts before its year
  pub month_begins : (y : ℤ) (m : ℕ) → InYears r y → InMonths r y m → r.start y 1 ≤ℤ r.start y m
  month_begins y m iy im = ⊎_elim at (⊎_elim after (λ g. absurd (omega (arith, im.from)))) (cases_order 1 m)
    where
      after : 1 < m → r.start y 1 ≤ℤ r.start y m
      after l = let a = later_month y iy 1 (m - 2) m (omega arith) (omega arith) im.to in omega (arith, ints)

      at : 1 ≡ m → r.start y 1 ≤ℤ r.start y m
      at e = rw (← e) (omega (arith, ints))

  -- a later year starts no sooner
  pub later_year : (y : ℤ) (k : ℕ) (z : ℤ) → r.first ≤ℤ y → z ≡ y +ℤ pos k → z ≤ℤ (last_year r +ℤ pos 1) → r.start y 1 ≤ℤ r.start z 1
  later_year y zero z h e l = let e' : z ≡ y = omega (arith, ints) in rw e' (omega (arith, ints))
  later_year y (suc k) z h e l =
      let p : ℤ = y +ℤ pos k in
      let e' : z ≡ p +ℤ pos 1 = omega (arith, ints) in
      let iy : InYears r p = record { from = omega (arith, ints); to = omega (arith, ints) } in
      let im : InMonths r p 1 = record { from = omega arith; to = s.some_months p iy } in
      let before = later_year y k p h refl (omega (arith, ints)) in
      let here = month_ends p 1 iy im in
      rw e' (omega (arith, ints))

  -- the years from the first to one of them, and from one of them past the last
  pub from_first : (y : ℤ) → InYears r y → r.start r.first 1 ≤ℤ r.start y 1
  from_first y iy =
      let a = iy.from in
      let b = iy.to in
      later_year r.first (unsigned_abs (y -ℤ r.first)) y (omega (arith, ints)) (omega (arith, ints)) (omega (arith, ints))

  pub to_end : (y : ℤ) → InYears r y → r.start (y +ℤ pos 1) 1 ≤ℤ end r
  to_end y iy =
      let a = iy.from in
      let b = iy.to in
      later_year (y +ℤ pos 1) (unsigned_abs (last_year r -ℤ y)) (last_year r +ℤ pos 1) (omega (arith, ints)) (omega (arith, ints)) (omega (arith, ints))

  -- a valid day lies in its year
  pub day_after : (y : ℤ) (m t : ℕ) → Valid r y m t → r.start y 1 <ℤ day_at r y m t
  day_after y m t v = let a = month_begins y m v.year v.month in let b = v.from in omega (arith, ints)

  pub day_before : (y : ℤ) (m t : ℕ) → Valid r y m t → day_at r y m t ≤ℤ r.start (y +ℤ pos 1) 1
  day_before y m t v = let a = month_ends y m v.year v.month in let b = v.to in omega (arith, ints)

  -- and in the rule's years
  pub day_in : (y : ℤ) (m t : ℕ) → Valid r y m t → (r.start r.first 1 <ℤ day_at r y m t) × (day_at r y m t ≤ℤ end r)
  day_in y m t v =
      let a = day_after y m t v in
      let b = day_before y m t v in
      let c = from_first y v.year in
      let d = to_end y v.year in
      (omega (arith, ints), omega (arith, ints))

  -- a later triple has a later day
  pub later : (y : ℤ) (m t : ℕ) (z : ℤ) (k u : ℕ) → Valid r y m t → Valid r z k u → Before y m t z k u → day_at r y m t <ℤ day_at r z k u
  later y m t z k u v w (inl l) =
      let a = day_before y m t v in
      let b = day_after z k u w in
      let from = v.year.from in
      let to = w.year.to in
      let c = later_year (y +ℤ pos 1) (unsigned_abs (z -ℤ (y +ℤ pos 1))) z (omega (arith, ints)) (omega (arith, ints)) (omega (arith, ints)) in
      omega (arith, ints)
  later y m t z k u v w (inr p) = ⊎_elim month (λ q. day q.0 q.1) p.1
    where
      month : m < k → day_at r y m t <ℤ day_at r z k u
      month l =
          let a = later_month y v.year m (k - suc m) k v.month.from (omega arith) (rw p.0 w.month.to) in
          let b = v.to in
          let c = w.from in
          let same : r.start z k ≡ r.start y k = rw p.0 in
          omega (arith, ints)

      day : m ≡ k → t < u → day_at r y m t <ℤ day_at r z k u
      day f l = let same : r.start z k ≡ r.start y m = rw (p.0, f) in omega (arith, ints)

  pub compare : (y : ℤ) (m t : ℕ) (z : ℤ) (k u : ℕ) → Before y m t z k u ⊎ (Same y m t z k u ⊎ Before z k u y m t)
  compare y m t z k u = ⊎_elim (λ l. inl (inl l)) (⊎_elim months (λ g. inr (inr (inl g)))) (orderℤ y z)
    where
      days : y ≡ z → m ≡ k → Before y m t z k u ⊎ (Same y m t z k u ⊎ Before z k u y m t)
      days p q = ⊎_elim (λ e. inr (inl (p, q, e))) (⊎_elim (λ l. inl (inr (p, inr (q, l)))) (λ g. inr (inr (inr (sym p, inr (sym q, g)))))) (cases_order t u)

      months : y ≡ z → Before y m t z k u ⊎ (Same y m t z k u ⊎ Before z k u y m t)
      months p = ⊎_elim (days p) (⊎_elim (λ l. inl (inr (p, inl l))) (λ g. inr (inr (inr (sym p, inl g))))) (cases_order m k)

  -- one day has one triple
  pub unique : (y : ℤ) (m t : ℕ) (z : ℤ) (k u : ℕ) → Valid r y m t → Valid r z k u → day_at r y m t ≡ day_at r z k u → Same y m t z k u
  unique y m t z k u v w h =
      ⊎_elim (λ l. absurd (let a = later y m t z k u v w l in omega (arith, ints))) (⊎_elim (λ p. p) (λ g. absurd (let a = later z k u y m t w v g in omega (arith, ints)))) (compare y m t z k u)

-- the largest number that passes a test, where there is one
pub record Latest (t : ℕ → Bool) (k j : ℕ) : Type 0 where
  pub to : j ≤ k
  pub yes : t j ≡ true
  pub no : j < k → t (j + 1) ≡ false

pub latest_is : (t : ℕ → Bool) (k : ℕ) → t 0 ≡ true → Latest t k (latest t k)
latest_is t zero h = record { to = omega arith; yes = h; no = λ l. absurd (omega arith) }
latest_is t (suc k) h = by (t (suc k)) refl (latest_is t k h)
  where
    by : (b : Bool) → t (suc k) ≡ b → Latest t k (latest t k) → Latest t (suc k) (cond b (suc k) (latest t k))
    by true e i = record { to = omega arith; yes = e; no = λ l. absurd (omega arith) }
    by false e i = record { to = omega (arith, i.to); yes = i.yes; no = next }
      where
        next : latest t k < suc k → t (latest t k + 1) ≡ false
        next l = ⊎_elim (λ f. let g : latest t k + 1 ≡ suc k = omega arith in rw g e) (⊎_elim (λ m. i.no m) (λ g. absurd (omega arith))) (cases_order (latest t k) k)

module _ (r : Rule) (s : Sound r) where
  pub year_found : (n : ℤ) → r.start r.first 1 <ℤ n → n ≤ℤ end r → HoldsYear r n (year_on r n)
  year_found n a b = record { years = record { from = omega (arith, ints); to = (let to = is.to in omega (arith, ints)) }; after = (let yes = is.yes in omega (arith, ints)); by = ⊎_elim at (⊎_elim before (λ g. absurd (omega (arith, is.to)))) (cases_order j r.span) }
    where
      zeroth : int_lt (r.start (r.first +ℤ pos 0) 1) n ≡ true
      zeroth = let e : r.first +ℤ pos 0 ≡ r.first = omega (arith, ints) in rw e (is_lt _ _ a)

      j : ℕ
      j = latest (λ i. int_lt (r.start (r.first +ℤ pos i) 1) n) r.span

      is : Latest (λ i. int_lt (r.start (r.first +ℤ pos i) 1) n) r.span j
      is = latest_is (λ i. int_lt (r.start (r.first +ℤ pos i) 1) n) r.span zeroth

      before : j < r.span → n ≤ℤ r.start (r.first +ℤ pos j +ℤ pos 1) 1
      before l =
          let f = is.no l in
          let e : r.first +ℤ pos j +ℤ pos 1 ≡ r.first +ℤ pos (j + 1) = omega (arith, ints) in
          rw e (omega (arith, ints))

      at : j ≡ r.span → n ≤ℤ r.start (r.first +ℤ pos j +ℤ pos 1) 1
      at e = rw e b

  pub month_found : (n y : ℤ) → HoldsYear r n y → HoldsMonth r n y (month_on r y n)
  month_found n y h = record { months = record { from = omega arith; to = omega (arith, is.to, some) }; after = (let yes = is.yes in omega (arith, ints)); by = ⊎_elim at (⊎_elim before (λ g. absurd (omega (arith, is.to, some)))) (cases_order (j + 1) (r.months y)) }
    where
      some : 1 ≤ r.months y
      some = s.some_months y h.years

      j : ℕ
      j = latest (λ i. int_lt (r.start y (i + 1)) n) (r.months y - 1)

      is : Latest (λ i. int_lt (r.start y (i + 1)) n) (r.months y - 1) j
      is = latest_is (λ i. int_lt (r.start y (i + 1)) n) (r.months y - 1) (is_lt _ _ h.after)

      before : j + 1 < r.months y → n ≤ℤ (r.start y (j + 1) +ℤ pos (r.length y (j + 1)))
      before l =
          let f = is.no (omega arith) in
          let next = s.next_month y (j + 1) h.years (omega arith) l in
          omega (arith, ints)

      at : j + 1 ≡ r.months y → n ≤ℤ (r.start y (j + 1) +ℤ pos (r.length y (j + 1)))
      at e = let next = s.next_year y h.years in let b = h.by in rw e (omega (arith, ints))

-- a year and a month that hold the day make a valid triple on it
pub there : (r : Rule) (n y : ℤ) (m : ℕ) → HoldsYear r n y → HoldsMonth r n y m → Valid r y m (unsigned_abs (n -ℤ r.start y m)) × (day_at r y m (unsigned_abs (n -ℤ r.start y m)) ≡ n) × (pos (unsigned_abs (n -ℤ r.start y m)) ≡ n -ℤ r.start y m)
there r n y m h i =
    let a = i.after in
    let b = i.by in
    (record { year = h.years; month = i.months; from = omega (arith, ints); to = omega (arith, ints) }, omega (arith, ints), omega (arith, ints))
