-- Every rule that keeps its laws is faithful, and so means a lawful calendar.
use Rattle.std.specs.Prelude.{◌≡◌, ℕ, suc, ◌<◌, ◌≤◌, Bool, true, false, cond, ◌&&◌, ℤ, pos, ◌+ℤ◌, ◌-ℤ◌, ◌≤ℤ◌, ◌<ℤ◌, Ok, Err, Result, ◌==◌, int_le, int_lt, nat_le, unsigned_abs, refl}
use Rattle.std.proofs.Common.{arith, ⊎_elim, ap, ◌∙◌, subst}
use Rattle.std.proofs.Math.Path.{sym, transport}
use Rattle.std.proofs.lemmas.Int.{ints}
use Rattle.std.proofs.lemmas.Bool.{and_parts, and_from, eqb-true, eq-eqb, ne_eqb, le-leb, cond-true, cond-false}
use Rattle.std.proofs.lemmas.Bool.Decides.{nat_tests}
use Rattle.calendar.specs.Meaning.{Lawful}
use Rattle.calendar.proofs.Laws.{ok_not_err}
use Rattle.date.specs.declared.dates.Date.{Date}
use Rattle.date.specs.declared.faults.Fault.{Fault}
use Rattle.date.specs.Dated.{passed}
use Rattle.date.specs.Days.{within}
use Rattle.date.specs.Order.{earlier}
use Rattle.date.proofs.Keys.{key, date_ranged, keyed, from_before, same_date}
use Rattle.date.proofs.Making.{made, dated_is, date_of}
use Rattle.reckoning.specs.Faith.{Faithful}
use Rattle.reckoning.specs.Held.{HoldsYear, HoldsMonth}
use Rattle.reckoning.specs.Reckoned.{Names, reckoned, on, of, misdated, counted, has_year, month_days, dated_in, dated_on, year_on, month_on}
use Rattle.reckoning.specs.Rules.{Rule, Sound, InYears, InMonths, last_year, end}
use Rattle.reckoning.specs.Orders.{is_lt, is_le, lt_is, le_is}
use Rattle.reckoning.specs.Theory.{Valid, day_at, Before, day_in, later, compare, unique, year_found, month_found, there}

-- a test that let an answer through
through : {X : Type 0} (t : Bool) (x : Result X Fault) (f : Fault) (v : X) → cond t x (Err f) ≡ Ok v → (t ≡ true) × (x ≡ Ok v)
through true x f v h = (refl, h)
through false x f v h = ok_not_err (Err f) v f h refl

names_valid : (r : Rule) (d : Date) (n : ℤ) → Names r d n → Valid r d.year d.month d.day
names_valid r d n h = let f = date_ranged d in record { year = h.year; month = h.month; from = omega (arith, ints); to = h.to }

-- ---- the day of a date

-- what the fields of a date are where none is out
pub record Checked (r : Rule) (d : Date) : Type 0 where
  pub era : d.era ≡ 0
  pub mark : d.mark ≡ 0
  pub year : InYears r d.year
  pub month : InMonths r d.year d.month
  pub to : d.day ≤ r.length d.year d.month

-- a month of some days is one of the year's
has_days : (a b k t : ℕ) → 1 ≤ t → (cond (nat_le a b) k 0 == 0) ≡ false → nat_le t (cond (nat_le a b) k 0) ≡ true → (a ≤ b) × (t ≤ k)
has_days a b k t f h l = (grind (arith, nat_tests), grind (arith, nat_tests))

pub checked : (r : Rule) (d : Date) → misdated r d ≡ 0 → Checked r d
checked r d h =
    let f = date_ranged d in
    let a = passed (d.era == 0) _ _ h in
    let b = passed (has_year r d.year) _ _ a.1 in
    let c = passed (d.mark == 0) _ _ b.1 in
    let e = failed (month_days r d.year d.month == 0) _ _ c.1 in
    let g = passed (nat_le d.day (month_days r d.year d.month)) _ _ e.1 in
    let y = and_parts (int_le r.first d.year) (int_le d.year (last_year r)) b.0 in
    let m = has_days d.month (r.months d.year) (r.length d.year d.month) d.day (omega (arith, ints)) e.0 g.0 in
    record { era = eqb-true _ _ a.0; mark = eqb-true _ _ c.0; year = record { from = le_is _ _ y.0; to = le_is _ _ y.1 }; month = record { from = omega (arith, ints); to = m.0 }; to = m.1 }
  where
    failed : (t : Bool) (k x : ℕ) → cond t (suc k) x ≡ 0 → (t ≡ false) × (x ≡ 0)
    failed true k x q = absurd (omega arith)
    failed false k x q = (refl, q)

pub unchecked : (r : Rule) (d : Date) → Checked r d → misdated r d ≡ 0
unchecked r d c =
    let f = date_ranged d in
    let t = c.to in
    let days : month_days r d.year d.month ≡ r.length d.year d.month = cond-true _ _ _ (le-leb _ _ c.month.to) in
    cond-true _ _ _ (eq-eqb _ _ c.era)
    ∙ cond-true _ _ _ (and_from _ _ (is_le _ _ c.year.from) (is_le _ _ c.year.to))
    ∙ cond-true _ _ _ (eq-eqb _ _ c.mark)
    ∙ cond-false _ _ _ (ne_eqb (month_days r d.year d.month) 0 (λ z. omega (arith, ints)))
    ∙ cond-true _ _ _ (le-leb d.day (month_days r d.year d.month) (omega (arith, ints)))

of_out : (r : Rule) (n : ℤ) (d : Date) → of r d ≡ Ok n → (within n ≡ true) × Names r d n
unfolding of
of_out r n d h =
    let a = through (misdated r d == 0) _ _ n h in
    let c = checked r d (eqb-true _ _ a.0) in
    let b = through (within (day_at r d.year d.month d.day)) (Ok _) _ n a.1 in
    let e : day_at r d.year d.month d.day ≡ n = (let z = b.1 in cc) in
    (ap within (sym e) ∙ b.0, record { era = c.era; mark = c.mark; year = c.year; month = c.month; to = c.to; day = sym e })

of_in : (r : Rule) (n : ℤ) (d : Date) → (within n ≡ true) × Names r d n → of r d ≡ Ok n
unfolding of
of_in r n d (w, h) =
    let c : misdated r d ≡ 0 = unchecked r d (record { era = h.era; mark = h.mark; year = h.year; month = h.month; to = h.to }) in
    cond-true _ _ _ (eq-eqb _ _ c) ∙ ap (counted r) (sym h.day) ∙ cond-true _ _ _ w

-- ---- the date on a day

module _ (r : Rule) (s : Sound r) where
  -- a date made of a year and a month that hold the day names it
  names_in : (n y : ℤ) (m : ℕ) (d : Date) → HoldsYear r n y → HoldsMonth r n y m → dated_in r n y m ≡ Ok d → Names r d n
  names_in n y m d h i e =
      let t = there r n y m h i in
      let k = made _ _ _ _ _ d e in
      let v = t.0 in
      let year : y ≡ d.year = sym k.year in
      let month : m ≡ d.month = (let q = k.month in omega (arith, ints)) in
      let day : unsigned_abs (n -ℤ r.start y m) ≡ d.day = (let q = k.day in let z = t.2 in omega (arith, ints)) in
      record {
        era = (let q = k.era in omega (arith, ints));
        mark = (let q = k.mark in omega (arith, ints));
        year = subst (InYears r) year v.year;
        month = transport (λ j. InMonths r (year j) (month j)) v.month;
        to = transport (λ j. day j ≤ r.length (year j) (month j)) v.to;
        day = sym t.1 ∙ (λ j. r.start (year j) (month j) +ℤ pos (day j));
      }

  -- and where there is one, that is the date found
  found_is : (n y : ℤ) (m : ℕ) (d : Date) → HoldsYear r n y → HoldsMonth r n y m → Names r d n → dated_in r n y m ≡ Ok d
  found_is n y m d h i q =
      let t = there r n y m h i in
      let u = unique r s _ _ _ _ _ _ (names_valid r d n q) t.0 (sym q.day ∙ sym t.1) in
      dated_is d _ _ _ _ _ (ap pos q.era) u.0 (ap pos q.mark) (ap pos u.1) (ap pos u.2 ∙ t.2)

  -- some date is found
  some_date : (n y : ℤ) (m : ℕ) → HoldsYear r n y → HoldsMonth r n y m → (d : Date) × (dated_in r n y m ≡ Ok d)
  some_date n y m h i =
      let t = there r n y m h i in
      let v = t.0 in
      let z = t.2 in
      let from = v.year.from in
      let to = v.year.to in
      let low = s.first_fits in
      let high = s.last_fits in
      let few = s.few_months y v.year in
      let short = s.few_days y m v.year v.month in
      let a = v.month.from in
      let b = v.month.to in
      let c = v.from in
      let e = v.to in
      date_of _ _ _ _ _ (record { era_from = omega (arith, ints); era_to = omega (arith, ints); year_from = omega (arith, ints); year_to = omega (arith, ints); mark_from = omega (arith, ints); mark_to = omega (arith, ints); month_from = omega (arith, ints); month_to = omega (arith, ints); day_from = omega (arith, ints); day_to = omega (arith, ints) })

  -- whatever year and month hold the day, they make the date on it
  pub found_on : (n y : ℤ) (m : ℕ) → r.start r.first 1 <ℤ n → n ≤ℤ end r → HoldsYear r n y → HoldsMonth r n y m → dated_in r n y m ≡ dated_on r n
  unfolding dated_on
  found_on n y m a b h i =
      let g = year_found r s n a b in
      let k = month_found r s n (year_on r n) g in
      let d = some_date n y m h i in
      d.1 ∙ sym (found_is n (year_on r n) (month_on r (year_on r n) n) d.0 g k (names_in n y m d.0 h i d.1))

  on_out : (n : ℤ) (d : Date) → on r n ≡ Ok d → (within n ≡ true) × Names r d n
  unfolding on dated_on
  on_out n d e =
      let a = through (within n) _ _ d e in
      let b = through (int_lt (r.start r.first 1) n && int_le n (end r)) (dated_on r n) _ d a.1 in
      let p = and_parts _ _ b.0 in
      let g = year_found r s n (lt_is _ _ p.0) (le_is _ _ p.1) in
      (a.0, names_in n (year_on r n) (month_on r (year_on r n) n) d g (month_found r s n (year_on r n) g) b.1)

  on_in : (n : ℤ) (d : Date) → (within n ≡ true) × Names r d n → on r n ≡ Ok d
  unfolding on dated_on
  on_in n d (w, q) =
      let i = day_in r s _ _ _ (names_valid r d n q) in
      let e = q.day in
      let a : r.start r.first 1 <ℤ n = (let z = i.0 in omega (arith, ints)) in
      let b : n ≤ℤ end r = (let z = i.1 in omega (arith, ints)) in
      let g = year_found r s n a b in
      cond-true _ _ _ w ∙ cond-true _ _ _ (and_from _ _ (is_lt _ _ a) (is_le _ _ b)) ∙ found_is n (year_on r n) (month_on r (year_on r n) n) d g (month_found r s n (year_on r n) g) q

  -- two dates that name one day are one
  same_named : (n : ℤ) (d e : Date) → Names r d n → Names r e n → e ≡ d
  same_named n d e p q =
      let u = unique r s _ _ _ _ _ _ (names_valid r e n q) (names_valid r d n p) (sym q.day ∙ p.day) in
      same_date e d (q.era ∙ sym p.era) u.0 (q.mark ∙ sym p.mark) u.1 u.2

  in_order : (n k : ℤ) (d e : Date) → n <ℤ k → Names r d n → Names r e k → earlier d e ≡ true
  in_order n k d e l p q = ⊎_elim (λ b. from_before d e (sooner b)) (⊎_elim (λ o. absurd (let z : day_at r d.year d.month d.day ≡ day_at r e.year e.month e.day = (λ j. day_at r (o.0 j) (o.1 j) (o.2 j)) in let a = p.day in let c = q.day in omega (arith, ints))) (λ b. absurd (let z = later r s _ _ _ _ _ _ (names_valid r e k q) (names_valid r d n p) b in let a = p.day in let c = q.day in omega (arith, ints)))) (compare r s d.year d.month d.day e.year e.month e.day)
    where
      sooner : Before d.year d.month d.day e.year e.month e.day → key d < key e
      sooner b =
          let f = date_ranged d in
          let g = date_ranged e in
          let x = keyed d in
          let y = keyed e in
          let xe = p.era in
          let ye = q.era in
          let xm = p.mark in
          let ym = q.mark in
          ⊎_elim (λ t. omega (arith, ints)) (λ t. ⊎_elim (λ u. omega (arith, ints, t.0)) (λ u. omega (arith, ints, t.0, u.0, u.1)) t.1) b

  pub faithful : Faithful r
  faithful = record {
    one_date = λ n a b. (let g = year_found r s n a b in let i = month_found r s n (year_on r n) g in let d = some_date n _ _ g i in let q = names_in n _ _ d.0 g i d.1 in (d.0, q, λ e h. same_named n d.0 e q h));
    on_exact = λ n d. (on_out n d, on_in n d);
    of_exact = λ n d. (of_out r n d, of_in r n d);
    ascends = in_order;
  }

  pub rule_lawful : Lawful (reckoned r)
  unfolding on
  rule_lawful = record {
    outside = λ n e. cond-false _ _ _ e;
    exact = λ n d. ((λ h. of_in r n d (on_out n d h)), (λ h. on_in n d (of_out r n d h)));
    ascends = λ n k d e l h i. in_order n k d e l (on_out n d h).1 (on_out k e i).1;
  }
