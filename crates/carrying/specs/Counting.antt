-- Eras over a calendar that keeps the law keep it, and their days carry the dates that the rule says.
use Rattle.std.proofs.Common.{◌≡◌, ℕ, suc, ◌+◌, ◌*◌, ◌<◌, Bool, true, eqb, ◌↔◌, List, ℤ, pos, ◌+ℤ◌, ◌-ℤ◌, ◌<ℤ◌, Ok, Err, Result, sym, refl, ap, ◌∙◌, subst, inl, inr, ⊎_elim, arith}
use Rattle.std.proofs.lemmas.Int.{ints}
use Rattle.std.proofs.lemmas.Bool.{eqb-true, eqb-false, eq-eqb, ne_eqb, lt-ltb, cond-true, cond-false, cases_order}
use Rattle.std.proofs.lemmas.Option.{same_Some}
use Rattle.calendar.specs.declared.rows.Row.{Row}
use Rattle.carrying.specs.Carries.{LastBegun, Counted, ByEra}
use Rattle.calendar.specs.Eras.{bare_year, first_year, raised, in_row, reckoned, lowered, from_row, unreckoned, belonging, with_eras}
use Rattle.calendar.specs.Meaning.{Meaning, Lawful}
use Rattle.calendar.specs.Rows.{row_of, era_on}
use Rattle.calendar.proofs.Laws.{ok_not_err, dated_within}
use Rattle.carrying.specs.Begun.{begun, era_none, era_last, last_some, era_grows}
use Rattle.carrying.specs.Days.{sooner}
use Rattle.carrying.specs.Results.{by_bool, same_ok, from_handed, from_replaced, by_true, then_so, to_then}
use Rattle.date.specs.declared.dates.Date.{Date}
use Rattle.date.specs.declared.faults.Fault.{Fault}
use Rattle.date.specs.Days.{within}
use Rattle.date.specs.Order.{earlier, by_nat, decide}
use Rattle.date.specs.Refusals.{handed, replaced, then}
use Rattle.date.proofs.Keys.{key, keyed, from_before}
use Rattle.date.proofs.Making.{dated_is, made}

-- ---- the two dates of a day in a row

raised_so : (i : ℕ) (r : Row) (o b d : Date) → b.era ≡ 0 → o.era ≡ 0 → raised i r o.year b ≡ Ok d → Counted i r o b d
raised_so i r o b d e f h =
    let m = made _ _ _ _ _ d (from_replaced _ _ d h) in
    record { no_era = e; no_era_first = f; era = grind (arith, m.era); year = m.year; mark = grind (arith, m.mark); month = grind (arith, m.month); day = grind (arith, m.day) }

lowered_so : (r : Row) (o b d : Date) → o.era ≡ 0 → lowered r o.year d ≡ Ok b → Counted d.era r o b d
lowered_so r o b d f h =
    let m = made _ _ _ _ _ b (from_replaced _ _ b h) in
    record { no_era = grind (arith, m.era); no_era_first = f; era = refl; year = omega (arith, ints, m.year); mark = grind (arith, m.mark); month = grind (arith, m.month); day = grind (arith, m.day) }

to_raised : (i : ℕ) (r : Row) (o b d : Date) → Counted i r o b d → raised i r o.year b ≡ Ok d
to_raised i r o b d x = ap (replaced _) (dated_is d (pos i) (pos r.number +ℤ b.year -ℤ o.year) (pos b.mark) (pos b.month) (pos b.day) (ap pos x.era) x.year (ap pos x.mark) (ap pos x.month) (ap pos x.day))

to_lowered : (i : ℕ) (r : Row) (o b d : Date) → Counted i r o b d → lowered r o.year d ≡ Ok b
to_lowered i r o b d x = ap (replaced _) (dated_is b (pos 0) (d.year -ℤ pos r.number +ℤ o.year) (pos d.mark) (pos d.month) (pos d.day) (ap pos x.no_era) (omega (arith, ints, x.year)) (ap pos (sym x.mark)) (ap pos (sym x.month)) (ap pos (sym x.day)))

-- ---- order

by_first : (a b : ℕ) (rest : Bool) → a < b → by_nat a b rest ≡ true
by_first a b rest h = ap (λ t. decide t (eqb a b) rest) (lt-ltb a b h)

earlier_era : (d e : Date) → d.era < e.era → earlier d e ≡ true
unfolding earlier
earlier_era d e h = by_first d.era e.era _ h

counted_key : (i : ℕ) (r : Row) (o b c d e : Date) → Counted i r o b d → Counted i r o c e → key b < key c → key d < key e
counted_key i r o b c d e s t h =
    let u : (keyed d).part + (keyed c).part ≡ (keyed e).part + (keyed b).part = omega (arith, ints, s.year, t.year, (keyed b).part_is, (keyed c).part_is, (keyed d).part_is, (keyed e).part_is) in
    let l : (keyed b).part * 8192 + (b.mark * 4096 + (b.month * 64 + b.day)) < (keyed c).part * 8192 + (c.mark * 4096 + (c.month * 64 + c.day)) = omega (arith, (keyed b).key_is, (keyed c).key_is, s.no_era, t.no_era) in
    let p : key d ≡ i * 1073741824 + ((keyed d).part * 8192 + (b.mark * 4096 + (b.month * 64 + b.day))) = omega (arith, (keyed d).key_is, s.era, s.mark, s.month, s.day) in
    let q : key e ≡ i * 1073741824 + ((keyed e).part * 8192 + (c.mark * 4096 + (c.month * 64 + c.day))) = omega (arith, (keyed e).key_is, t.era, t.mark, t.month, t.day) in
    omega arith

-- ---- the year below on a row's first day

bare_so : (x : Result Date Fault) (y : ℤ) → bare_year x ≡ Ok y → (o : Date) × (x ≡ Ok o) × (o.era ≡ 0) × (o.year ≡ y)
bare_so (Ok o) y h = let p = by_true (eqb o.era 0) _ _ y h in (o, refl, eqb-true o.era 0 p.0, same_ok o.year y p.1)
bare_so (Err f) y h = ok_not_err _ y _ h refl

to_bare : (x : Result Date Fault) (o : Date) → x ≡ Ok o → o.era ≡ 0 → bare_year x ≡ Ok o.year
to_bare x o h e = ap bare_year h ∙ cond-true _ _ _ (eq-eqb o.era 0 e)

module _ (rows : List Row) (m : Meaning) (law : Lawful m) where
  -- the day n carries d
  abbrev On : ℤ → Date → Type 0
  On n d = ByEra rows (λ k e. m.on k ≡ Ok e) n d

  -- the date below and the row, by the era that was looked up
  row_so : (n : ℤ) (b d : Date) (i : ℕ) (r : Row) → m.on n ≡ Ok b → b.era ≡ 0 → LastBegun rows n i r → in_row m i (row_of rows i) b ≡ Ok d → On n d
  row_so n b d i r h e l k =
      let q = then_so (first_year m r) (λ y. raised i r y b) d (sym (ap (λ o. in_row m i o b) l.row) ∙ k) in
      let o = bare_so (m.on r.first) q.0 q.1 in
      inr (b, i, r, o.0, h, l, o.1, raised_so i r o.0 b d e o.2 (ap (λ y. raised i r y b) o.3 ∙ q.2))

  on_so : (n : ℤ) (d : Date) → (with_eras rows m).on n ≡ Ok d → On n d
  on_so n d h =
      let p = by_true (within n) _ _ d h in
      let q = then_so (handed (m.on n)) (reckoned rows m (era_on rows n)) d p.1 in
      let b = q.0 in
      let o = from_handed (m.on n) b q.1 in
      let u = by_true (eqb b.era 0) _ _ d q.2 in
      let z = eqb-true b.era 0 u.0 in
      ⊎_elim
      (λ t.
      let s : b ≡ d = same_ok b d (sym (ap (λ i. in_row m i (row_of rows i) b) t.0) ∙ u.1) in
      inl (t.1, o ∙ ap Ok s, ap (λ x. x.era) (sym s) ∙ z))
      (λ t. row_so n b d (suc t.0) t.1 o z t.3 (sym (ap (λ i. in_row m i (row_of rows i) b) t.2) ∙ u.1))
      (begun rows n)

  lowered_on : (n : ℤ) (b d : Date) (r : Row) → m.on n ≡ Ok b → LastBegun rows n d.era r → from_row m (row_of rows d.era) d ≡ Ok b → On n d
  lowered_on n b d r h l k =
      let q = then_so (first_year m r) (λ y. lowered r y d) b (sym (ap (λ o. from_row m o d) l.row) ∙ k) in
      let o = bare_so (m.on r.first) q.0 q.1 in
      inr (b, d.era, r, o.0, h, l, o.1, lowered_so r o.0 b d o.2 (ap (λ y. lowered r y d) o.3 ∙ q.2))

  of_so : (n : ℤ) (d : Date) → (with_eras rows m).of d ≡ Ok n → On n d
  of_so n d h =
      let q = then_so (unreckoned rows m d) (λ b. then (handed (m.of b)) (belonging rows d.era)) n h in
      let b = q.0 in
      let w = then_so (handed (m.of b)) (belonging rows d.era) n q.2 in
      let z = by_true (eqb (era_on rows w.0) d.era) _ _ n w.2 in
      let k = same_ok w.0 n z.1 in
      let g : era_on rows n ≡ d.era = ap (era_on rows) (sym k) ∙ eqb-true (era_on rows w.0) d.era z.0 in
      let o = (law.exact n b).1 (from_handed (m.of b) w.0 w.1 ∙ ap Ok k) in
      by_bool (eqb d.era 0)
      (λ t. no_row n b d o (eqb-true d.era 0 t) g (same_ok d b (sym (cond-true _ _ _ t) ∙ q.1)))
      (λ t. in_a_row n b d o (eqb-false d.era 0 t) g (sym (cond-false _ _ _ t) ∙ q.1))
    where
      no_row : (n : ℤ) (b d : Date) → m.on n ≡ Ok b → d.era ≡ 0 → era_on rows n ≡ d.era → d ≡ b → On n d
      no_row n b d o z g s =
          ⊎_elim
          (λ t. inl (t.1, o ∙ ap Ok (sym s), z))
          (λ t. let x = t.2 in absurd (omega arith))
          (begun rows n)

      in_a_row : (n : ℤ) (b d : Date) → m.on n ≡ Ok b → (d.era ≡ 0 → ⊥) → era_on rows n ≡ d.era → from_row m (row_of rows d.era) d ≡ Ok b → On n d
      in_a_row n b d o z g k =
          ⊎_elim
          (λ t. absurd (z (sym g ∙ t.0)))
          (λ t. lowered_on n b d t.1 o (subst (λ (i : ℕ). LastBegun rows n i t.1) (sym t.2 ∙ g) t.3) k)
          (begun rows n)

  to_on : (n : ℤ) (d : Date) → On n d → (with_eras rows m).on n ≡ Ok d
  to_on n d (inl p) =
      cond-true _ _ _ (dated_within m law n d p.1)
      ∙ to_then (handed (m.on n)) (reckoned rows m (era_on rows n)) d _ (ap handed p.1)
      (cond-true _ _ _ (eq-eqb d.era 0 p.2) ∙ ap (λ i. in_row m i (row_of rows i) d) (era_none rows n p.0))
  to_on n d (inr p) =
      let b = p.0 in
      let i = p.1 in
      let r = p.2 in
      let o = p.3 in
      let l = p.5 in
      let x = p.7 in
      cond-true _ _ _ (dated_within m law n b p.4)
      ∙ to_then (handed (m.on n)) (reckoned rows m (era_on rows n)) b _ (ap handed p.4)
      (cond-true _ _ _ (eq-eqb b.era 0 x.no_era)
      ∙ (ap (λ j. in_row m j (row_of rows j) b) (era_last rows n i r l)
      ∙ (ap (λ s. in_row m i s b) l.row
      ∙ to_then (first_year m r) (λ y. raised i r y b) o.year _ (to_bare (m.on r.first) o p.6 x.no_era_first) (to_raised i r o b d x))))

  to_of : (n : ℤ) (d : Date) → On n d → (with_eras rows m).of d ≡ Ok n
  to_of n d (inl p) =
      to_then (unreckoned rows m d) (λ b. then (handed (m.of b)) (belonging rows d.era)) d _ (cond-true _ _ _ (eq-eqb d.era 0 p.2))
      (to_then (handed (m.of d)) (belonging rows d.era) n _ (ap handed ((law.exact n d).0 p.1))
      (cond-true _ _ _ (eq-eqb _ _ (era_none rows n p.0 ∙ sym p.2))))
  to_of n d (inr p) =
      let b = p.0 in
      let i = p.1 in
      let r = p.2 in
      let o = p.3 in
      let l = p.5 in
      let x = p.7 in
      let e = x.era in
      let s = last_some rows n i r l in
      to_then (unreckoned rows m d) (λ t. then (handed (m.of t)) (belonging rows d.era)) b _
      (cond-false _ _ _ (ne_eqb d.era 0 (λ z. omega arith))
      ∙ (ap (λ t. from_row m t d) (ap (row_of rows) e ∙ l.row)
      ∙ to_then (first_year m r) (λ y. lowered r y d) o.year _ (to_bare (m.on r.first) o p.6 x.no_era_first) (to_lowered i r o b d x)))
      (to_then (handed (m.of b)) (belonging rows d.era) n _ (ap handed ((law.exact n b).0 p.4))
      (cond-true _ _ _ (eq-eqb _ _ (era_last rows n i r l ∙ sym e))))

  -- the era of the date is that of the day
  era_is : (n : ℤ) (d : Date) → On n d → era_on rows n ≡ d.era
  era_is n d (inl p) = era_none rows n p.0 ∙ sym p.2
  era_is n d (inr p) = era_last rows n p.1 p.2 p.5 ∙ sym p.7.era

  -- two days of one era
  alike : (n k : ℤ) (d e : Date) → n <ℤ k → d.era ≡ e.era → On n d → On k e → key d < key e
  alike n k d e l g (inl p) (inl q) = sooner m law n k d e p.1 q.1 l
  alike n k d e l g (inl p) (inr q) = let s = last_some rows k q.1 q.2 q.5 in let x = q.7.era in let y = p.2 in absurd (omega arith)
  alike n k d e l g (inr p) (inl q) = let s = last_some rows n p.1 p.2 p.5 in let x = p.7.era in let y = q.2 in absurd (omega arith)
  alike n k d e l g (inr p) (inr q) =
      let i : p.1 ≡ q.1 = sym p.7.era ∙ (g ∙ q.7.era) in
      let r : p.2 ≡ q.2 = same_Some p.2 q.2 (sym p.5.row ∙ (ap (row_of rows) i ∙ q.5.row)) in
      let o : p.3 ≡ q.3 = same_ok p.3 q.3 (sym p.6 ∙ (ap (λ t. m.on t.first) r ∙ q.6)) in
      let x : Counted q.1 q.2 q.3 p.0 d = rw (← i, ← r, ← o) p.7 in
      counted_key q.1 q.2 q.3 p.0 q.0 d e x q.7 (sooner m law n k p.0 q.0 p.4 q.4 l)

  rises : (n k : ℤ) (d e : Date) → n <ℤ k → On n d → On k e → earlier d e ≡ true
  rises n k d e l o p =
      let g = era_grows rows n k (omega (arith, ints)) in
      let x = era_is n d o in
      let y = era_is k e p in
      ⊎_elim
      (λ q. from_before d e (alike n k d e l q o p))
      (⊎_elim (λ q. earlier_era d e q) (λ q. absurd (omega arith)))
      (cases_order d.era e.era)

  pub era_carries : (n : ℤ) (d : Date) → ((with_eras rows m).on n ≡ Ok d) ↔ On n d
  era_carries n d = (on_so n d, to_on n d)

  pub era_lawful : Lawful (with_eras rows m)
  era_lawful = record {
    outside = λ n w. cond-false _ _ _ w;
    exact = λ n d. ((λ h. to_of n d (on_so n d h)), (λ h. to_on n d (of_so n d h)));
    ascends = λ n k d e l h i. rises n k d e l (on_so n d h) (on_so k e i);
  }
