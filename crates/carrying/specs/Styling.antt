-- A style over a calendar that keeps the law keeps it, and its days carry the dates that the rule says.
use Rattle.std.proofs.Common.{◌≡◌, ℕ, ◌+◌, ◌*◌, ◌<◌, ◌≤◌, min, Bool, true, false, ◌&&◌, eqb, ltb, ◌⊎◌, ◌↔◌, ℤ, pos, ◌+ℤ◌, ◌-ℤ◌, Ok, sym, refl, ap, ◌∙◌, inl, inr, ⊎_elim, arith}
use Rattle.std.proofs.lemmas.Int.{ints}
use Rattle.std.proofs.lemmas.Bool.{eqb-true, eqb-false, eq-eqb, ltb-true, ltb-false, and_parts, and_from, cond-true, cond-false}
use Rattle.carrying.specs.Carries.{BeforeStart, YearTold, Styled, ByStyle}
use Rattle.calendar.specs.Meaning.{Meaning, Lawful}
use Rattle.calendar.specs.Styles.{YearStyle, mark_of, restyled, unstyled, styled}
use Rattle.calendar.proofs.Laws.{dated_within}
use Rattle.carrying.specs.Days.{sooner}
use Rattle.carrying.specs.Results.{from_handed, from_replaced, by_true, then_so, to_then}
use Rattle.date.specs.declared.dates.Date.{Date}
use Rattle.date.specs.Days.{within}
use Rattle.date.specs.Order.{by_nat, decide}
use Rattle.date.specs.Refusals.{handed, replaced}
use Rattle.date.proofs.Keys.{key, keyed, date_ranged, from_before}
use Rattle.date.proofs.Making.{dated_is, made}

-- ---- before the start

abbrev Before : ℕ → ℕ → ℕ → ℕ → Type 0
Before m d sm sd = (m < sm) ⊎ ((m ≡ sm) × (d < sd))

-- the test of a month and day against the start tells whether they come before it
start_tells : (m d sm sd : ℕ) → ((by_nat m sm (ltb d sd) ≡ true) × Before m d sm sd) ⊎ ((by_nat m sm (ltb d sd) ≡ false) × (Before m d sm sd → ⊥))
start_tells m d sm sd = go (ltb m sm) (eqb m sm) (ltb d sd) refl refl refl
  where
    go : (p q r : Bool) → ltb m sm ≡ p → eqb m sm ≡ q → ltb d sd ≡ r → ((by_nat m sm (ltb d sd) ≡ true) × Before m d sm sd) ⊎ ((by_nat m sm (ltb d sd) ≡ false) × (Before m d sm sd → ⊥))
    go true q r h k l = inl (ap (λ t. decide t (eqb m sm) (ltb d sd)) h, inl (ltb-true m sm h))
    go false true true h k l = inl ((λ i. decide (h i) (k i) (l i)), inr (eqb-true m sm k, ltb-true d sd l))
    go false true false h k l = inr ((λ i. decide (h i) (k i) (l i)), ⊎_elim (λ x. omega (arith, ltb-false m sm h)) (λ x. let y = x.1 in omega (arith, ltb-false d sd l)))
    go false false r h k l = inr ((λ i. decide (h i) (k i) (l i)), ⊎_elim (λ x. omega (arith, ltb-false m sm h)) (λ x. eqb-false m sm k x.0))

-- d is what the style makes of b, by the mark
record Marked (s : YearStyle) (b d : Date) : Type 0 where
  mark : d.mark ≡ mark_of s b.month b.day
  year : d.year ≡ b.year +ℤ s.addition -ℤ pos d.mark

told_so : (s : YearStyle) (b d : Date) → YearTold s b d → Marked s b d
told_so s b d h = ⊎_elim before after (start_tells b.month b.day s.month s.day)
  where
    before : (by_nat b.month s.month (ltb b.day s.day) ≡ true) × BeforeStart s b → Marked s b d
    before t = ⊎_elim
        (λ x. record { mark = x.1 ∙ sym (cond-true _ _ _ t.0); year = x.2 ∙ ap (λ k. b.year +ℤ s.addition -ℤ pos k) (sym x.1) })
        (λ x. absurd (x.0 t.1))
        h

    after : (by_nat b.month s.month (ltb b.day s.day) ≡ false) × (BeforeStart s b → ⊥) → Marked s b d
    after t = ⊎_elim
        (λ x. absurd (t.1 x.0))
        (λ x. record { mark = x.1 ∙ sym (cond-false _ _ _ t.0); year = omega (arith, ints, x.1, x.2) })
        h

to_told : (s : YearStyle) (b d : Date) → Marked s b d → YearTold s b d
to_told s b d h = ⊎_elim before after (start_tells b.month b.day s.month s.day)
  where
    before : (by_nat b.month s.month (ltb b.day s.day) ≡ true) × BeforeStart s b → YearTold s b d
    before t = let k : d.mark ≡ 1 = h.mark ∙ cond-true _ _ _ t.0 in inl (t.1, k, h.year ∙ ap (λ x. b.year +ℤ s.addition -ℤ pos x) k)

    after : (by_nat b.month s.month (ltb b.day s.day) ≡ false) × (BeforeStart s b → ⊥) → YearTold s b d
    after t = let k : d.mark ≡ 0 = h.mark ∙ cond-false _ _ _ t.0 in inr (t.1, k, omega (arith, ints, h.year))

-- ---- the two dates of a day

restyled_so : (s : YearStyle) (b d : Date) → restyled s b ≡ Ok d → Styled s b d
restyled_so s b d h =
    let p = by_true (eqb b.era 0 && eqb b.mark 0) _ _ d h in
    let q = and_parts (eqb b.era 0) (eqb b.mark 0) p.0 in
    let m = made _ _ _ _ _ d (from_replaced _ _ d p.1) in
    let k : d.mark ≡ mark_of s b.month b.day = grind (arith, m.mark) in
    record {
      no_era = eqb-true b.era 0 q.0;
      no_mark = eqb-true b.mark 0 q.1;
      era = grind (arith, m.era);
      month = grind (arith, m.month);
      day = grind (arith, m.day);
      year = to_told s b d (record { mark = k; year = m.year ∙ ap (λ t. b.year +ℤ s.addition -ℤ pos t) (sym k) });
    }

unstyled_so : (s : YearStyle) (b d : Date) → unstyled s d ≡ Ok b → Styled s b d
unstyled_so s b d h =
    let p = by_true (eqb d.era 0) _ _ b h in
    let q = by_true (eqb d.mark (mark_of s d.month d.day)) _ _ b p.1 in
    let m = made _ _ _ _ _ b (from_replaced _ _ b q.1) in
    let u : b.month ≡ d.month = grind (arith, m.month) in
    let v : b.day ≡ d.day = grind (arith, m.day) in
    record {
      no_era = grind (arith, m.era);
      no_mark = grind (arith, m.mark);
      era = eqb-true d.era 0 p.0;
      month = sym u;
      day = sym v;
      year = to_told s b d (record { mark = eqb-true d.mark _ q.0 ∙ (λ i. mark_of s (sym u i) (sym v i)); year = omega (arith, ints, m.year) });
    }

to_restyled : (s : YearStyle) (b d : Date) → Styled s b d → restyled s b ≡ Ok d
to_restyled s b d x =
    let t : (eqb b.era 0 && eqb b.mark 0) ≡ true = and_from _ _ (eq-eqb b.era 0 x.no_era) (eq-eqb b.mark 0 x.no_mark) in
    let y = told_so s b d x.year in
    let k = y.mark in
    let e = dated_is d (pos 0) (b.year +ℤ s.addition -ℤ pos (mark_of s b.month b.day)) (pos (mark_of s b.month b.day)) (pos b.month) (pos b.day) (ap pos x.era) (y.year ∙ ap (λ t. b.year +ℤ s.addition -ℤ pos t) k) (ap pos k) (ap pos x.month) (ap pos x.day) in
    cond-true _ _ _ t ∙ ap (replaced _) e

to_unstyled : (s : YearStyle) (b d : Date) → Styled s b d → unstyled s d ≡ Ok b
to_unstyled s b d x =
    let y = told_so s b d x.year in
    let t = eq-eqb d.era 0 x.era in
    let u = eq-eqb d.mark (mark_of s d.month d.day) (y.mark ∙ (λ i. mark_of s (sym x.month i) (sym x.day i))) in
    let e = dated_is b (pos 0) (d.year -ℤ s.addition +ℤ pos d.mark) (pos 0) (pos d.month) (pos d.day) (ap pos x.no_era) (omega (arith, ints, y.year)) (ap pos x.no_mark) (ap pos (sym x.month)) (ap pos (sym x.day)) in
    cond-true _ _ _ t ∙ (cond-true _ _ _ u ∙ ap (replaced _) e)

-- ---- the style keeps the order

moved_alike : (B C D E p q : ℕ) (a : ℤ) → pos D ≡ pos B +ℤ a -ℤ pos p → pos E ≡ pos C +ℤ a -ℤ pos q → D + p + C ≡ E + q + B
moved_alike B C D E p q a h k = omega (arith, ints)

-- the mark p of a place t in the year, counted in months of 64 days, against the start
abbrev At : ℕ → ℕ → ℕ → Type 0
At p t start = ((p ≡ 1) × (t < start)) ⊎ ((p ≡ 0) × (start ≤ t))

order_kept : (B C D E p q t u start : ℕ) → D + p + C ≡ E + q + B → B * 8192 + t < C * 8192 + u → t < 4096 → u < 4096 → At p t start → At q u start → D * 8192 + (p * 4096 + t) < E * 8192 + (q * 4096 + u)
order_kept B C D E p q t u start h l x y (inl v) (inl w) = omega arith
order_kept B C D E p q t u start h l x y (inl v) (inr w) = omega arith
order_kept B C D E p q t u start h l x y (inr v) (inl w) = omega arith
order_kept B C D E p q t u start h l x y (inr v) (inr w) = omega arith

-- a start on a day past 63 is as one on day 64
marked_at : (s : YearStyle) (b d : Date) → Styled s b d → At d.mark (b.month * 64 + b.day) (s.month * 64 + min s.day 64)
marked_at s b d x =
    let f : b.day < 64 = omega (arith, ints, (date_ranged b).day_to) in
    ⊎_elim
    (λ y. let k = y.1 in inl (k, ⊎_elim (λ z. omega arith) (λ z. let u = z.0 in let v = z.1 in omega arith) y.0))
    (λ y. let k = y.1 in inr (k, after f y.0))
    x.year
  where
    after : b.day < 64 → (BeforeStart s b → ⊥) → s.month * 64 + min s.day 64 ≤ b.month * 64 + b.day
    after f z = ⊎_elim (λ t. absurd (z t.1)) (λ t. later f (ltb b.month s.month) (eqb b.month s.month) (ltb b.day s.day) refl refl refl z) (start_tells b.month b.day s.month s.day)
      where
        later : b.day < 64 → (p q r : Bool) → ltb b.month s.month ≡ p → eqb b.month s.month ≡ q → ltb b.day s.day ≡ r → (BeforeStart s b → ⊥) → s.month * 64 + min s.day 64 ≤ b.month * 64 + b.day
        later g true q r h k l w = absurd (w (inl (ltb-true _ _ h)))
        later g false true true h k l w = absurd (w (inr (eqb-true _ _ k, ltb-true _ _ l)))
        later g false true false h k l w = let a = eqb-true _ _ k in let c = ltb-false _ _ l in omega arith
        later g false false r h k l w = let a = ltb-false _ _ h in let c = eqb-false _ _ k in omega arith

place_below : (d : Date) → d.month * 64 + d.day < 4096
place_below d = let f = date_ranged d in omega (arith, ints)

below_key : (s : YearStyle) (b d : Date) → Styled s b d → key b ≡ (keyed b).part * 8192 + (b.month * 64 + b.day)
below_key s b d x = omega (arith, (keyed b).key_is, x.no_era, x.no_mark)

above_key : (s : YearStyle) (b d : Date) → Styled s b d → key d ≡ (keyed d).part * 8192 + (d.mark * 4096 + (b.month * 64 + b.day))
above_key s b d x = omega (arith, (keyed d).key_is, x.era, x.month, x.day)

moved : (s : YearStyle) (b d : Date) → Styled s b d → pos (keyed d).part ≡ pos (keyed b).part +ℤ s.addition -ℤ pos d.mark
moved s b d x = let y = told_so s b d x.year in omega (arith, ints, y.year, (keyed d).part_is, (keyed b).part_is)

kept : (s : YearStyle) (b c d e : Date) → Styled s b d → Styled s c e → key b < key c → key d < key e
kept s b c d e x y h =
    let m = moved_alike (keyed b).part (keyed c).part (keyed d).part (keyed e).part d.mark e.mark s.addition (moved s b d x) (moved s c e y) in
    let l : (keyed b).part * 8192 + (b.month * 64 + b.day) < (keyed c).part * 8192 + (c.month * 64 + c.day) = omega (arith, below_key s b d x, below_key s c e y) in
    let o = order_kept _ _ _ _ _ _ _ _ _ m l (place_below b) (place_below c) (marked_at s b d x) (marked_at s c e y) in
    omega (arith, above_key s b d x, above_key s c e y)

module _ (s : YearStyle) (m : Meaning) (law : Lawful m) where
  -- the day n carries d
  abbrev On : ℤ → Date → Type 0
  On n d = ByStyle s (λ k e. m.on k ≡ Ok e) n d

  on_so : (n : ℤ) (d : Date) → (styled s m).on n ≡ Ok d → On n d
  on_so n d h =
      let p = by_true (within n) _ _ d h in
      let q = then_so (handed (m.on n)) (restyled s) d p.1 in
      (q.0, from_handed (m.on n) q.0 q.1, restyled_so s q.0 d q.2)

  of_so : (n : ℤ) (d : Date) → (styled s m).of d ≡ Ok n → On n d
  of_so n d h =
      let q = then_so (unstyled s d) (λ b. handed (m.of b)) n h in
      (q.0, (law.exact n q.0).1 (from_handed (m.of q.0) n q.2), unstyled_so s q.0 d q.1)

  to_on : (n : ℤ) (d : Date) → On n d → (styled s m).on n ≡ Ok d
  to_on n d o = cond-true _ _ _ (dated_within m law n o.0 o.1) ∙ to_then (handed (m.on n)) (restyled s) o.0 _ (ap handed o.1) (to_restyled s o.0 d o.2)

  to_of : (n : ℤ) (d : Date) → On n d → (styled s m).of d ≡ Ok n
  to_of n d o = to_then (unstyled s d) (λ b. handed (m.of b)) o.0 _ (to_unstyled s o.0 d o.2) (ap handed ((law.exact n o.0).0 o.1))

  pub style_on : (n : ℤ) (d : Date) → ((styled s m).on n ≡ Ok d) ↔ On n d
  style_on n d = (on_so n d, to_on n d)

  pub style_lawful : Lawful (styled s m)
  style_lawful = record {
    outside = λ n w. cond-false _ _ _ w;
    exact = λ n d. ((λ h. to_of n d (on_so n d h)), (λ h. to_on n d (of_so n d h)));
    ascends = λ n k d e l h i.
        let p = on_so n d h in
        let q = on_so k e i in
        from_before d e (kept s p.0 q.0 d e p.2 q.2 (sooner m law n k p.0 q.0 p.1 q.1 l));
  }
