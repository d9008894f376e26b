-- `dated` at numbers that fit, and at others; and a made date's numbers.
use Rattle.std.proofs.Common.{◌≡◌, ℕ, Bool, true, false, cond, ℤ, pos, Some, None, Option, nat_abs, ◌≤ℤ◌, Ok, Err, sym, refl, ap, ◌∙◌, subst, arith}
use lib.Signed.{le_z}
use Rattle.std.proofs.lemmas.Int.{ints}
use Rattle.std.proofs.lemmas.Bool.{true≢false, eq-eqb, ne_eqb, and_from, cond-true}
use Rattle.date.specs.declared.dates.Date.{Date}
use Rattle.date.specs.declared.faults.Cause.TheVariants.{Field}
use Rattle.date.specs.Dated.{dated, dated_by, the_date, whole, fitting}
use Rattle.date.specs.declared.faults.Field.{Field as DateField}
use Rattle.date.specs.declared.faults.Field.TheVariants as f
use Rattle.date.specs.Fields.{between, misfit, fits, era_fits, year_fits, mark_fits, month_fits, day_fits}
use Rattle.date.specs.Misfits.{first_misfit}
use Rattle.date.specs.Refusals.{place_of, refusal}
use Rattle.date.proofs.Keys.{Ranged, same_date}

-- a field of the number n, which is not 0; and none where n is 0
abbrev pub Numbered : Option DateField → ℕ → Type 0
Numbered (Some x) n = (n ≡ place_of x) × (n ≡ 0 → ⊥)
Numbered None n = n ≡ 0

-- the first field that is out of its range has the number by which it is refused
tested : (a b c g t : Bool) → Numbered (cond a (cond b (cond c (cond g (cond t None (Some f.Day)) (Some f.Month)) (Some f.Mark)) (Some f.Year)) (Some f.Era)) (cond a (cond b (cond c (cond g (cond t 0 5) 4) 3) 2) 1)
tested false b c g t = (refl, λ e. omega arith)
tested true false c g t = (refl, λ e. omega arith)
tested true true false g t = (refl, λ e. omega arith)
tested true true true false t = (refl, λ e. omega arith)
tested true true true true false = (refl, λ e. omega arith)
tested true true true true true = refl

pub misfit_named : (e y k m d : ℤ) → Numbered (first_misfit e y k m d) (misfit e y k m d)
misfit_named e y k m d = tested (era_fits e) (year_fits y) (mark_fits k) (month_fits m) (day_fits d)

-- a date is made of its own numbers
pub dated_is : (x : Date) (e y k m d : ℤ) → pos x.era ≡ e → x.year ≡ y → pos x.mark ≡ k → pos x.month ≡ m → pos x.day ≡ d → dated e y k m d ≡ Ok x
unfolding dated
dated_is x e y k m d p q r s t = by (fits e y k m d) refl
  where
    h : fits e y k m d ≡ true
    h = (λ i. fits (sym p i) (sym q i) (sym r i) (sym s i) (sym t i)) ∙ x.ok

    by : (b : Bool) (f : fits e y k m d ≡ b) → dated_by e y k m d b f ≡ Ok x
    by true f = ap Ok (same_date (the_date e y k m d f) x (ap nat_abs (sym p)) (sym q) (ap nat_abs (sym r)) (ap nat_abs (sym s)) (ap nat_abs (sym t)))
    by false f = absurd (true≢false (sym h ∙ f))

-- numbers in their ranges make a date
between_from : (from to n : ℤ) → from ≤ℤ n → n ≤ℤ to → between from to n ≡ true
between_from from to n h k = and_from (le_z from n) (le_z n to) (sym (omega (arith, ints))) (sym (omega (arith, ints)))

pub date_of : (e y k m d : ℤ) → Ranged e y k m d → (x : Date) × (dated e y k m d ≡ Ok x)
date_of e y k m d r =
    let a = between_from _ _ e r.era_from r.era_to in
    let b = between_from _ _ y r.year_from r.year_to in
    let c = between_from _ _ k r.mark_from r.mark_to in
    let g = between_from _ _ m r.month_from r.month_to in
    let t = between_from _ _ d r.day_from r.day_to in
    let h : fits e y k m d ≡ true = eq-eqb _ _ (cond-true _ _ _ a ∙ cond-true _ _ _ b ∙ cond-true _ _ _ c ∙ cond-true _ _ _ g ∙ cond-true _ _ _ t) in
    (the_date e y k m d h, dated_is (the_date e y k m d h) e y k m d (whole 0 _ e a) refl (whole 0 _ k c) (whole 1 _ m g) (whole 1 _ d t))

-- numbers that do not fit are refused at the first that is out
pub dated_misfit : (e y k m d : ℤ) → (misfit e y k m d ≡ 0 → ⊥) → dated e y k m d ≡ Err (refusal Field (misfit e y k m d) (pos 0) 0)
unfolding dated
dated_misfit e y k m d h = by (fits e y k m d) refl
  where
    by : (b : Bool) (f : fits e y k m d ≡ b) → dated_by e y k m d b f ≡ Err (refusal Field (misfit e y k m d) (pos 0) 0)
    by true f = absurd (true≢false (sym f ∙ ne_eqb _ _ h))
    by false f = refl

-- the numbers that a made date holds
pub record Made (x : Date) (e y k m d : ℤ) : Type 0 where
  pub era : pos x.era ≡ e
  pub year : x.year ≡ y
  pub mark : pos x.mark ≡ k
  pub month : pos x.month ≡ m
  pub day : pos x.day ≡ d

pub made : (e y k m d : ℤ) (x : Date) → dated e y k m d ≡ Ok x → Made x e y k m d
unfolding dated
made e y k m d x = by (fits e y k m d) refl
  where
    by : (b : Bool) (p : fits e y k m d ≡ b) → dated_by e y k m d b p ≡ Ok x → Made x e y k m d
    by true p h =
        let f = fitting e y k m d p in
        let q : the_date e y k m d p ≡ x = cc in
        subst (λ (t : Date). Made t e y k m d) q (record { era = whole 0 _ e f.era; year = refl; mark = whole 0 _ k f.mark; month = whole 1 _ m f.month; day = whole 1 _ d f.day })
    by false p h = let z : ◌≡◌ {A = ℕ} 0 1 = cc in absurd (omega arith)
