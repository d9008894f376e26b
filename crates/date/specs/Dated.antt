-- A date made from five numbers, or the refusal of the first that is out of its range. Dates are made here alone.
use Rattle.std.specs.Prelude.{◌≡◌, ℕ, suc, Bool, true, false, cond, ℤ, pos, negsuc, Ok, Err, Result, unsigned_abs, refl}
use Rattle.std.proofs.Common.{arith, ◌∙◌}
use Rattle.std.proofs.lemmas.Bool.{eqb-true, false≢true}
use Rattle.date.specs.declared.dates.Date.{Date}
use Rattle.date.specs.declared.faults.Cause.TheVariants.{Field}
use Rattle.date.specs.declared.faults.Fault.{Fault}
use Rattle.date.specs.Fields.{between, misfit, fits, era_fits, year_fits, mark_fits, month_fits, day_fits}
use Rattle.date.specs.Refusals.{refusal}

-- a number between two that are not below 0 is a natural number
pub whole : (from to : ℕ) (n : ℤ) → between (pos from) (pos to) n ≡ true → pos (unsigned_abs n) ≡ n
whole from to (pos n) h = refl
whole from to (negsuc n) h = absurd (false≢true h)

-- what five numbers that fit say, one by one
pub record Fitting (e y k m d : ℤ) : Type 0 where
  pub era : era_fits e ≡ true
  pub year : year_fits y ≡ true
  pub mark : mark_fits k ≡ true
  pub month : month_fits m ≡ true
  pub day : day_fits d ≡ true

pub passed : (t : Bool) (x k : ℕ) → cond t x (suc k) ≡ 0 → (t ≡ true) × (x ≡ 0)
passed true x k h = (refl, h)
passed false x k h = absurd (omega arith)

pub fitting : (e y k m d : ℤ) → fits e y k m d ≡ true → Fitting e y k m d
fitting e y k m d h =
    let a = passed (era_fits e) _ _ (eqb-true _ _ h) in
    let b = passed (year_fits y) _ _ a.1 in
    let c = passed (mark_fits k) _ _ b.1 in
    let f = passed (month_fits m) _ _ c.1 in
    let g = passed (day_fits d) _ _ f.1 in
    record { era = a.0; year = b.0; mark = c.0; month = f.0; day = g.0 }

-- five numbers that fit still do as a date holds them
pub held : (e y k m d : ℤ) → fits e y k m d ≡ true → fits (pos (unsigned_abs e)) y (pos (unsigned_abs k)) (pos (unsigned_abs m)) (pos (unsigned_abs d)) ≡ true
held e y k m d h =
    let f = fitting e y k m d h in
    (λ i. fits (whole 0 _ e f.era i) y (whole 0 _ k f.mark i) (whole 1 _ m f.month i) (whole 1 _ d f.day i)) ∙ h

abbrev pub the_date : (e y k m d : ℤ) → fits e y k m d ≡ true → Date
the_date e y k m d h = record { era = unsigned_abs e; year = y; mark = unsigned_abs k; month = unsigned_abs m; day = unsigned_abs d; ok = held e y k m d h }

abbrev pub dated_by : (e y k m d : ℤ) (b : Bool) → fits e y k m d ≡ b → Result Date Fault
dated_by e y k m d true h = Ok (the_date e y k m d h)
dated_by e y k m d false h = Err (refusal Field (misfit e y k m d) (pos 0) 0)

-- from an era, a year, a mark, a month and a day of the month
unfoldable pub dated : ℤ → ℤ → ℤ → ℤ → ℤ → Result Date Fault
dated e y k m d = dated_by e y k m d (fits e y k m d) refl
