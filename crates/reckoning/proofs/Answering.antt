-- The two answers of a rule, case by case, and how far the numbers of a count reach.
use Rattle.std.proofs.Common.{◌≡◌, ℕ, false, ℤ, pos, negsuc, ◌≤ℤ◌, Err, sym, ap, ◌∙◌, arith}
use Rattle.std.proofs.lemmas.Int.{ints}
use Rattle.std.proofs.lemmas.Bool.{eq-eqb, cond-true, cond-false}
use Rattle.date.specs.declared.dates.Date.{Date}
use Rattle.date.specs.declared.faults.Cause.TheVariants.{OutsideRange}
use Rattle.date.specs.declared.faults.Fault.{Fault}
use Rattle.date.specs.Days.{within}
use Rattle.date.specs.Refusals.{refusal}
use Rattle.date.proofs.Keys.{date_ranged}
use Rattle.reckoning.specs.Reckoned.{of, misdated, counted}
use Rattle.reckoning.specs.Rules.{Rule, Sound, InYears, InMonths}
use Rattle.reckoning.specs.Faiths.{checked}
use Rattle.reckoning.specs.Theory.{day_at, from_first, month_begins, day_in}

-- the refusal of a date whose day is outside the range
pub of_outside : (r : Rule) (k : ℕ) → k ≡ r.kind → (d : Date) (n : ℤ) (f : Fault) → misdated r d ≡ 0 → n ≡ day_at r d.year d.month d.day → within n ≡ false → f ≡ refusal OutsideRange 0 n k → Err f ≡ of r d
unfolding of
of_outside r k e d n f q m w h = ap Err (h ∙ ap (refusal OutsideRange 0 n) e) ∙ sym (cond-true _ _ _ (eq-eqb _ _ q) ∙ ap (counted r) (sym m) ∙ cond-false _ _ _ w)

-- a count lies far inside 32 bits, and so do its parts
pub record Reach (r : Rule) (d : Date) : Type 0 where
  pub year : InYears r d.year
  pub month : InMonths r d.year d.month
  pub low : negsuc 999999999 ≤ℤ r.start d.year 1
  pub mid : r.start d.year 1 ≤ℤ r.start d.year d.month
  pub high : day_at r d.year d.month d.day ≤ℤ pos 1000000000

pub reach : (r : Rule) → Sound r → (d : Date) → misdated r d ≡ 0 → Reach r d
reach r s d h =
    let c = checked r d h in
    let f = date_ranged d in
    let a = from_first r s d.year c.year in
    let b = s.start_fits in
    let i = day_in r s d.year d.month d.day (record { year = c.year; month = c.month; from = omega (arith, ints); to = c.to }) in
    let e = s.end_fits in
    record { year = c.year; month = c.month; low = omega (arith, ints); mid = month_begins r s d.year d.month c.year c.month; high = omega (arith, ints) }
