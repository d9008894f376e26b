use Rattle.std.proofs.Common.{◌≡◌, true, ℤ, pos, nat_abs, Some, None, Option, Err, sym, ap, ◌∙◌, subst, arith, w32, w64, SFits, to_z, of_z}
use Rattle.std.proofs.lemmas.Int.{ints, to_z-of_z}
use Rattle.std.proofs.lemmas.Bool.{eq-eqb}
use Rattle.date.specs.declared.faults.Cause.TheVariants.{Field}
use Rattle.date.specs.declared.faults.Field.{Field as DateField}
use Rattle.date.specs.Fields.{misfit, fits}
use Rattle.date.specs.Misfits.{first_misfit}
use Rattle.date.specs.Refusals.{refusal}
use Rattle.date.proofs.Keys.{Ranged, ranged}
use Rattle.date.proofs.Making.{Numbered, misfit_named, dated_is, dated_misfit}
use Rattle.date.proofs.dates.making.make.Goals as goal
use Rattle.date.proofs.dates.making.make.Goals.{In_default}

-- what was found of the numbers, told of them as the call passed them
named_by : (e y k m d : ℤ) (o : Option DateField) → SFits w64 e → SFits w64 y → SFits w64 k → SFits w64 m → SFits w64 d → o ≡ first_misfit (to_z w64 (of_z w64 e)) (to_z w64 (of_z w64 y)) (to_z w64 (of_z w64 k)) (to_z w64 (of_z w64 m)) (to_z w64 (of_z w64 d)) → Numbered o (misfit e y k m d)
named_by e y k m d o fe fy fk fm fd h =
    let p : o ≡ first_misfit e y k m d = simp (to_z-of_z, fe, fy, fk, fm, fd) at h in
    subst (λ x. Numbered x (misfit e y k m d)) (sym p) (misfit_named e y k m d)

pub returns-in-Some : goal.returns-in-Some
returns-in-Some c =
    let a = c.args in
    let f = c.ranges in
    let n = named_by a.era a.year a.mark a.month a.day (Some c.in-Some.field) f.era f.year f.mark f.month f.day (sym c.in-Some.is ∙ c.first_misfit.ensures) in
    ap Err (c.misfit.ensures ∙ ap (λ x. refusal Field x (pos 0) 0) (sym n.0)) ∙ sym (dated_misfit a.era a.year a.mark a.month a.day n.1)

fit : (c : In_default) → fits c.args.era c.args.year c.args.mark c.args.month c.args.day ≡ true
fit c =
    let a = c.args in
    let f = c.ranges in
    eq-eqb _ _ (named_by a.era a.year a.mark a.month a.day None f.era f.year f.mark f.month f.day (sym c.in_default.is ∙ c.first_misfit.ensures))

in_range : (c : In_default) → Ranged c.args.era c.args.year c.args.mark c.args.month c.args.day
in_range c = ranged _ _ _ _ _ (fit c)

pub overflow_cast-result : goal.overflow_cast-result
overflow_cast-result c = let r = in_range c in (omega (arith, ints), omega (arith, ints))

pub overflow_cast-result-2 : goal.overflow_cast-result-2
overflow_cast-result-2 c = let r = in_range c in omega (arith, ints)

pub overflow_cast-result-3 : goal.overflow_cast-result-3
overflow_cast-result-3 c = let r = in_range c in (omega (arith, ints), omega (arith, ints))

pub overflow_cast-result-4 : goal.overflow_cast-result-4
overflow_cast-result-4 c = let r = in_range c in (omega (arith, ints), omega (arith, ints))

pub overflow_cast-result-5 : goal.overflow_cast-result-5
overflow_cast-result-5 c = let r = in_range c in (omega (arith, ints), omega (arith, ints))

pub invariant_of-result : goal.invariant_of-result
invariant_of-result c =
    let r = in_range c in
    let e : pos (nat_abs (to_z w64 (of_z w64 c.args.era))) ≡ c.args.era = omega (arith, ints) in
    let y : to_z w32 (of_z w32 (to_z w64 (of_z w64 c.args.year))) ≡ c.args.year = omega (arith, ints) in
    let k : pos (nat_abs (to_z w64 (of_z w64 c.args.mark))) ≡ c.args.mark = omega (arith, ints) in
    let m : pos (nat_abs (to_z w64 (of_z w64 c.args.month))) ≡ c.args.month = omega (arith, ints) in
    let d : pos (nat_abs (to_z w64 (of_z w64 c.args.day))) ≡ c.args.day = omega (arith, ints) in
    record { ok = (λ i. fits (e i) (y i) (k i) (m i) (d i)) ∙ fit c }

pub returns : goal.returns
returns c =
    let a = c.args in
    let f = c.ranges in
    let r = ranged a.era a.year a.mark a.month a.day (eq-eqb _ _ (named_by a.era a.year a.mark a.month a.day None f.era f.year f.mark f.month f.day (sym c.in_default.is ∙ c.first_misfit.ensures))) in
    sym (dated_is _ _ _ _ _ _ (omega (arith, ints)) (omega (arith, ints)) (omega (arith, ints)) (omega (arith, ints)) (omega (arith, ints)))
