use Rattle.std.proofs.Common.{◌≡◌, true, false, int_lt, ℤ, pos, ◌+ℤ◌, ◌≤ℤ◌, ◌<ℤ◌, ◌⊎◌, MatchOption, Some, ap, sym, subst, ◌∙◌, arith, rules, tests, w32, SFits, to_z, of_z}
use Rattle.std.proofs.lemmas.Int.{ints}
use Rattle.std.specs.declared.ops.Range.{Range}
use Rattle.reckoning.specs.Held.{HoldsYear}
use Rattle.reckoning.specs.Reckoned.{has_day}
use Rattle.reckoning.specs.Rules.{InYears}
use Rattle.reckoning.proofs.Ranges.{asked_down, found_down, asked_up, found_up}
use Rattle.reckoning.proofs.Steps.{before_first, year_held, next_year}
use Rattle.reckoning.proofs.reckoned.Reckoned.year_from.Goals as goal
use Rattle.reckoning.proofs.reckoned.Reckoned.year_from.Goals.{After-rev, After-find, After-find-2}

pub overflow_add-near : goal.overflow_add-near
overflow_add-near g c =
    let b = c.requires.bounds in
    let s = g.met.R.Reckoning.sound c.args.self.now.by in
    let first = b.first in
    let last = b.last in
    let least = s.first_fits in
    let most = s.last_fits in
    let low = c.requires.in_years.from in
    let high = c.requires.in_years.to in
    omega (arith, ints)

-- the range back from the hint goes from the first year to the hint, which is a year of the rule
back_from : (g : _) (c : After-rev g) → let s = c.rev.result.iter in (s.start ≡ (g.R.Reckoning.rule c.args.self.now.by).first) × (s.start <ℤ s.end) × (s.end ≤ℤ (c.args.outline.now.last +ℤ pos 1))
back_from g c =
    let b = c.requires.bounds in
    let s = g.met.R.Reckoning.sound c.args.self.now.by in
    let first = b.first in
    let last = b.last in
    let least = s.first_fits in
    let most = s.last_fits in
    let low = c.requires.in_years.from in
    let high = c.requires.in_years.to in
    let from = ap (λ (k : Range ℤ). k.start) c.rev.ensures.source in
    let to = ap (λ (k : Range ℤ). k.end) c.rev.ensures.source in
    (omega (arith, ints), omega (arith, ints), omega (arith, ints))

pub find-requires-clause-callable : goal.find-requires-clause-callable
find-requires-clause-callable g c =
    let e = back_from g (goal.at.find-requires-clause-callable g c).After-rev in
    let last = c.requires.bounds.last in
    asked_down (omega (arith, ints, e.1)) (λ x q k. search (rules, tests)) (λ x a z. let h : InYears (g.R.Reckoning.rule c.args.self.now.by) x = record { from = omega (arith, ints, e.0); to = omega (arith, ints, e.2) } in search rules)

-- the year found back from the hint starts before the day, and if none is found, the first does not
back : (g : _) (c : After-find g) → let begun = λ (y : ℤ). int_lt ((g.R.Reckoning.rule c.args.self.now.by).start y 1) c.args.day.number in let s = c.rev.result.iter in MatchOption c.find.result (begun s.start ≡ false) (λ y. (s.start ≤ℤ y) × (y <ℤ s.end) × (begun y ≡ true))
back g c =
    let r = g.R.Reckoning.rule c.args.self.now.by in
    let n = c.args.day.number in
    let e = back_from g c.before.before.before in
    found_down c.rev.result c.find.new.self _ c.find.result (λ y. int_lt (r.start y 1) n ≡ true) (λ y. int_lt (r.start y 1) n ≡ false) c.find.ensures.ran e.1 (λ x q k. search (rules, tests)) (λ x q k. (search (rules, tests), search (rules, tests)))

pub returns-in_err-year : goal.returns-in_err-year
returns-in_err-year g c =
    let a = (goal.at.returns-in_err-year g c).After-find in
    let r = g.R.Reckoning.rule c.args.self.now.by in
    let n = c.args.day.number in
    let s = c.rev.result.iter in
    let k : int_lt (r.start s.start 1) n ≡ false = subst (λ o. MatchOption o (int_lt (r.start s.start 1) n ≡ false) (λ y. (s.start ≤ℤ y) × (y <ℤ s.end) × (int_lt (r.start y 1) n ≡ true))) c.in_err-year.was (back g a) in
    let e = back_from g a.before.before.before in
    subst (λ o. MatchOption o (has_day r n ≡ false) (λ y. HoldsYear r n y)) (sym c.from_residual.ensures) (before_first r _ _ (omega (arith, ints, e.0)) k)

-- so it is a year of the rule
found : (g : _) (c : After-find g) (y : ℤ) → let r = g.R.Reckoning.rule c.args.self.now.by in c.find.result ≡ Some y → InYears r y × (y ≤ℤ c.args.outline.now.last) × (int_lt (r.start y 1) c.args.day.number ≡ true)
found g c y h =
    let r = g.R.Reckoning.rule c.args.self.now.by in
    let n = c.args.day.number in
    let s = c.rev.result.iter in
    let last = c.requires.bounds.last in
    let e = back_from g c.before.before.before in
    let k : (s.start ≤ℤ y) × (y <ℤ s.end) × (int_lt (r.start y 1) n ≡ true) = subst (λ o. MatchOption o (int_lt (r.start s.start 1) n ≡ false) (λ y. (s.start ≤ℤ y) × (y <ℤ s.end) × (int_lt (r.start y 1) n ≡ true))) h (back g c) in
    (record { from = omega (arith, ints, e.0, k.0); to = omega (arith, ints, e.2, k.1) }, omega (arith, ints, e.2, k.1), k.2)

pub find-requires-2-clause-callable : goal.find-requires-2-clause-callable
find-requires-2-clause-callable g c =
    let a = (goal.at.find-requires-2-clause-callable g c).After-find in
    let r = g.R.Reckoning.rule c.args.self.now.by in
    let s = g.met.R.Reckoning.sound c.args.self.now.by in
    let last = c.requires.bounds.last in
    let f = found g a c.in_ok-year.year c.in_ok-year.was in
    let from = f.0.from in
    let t : SFits w32 c.args.outline.now.last = search rules in
    asked_up (omega (arith, ints, f.1)) (λ x q k. search (rules, tests)) (λ x l h. let next : (y : ℤ) → y ≡ x → SFits w32 (to_z w32 (of_z w32 y) +ℤ pos 1) × InYears r (to_z w32 (of_z w32 (to_z w32 (of_z w32 y) +ℤ pos 1))) = λ y e. next_year r s y (omega (arith, ints, e)) (omega (arith, ints, e)) in search (rules, next))

-- the next year starts too late, or there is none
on : (g : _) (c : After-find-2 g) → let begun = λ (y : ℤ). int_lt ((g.R.Reckoning.rule c.args.self.now.by).start y 1) c.args.day.number in let y : ℤ = to_z w32 (of_z w32 c.in_ok-year.year) in let z : ℤ = to_z w32 (of_z w32 c.args.outline.now.last) in y ≤ℤ z
    → MatchOption c.find-2.result ((z ≡ y) ⊎ (begun z ≡ true)) (λ i. (y ≤ℤ i) × (i <ℤ z) × ((i ≡ y) ⊎ (begun i ≡ true)) × (begun (i +ℤ pos 1) ≡ false))
on g c l =
    let r = g.R.Reckoning.rule c.args.self.now.by in
    let n = c.args.day.number in
    let next : ℤ → ℤ = λ x. to_z w32 (of_z w32 (to_z w32 (of_z w32 x) +ℤ pos 1)) in
    found_up _ c.find-2.new.self _ c.find-2.result (λ y. int_lt (r.start (y +ℤ pos 1) 1) n ≡ false) (λ y. int_lt (r.start y 1) n ≡ true) c.find-2.ensures.ran l
    (λ x q a b k. let e : next x ≡ x +ℤ pos 1 = omega (arith, ints) in let h : int_lt (r.start (next x) 1) n ≡ false = search rules in subst (λ v. int_lt (r.start v 1) n ≡ false) e h)
    (λ x q a b k. let e : next x ≡ x +ℤ pos 1 = omega (arith, ints) in let h : int_lt (r.start (next x) 1) n ≡ true = search rules in (search (rules, tests), subst (λ v. int_lt (r.start v 1) n ≡ true) e h))

pub returns : goal.returns
returns g c =
    let a = goal.at.returns g c in
    let r = g.R.Reckoning.rule c.args.self.now.by in
    let n = c.args.day.number in
    let b = c.requires.bounds in
    let last = b.last in
    let last_day = b.last_day in
    let over = c.requires.by in
    let t : SFits w32 c.args.outline.now.last = search rules in
    let m = c.number-n.ensures in
    let y : ℤ = c.in_ok-year.year in
    let z : ℤ = to_z w32 (of_z w32 y) in
    let s = g.met.R.Reckoning.sound c.args.self.now.by in
    let low = s.first_fits in
    let high = s.last_fits in
    let h = (found g a.After-find y c.in_ok-year.was).0 in
    let from = h.from in
    let to = h.to in
    let same : y ≡ z = omega (arith, ints) in
    let f : InYears r z × (z ≤ℤ c.args.outline.now.last) × (int_lt (r.start z 1) n ≡ true) = subst (λ v. InYears r v × (v ≤ℤ c.args.outline.now.last) × (int_lt (r.start v 1) n ≡ true)) same (found g a.After-find y c.in_ok-year.was) in
    year_held r n z _ _ c.find-2.result f.0 f.2 (omega (arith, ints)) (omega (arith, ints)) (omega (arith, ints) ∙ c.unwrap_or.ensures) (on g a.After-find-2 (omega (arith, ints, f.1)))
