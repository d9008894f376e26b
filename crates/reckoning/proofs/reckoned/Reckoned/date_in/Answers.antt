use Rattle.std.proofs.Common.{◌≡◌, pos, ◌+ℤ◌, ◌-ℤ◌, nat_abs, ◌≤ℤ◌, ◌<ℤ◌, ◌<◌, arith, w32, to_z, of_z}
use Rattle.std.proofs.lemmas.Int.{ints, to_z-of_z}
use Rattle.reckoning.specs.Held.{HoldsMonth}
use Rattle.reckoning.specs.Years.{MonthsOf}
use Rattle.reckoning.proofs.Steps.{nth_near, first_month, month_held, of_month, date_found, wider, wider_nat}
use Rattle.reckoning.proofs.reckoned.Reckoned.date_in.Goals as goal
use Rattle.reckoning.proofs.reckoned.Reckoned.date_in.Goals.{After-new_year}

-- the year starts where `new_year` says, and the day comes soon after
near : (g : _) (c : After-new_year g) → let r = g.R.Reckoning.rule c.args.self.now.by in (c.new_year.result ≡ r.start c.args.year 1) × (c.new_year.result <ℤ c.args.day.number) × (c.args.day.number ≤ℤ (c.new_year.result +ℤ pos 3969))
near g c =
    let fy = c.ranges.year in
    let e = simp to_z-of_z at c.new_year.ensures in
    let b = nth_near _ (g.met.R.Reckoning.sound c.args.self.now.by) _ _ _ c.requires e in
    (e, b.0, b.1)

-- so the machine's numbers give the place of the day in the year
nth : (g : _) (c : After-new_year g) → let k = nat_abs (to_z w32 (of_z w32 (to_z w32 (of_z w32 c.number.result) -ℤ to_z w32 (of_z w32 c.new_year.result)))) in (pos k ≡ c.args.day.number -ℤ (g.R.Reckoning.rule c.args.self.now.by).start c.args.year 1) × (k < 65536)
nth g c = let b = near g c in (omega (arith, ints), omega (arith, ints))

pub overflow_sub-nth : goal.overflow_sub-nth
overflow_sub-nth g c = let b = near g c in omega (arith, ints)

pub overflow_cast-nth : goal.overflow_cast-nth
overflow_cast-nth g c = let b = near g c in (omega (arith, ints), omega (arith, ints))

-- the year's months as they were asked for
asked : (g : _) (c : After-new_year g) → MonthsOf (g.R.Reckoning.rule c.args.self.now.by) c.args.year (g.R.Months.Months.months c.months-months.result) (g.R.Months.Months.length c.months-months.result) (g.R.Months.Months.before c.months-months.result)
asked g c = let fy = c.ranges.year in simp to_z-of_z at c.months-months.ensures

pub month_of-month-requires-clause-some : goal.month_of-month-requires-clause-some
month_of-month-requires-clause-some g c =
    (first_month _ (g.met.R.Reckoning.sound c.args.self.now.by) _ _ _ _ _ c.requires (asked g (goal.at.month_of-month-requires-clause-some g c).After-new_year)).0

pub month_of-month-requires-clause-begun : goal.month_of-month-requires-clause-begun
month_of-month-requires-clause-begun g c =
    let a = goal.at.month_of-month-requires-clause-begun g c in
    let f = first_month _ (g.met.R.Reckoning.sound c.args.self.now.by) _ _ _ _ _ c.requires (asked g a.After-new_year) in
    let b = near g a.After-new_year in
    omega (arith, ints, f.1)

pub returns : goal.returns
returns g c =
    let a = goal.at.returns g c in
    let r = g.R.Reckoning.rule c.args.self.now.by in
    let s = g.met.R.Reckoning.sound c.args.self.now.by in
    let n = c.args.day.number in
    let y = c.args.year in
    let m = c.month_of-month.result in
    let o = asked g a.After-new_year in
    let k = nth g a.After-new_year in
    let i : HoldsMonth r n y m = month_held r s n y _ _ m _ _ c.requires o k.0 c.month_of-month.ensures in
    let year = wider c.from.result y c.ranges.year c.from.ensures in
    let month = wider_nat c.from-2.result m c.month_of-month.type_inv c.from-2.ensures in
    let day = of_month r y n c.from-3.result m _ c.elapsed.result _ k.0 k.1 c.month_of-month.ensures.after c.elapsed.ensures (o.start m i.months) c.from-3.ensures in
    date_found r s n y m _ _ _ _ c.requires i c.args.day.ok year month day c.new.ensures
