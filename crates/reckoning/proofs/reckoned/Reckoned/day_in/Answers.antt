use Rattle.std.proofs.Common.{◌≡◌, ◌+ℤ◌, arith}
use Rattle.std.proofs.lemmas.Int.{ints}
use Rattle.reckoning.proofs.Answering.{Reach, reach}
use Rattle.reckoning.proofs.Steps.{month_start}
use Rattle.reckoning.proofs.reckoned.Reckoned.day_in.Goals as goal
use Rattle.reckoning.proofs.reckoned.Reckoned.day_in.Goals.{After-new_year}

-- how far the sum reaches, and that its first two parts are the days before the month
sum : (g : _) (c : After-new_year g) → let r = g.R.Reckoning.rule c.args.self.now.by in let d = c.args.date.now in Reach r d × (r.start d.year d.month ≡ c.new_year.result +ℤ c.from-before_month.result)
sum g c =
    let r = g.R.Reckoning.rule c.args.self.now.by in
    let d = c.args.date.now in
    let h = reach r (g.met.R.Reckoning.sound c.args.self.now.by) d c.requires.fits in
    let l = month_start r (g.R.Months.Months.before c.args.months.now) d.year _ c.new_year.result d.month _ c.elapsed.result (c.requires.months.start d.month h.month) (omega (arith, ints)) c.new_year.ensures c.month.ensures c.elapsed.ensures in
    (h, omega (arith, ints))

pub overflow_add-result : goal.overflow_add-result
overflow_add-result g c =
    let s = sum g c in
    let h = s.0 in
    let l = s.1 in
    omega (arith, ints)

pub overflow_add-result-2 : goal.overflow_add-result-2
overflow_add-result-2 g c =
    let s = sum g (goal.at.overflow_add-result-2 g c).After-new_year in
    let h = s.0 in
    let l = s.1 in
    omega (arith, ints)

pub returns : goal.returns
returns g c =
    let s = sum g (goal.at.returns g c).After-new_year in
    let h = s.0 in
    let l = s.1 in
    omega (arith, ints)
