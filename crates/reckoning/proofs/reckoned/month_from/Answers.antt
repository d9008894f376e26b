use Rattle.std.proofs.Common.{IfSome, Option, Some, None, unwrap_or, ◌≡◌, ℕ, rules, tests, sym, subst, ◌≤◌, ◌<◌, ◌+◌, ◌-◌}
use Rattle.std.proofs.iter.runs.Sources.{ranges}
use Rattle.std.proofs.lemmas.Iterator.{first_from_Range}
use Rattle.std.specs.Iterator.Adapters.{rev_steps}
use Rattle.std.specs.Range.{range_steps_back}
use Rattle.reckoning.specs.Held.{HoldsNth}
use Rattle.reckoning.proofs.Ranges.{passes}
use Rattle.reckoning.proofs.Steps.{nth_held}
use Rattle.reckoning.proofs.reckoned.month_from.Goals as goal

or_first : (before : ℕ → ℕ) (n x : ℕ) (o : Option ℕ) → x ≡ unwrap_or o 1 → before 1 < n → IfSome o (λ m. before m < n) → before x < n
or_first before n x None e l h = subst (λ m. before m < n) (sym e) l
or_first before n x (Some m) e l h = subst (λ m. before m < n) (sym e) h

pub returns : goal.returns
returns g c =
    let before = g.M.Months.before c.args.months.now in
    let n = c.args.nth in
    let down = passes (rev_steps (range_steps_back (λ x y. y - x) (λ x y. y ≡ x + 1))) _ c.find.new.self _ c.find.result (λ m. before m < n) c.find.ensures.ran (λ x q k. search (rules, tests)) (λ x q k. search (rules, tests)) in
    let up = first_from_Range _ c.find-2.new.self _ c.find-2.result (λ m. n ≤ before (m + 1)) (λ m. before (m + 1) < n) c.find-2.ensures.ran (λ x q k. search (rules, tests)) (λ x q k. (search (rules, tests), search (rules, tests))) in
    let l = or_first before n _ c.find.result c.unwrap_or-month.ensures c.requires.begun down in
    subst (λ z. HoldsNth z before n c.unwrap_or.result) c.count-count.ensures (nth_held before n _ _ _ c.find-2.result (search (rules, ranges)) (search (rules, ranges)) l c.unwrap_or.ensures up)
