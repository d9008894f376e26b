use Rattle.std.proofs.Common.{◌≡◌, ℕ, suc, zero, ◌+◌, ◌-◌, ◌∙◌, sum, map, rules, refl, arith, ap, add-one}
use Rattle.std.specs.List.{range_with_len}
use Rattle.std.proofs.lemmas.Iterator.{YieldsList-from_range, YieldsList-from_map}
use Rattle.std.proofs.lemmas.Iterator.Adapters.{fits_from_length, at_most_from_yields_List}
use Rattle.std.proofs.lemmas.Iterator.Consumers.{sum_from_yields_List}
use Rattle.std.proofs.lemmas.List.FromFn.{sum_by-map-range_with_len_more, length-range_with_len}
use Rattle.lunar.specs.HebrewMonths.{days, of_first}
use Rattle.lunar.specs.HebrewLaws.{few}
use Rattle.lunar.proofs.hebrew.HebrewMonthsMonths.elapsed.Goals as goal

-- the days of the first k months are the sum over these
sum_is : (f : ℕ → ℕ) (k : ℕ) → sum (map f (range_with_len 1 k)) ≡ of_first f k
sum_is f zero = refl
sum_is f (suc k) = rw add-one at (sum_by-map-range_with_len_more (λ (x : ℕ). x) f 1 k (suc k) (omega arith)) ∙ ap (λ n. n + f (suc k)) (sum_is f k)

pub sum-requires-clause-fits : goal.sum-requires-clause-fits
sum-requires-clause-fits c =
    fits_from_length _ _ 12 _ (at_most_from_yields_List (YieldsList-from_range 1 c.args.month (c.args.month - 1) (cc) refl) (omega (arith, length-range_with_len))) c.map.ensures.closure (omega arith) (λ x r q k. search (rules, few))

pub returns : goal.returns
returns c =
    sum_from_yields_List c.map.result c.sum.result c.sum.ensures.ran (YieldsList-from_map _ (days c.args.self.now.leap c.args.self.now.days) (YieldsList-from_range 1 c.args.month _ (cc) refl) c.map.ensures.closure (λ x r q k. search rules)) ∙ sum_is _ _
