-- What a calendar that keeps the law says of two days and their dates, by the keys of the dates.
use Rattle.std.proofs.Common.{◌≡◌, ◌<◌, ◌≤◌, ℤ, ◌≤ℤ◌, ◌<ℤ◌, Ok, sym, ap, ◌∙◌, arith}
use Rattle.std.proofs.lemmas.Int.{ints, by_lt_z}
use Rattle.calendar.specs.Meaning.{Meaning, Lawful}
use Rattle.carrying.specs.Results.{same_ok}
use Rattle.date.specs.declared.dates.Date.{Date}
use Rattle.date.proofs.Keys.{key, before}

module _ (m : Meaning) (law : Lawful m) where
  pub sooner : (n k : ℤ) (d e : Date) → m.on n ≡ Ok d → m.on k ≡ Ok e → n <ℤ k → key d < key e
  sooner n k d e h i l = before d e (law.ascends n k d e l h i)

  pub not_later : (n k : ℤ) (d e : Date) → m.on n ≡ Ok d → m.on k ≡ Ok e → n ≤ℤ k → key d ≤ key e
  not_later n k d e h i l =
      by_lt_z n k
      (λ lt. omega (arith, sooner n k d e h i lt))
      (λ ge.
      let s : n ≡ k = omega (arith, ints) in
      let z = ap key (same_ok d e (sym h ∙ (ap m.on s ∙ i))) in
      omega arith)

  pub not_later_back : (n k : ℤ) (d e : Date) → m.on n ≡ Ok d → m.on k ≡ Ok e → key d ≤ key e → n ≤ℤ k
  not_later_back n k d e h i l = by_lt_z k n (λ lt. let z = sooner k n e d i h lt in absurd (omega arith)) (λ le. le)
