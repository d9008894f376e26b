-- A reform of two calendars that keep the law keeps it, and its days carry the dates that the rule says.
use Rattle.std.proofs.Common.{◌≡◌, true, false, ◌↔◌, ℤ, pos, ◌-ℤ◌, ◌≤ℤ◌, ◌<ℤ◌, Ok, Err, Result, sym, refl, ap, ◌∙◌, inl, inr, arith}
use lib.Signed.{lt_z}
use Rattle.std.proofs.lemmas.Int.{ints}
use Rattle.std.proofs.lemmas.Bool.{cond-true, cond-false}
use Rattle.carrying.specs.Carries.{ByReform}
use Rattle.calendar.specs.Meaning.{Meaning, Lawful}
use Rattle.calendar.specs.Reforms.{meeting, seam, before_cut, placed, reformed}
use Rattle.calendar.proofs.Laws.{ok_not_err, dated_within}
use Rattle.carrying.specs.Days.{not_later, not_later_back}
use Rattle.carrying.specs.Results.{by_bool, same_ok, from_handed, by_true, then_so, to_then}
use Rattle.date.specs.declared.dates.Date.{Date}
use Rattle.date.specs.declared.faults.Fault.{Fault}
use Rattle.date.specs.Days.{within}
use Rattle.date.specs.Order.{earlier}
use Rattle.date.specs.Refusals.{handed}
use Rattle.date.proofs.Keys.{before, not_before, from_before, from_not_before}

meeting_so : (c : ℤ) (x y : Result Date Fault) (s : Date × Date) → meeting c x y ≡ Ok s → (x ≡ Ok s.0) × (y ≡ Ok s.1) × (earlier s.0 s.1 ≡ true)
meeting_so c (Ok a) (Ok b) s h =
    let t = by_true (earlier a b) _ _ s h in
    let p : (a, b) ≡ s = same_ok (a, b) s t.1 in
    (ap (λ u. Ok u.0) p, ap (λ u. Ok u.1) p, ap (λ u. earlier u.0 u.1) (sym p) ∙ t.0)
meeting_so c (Ok a) (Err y) s h = ok_not_err _ s _ h refl
meeting_so c (Err x) (Ok b) s h = ok_not_err _ s _ h refl
meeting_so c (Err x) (Err y) s h = ok_not_err _ s _ h refl

to_less : (n c : ℤ) → n <ℤ c → lt_z n c ≡ true
to_less n c h = grind (arith, ints)

to_not_less : (n c : ℤ) → c ≤ℤ n → lt_z n c ≡ false
to_not_less n c h = grind (arith, ints)

module _ (old new : Meaning) (c : ℤ) (was : Lawful old) (is : Lawful new) where
  -- the day n carries d
  abbrev On : ℤ → Date → Type 0
  On n d = ByReform (λ k e. old.on k ≡ Ok e) (λ k e. new.on k ≡ Ok e) c n d

  seam_so : (s : Date × Date) → seam old new c ≡ Ok s → (old.on (c -ℤ pos 1) ≡ Ok s.0) × (new.on c ≡ Ok s.1) × (earlier s.0 s.1 ≡ true)
  seam_so s h = meeting_so c (old.on (c -ℤ pos 1)) (new.on c) s (by_true (within c) _ _ s h).1

  to_seam : (e f : Date) → old.on (c -ℤ pos 1) ≡ Ok e → new.on c ≡ Ok f → earlier e f ≡ true → seam old new c ≡ Ok (e, f)
  to_seam e f p q l = cond-true _ _ _ (dated_within new is c f q) ∙ ((λ i. meeting c (p i) (q i)) ∙ cond-true _ _ _ l)

  on_so : (n : ℤ) (d : Date) → (reformed old new c).on n ≡ Ok d → On n d
  on_so n d h =
      let w = (by_true (within n) _ _ d h).1 in
      by_bool (lt_z n c)
      (λ t. inl (omega (arith, ints), from_handed (old.on n) d (sym (cond-true _ _ _ t) ∙ w)))
      (λ t.
      let q = then_so (seam old new c) (λ s. handed (new.on n)) d (sym (cond-false _ _ _ t) ∙ w) in
      let s = seam_so q.0 q.1 in
      inr (omega (arith, ints), (q.0.0, q.0.1, s.0, s.1, s.2), from_handed (new.on n) d q.2))

  to_on : (n : ℤ) (d : Date) → On n d → (reformed old new c).on n ≡ Ok d
  to_on n d (inl b) = cond-true _ _ _ (dated_within old was n d b.1) ∙ (cond-true _ _ _ (to_less n c b.0) ∙ ap handed b.1)
  to_on n d (inr a) =
      let s = a.1 in
      cond-true _ _ _ (dated_within new is n d a.2) ∙ (cond-false _ _ _ (to_not_less n c a.0)
      ∙ to_then (seam old new c) (λ t. handed (new.on n)) (s.0, s.1) _ (to_seam s.0 s.1 s.2 s.3 s.4) (ap handed a.2))

  of_so : (n : ℤ) (d : Date) (z : Result (Date × Date) Fault) → seam old new c ≡ z → placed old new c d z ≡ Ok n → On n d
  of_so n d (Ok s) q h =
      let p = seam_so s q in
      by_bool (earlier s.0 d)
      (λ t. by_bool (earlier d s.1)
      (λ u. ok_not_err (Err _) n _ (sym (cond-true _ _ _ t ∙ cond-true _ _ _ u) ∙ h) refl)
      (λ u.
      let o = (is.exact n d).1 (from_handed (new.of d) n (sym (cond-true _ _ _ t ∙ cond-false _ _ _ u) ∙ h)) in
      let l = not_later_back new is c n s.1 d p.1 o (not_before d s.1 u) in
      inr (l, (s.0, s.1, p.0, p.1, p.2), o)))
      (λ t.
      let o = (was.exact n d).1 (from_handed (old.of d) n (sym (cond-false _ _ _ t) ∙ h)) in
      let l = not_later_back old was n (c -ℤ pos 1) d s.0 o p.0 (not_before s.0 d t) in
      inl (omega (arith, ints), o))
  of_so n d (Err x) q h =
      let w = then_so (handed (old.of d)) (before_cut c) n h in
      let t = by_true (lt_z w.0 c) _ _ n w.2 in
      let k = same_ok w.0 n t.1 in
      inl (omega (arith, ints), (was.exact n d).1 (from_handed (old.of d) w.0 w.1 ∙ ap Ok k))

  to_of : (n : ℤ) (d : Date) (z : Result (Date × Date) Fault) → seam old new c ≡ z → On n d → placed old new c d z ≡ Ok n
  to_of n d (Ok s) q (inl b) =
      let p = seam_so s q in
      let l = b.0 in
      let k = not_later old was n (c -ℤ pos 1) d s.0 b.1 p.0 (omega (arith, ints)) in
      cond-false _ _ _ (from_not_before s.0 d k) ∙ ap handed ((was.exact n d).0 b.1)
  to_of n d (Ok s) q (inr a) =
      let p = seam_so s q in
      let k = not_later new is c n s.1 d p.1 a.2 a.0 in
      let u = before s.0 s.1 p.2 in
      cond-true _ _ _ (from_before s.0 d (omega arith)) ∙ (cond-false _ _ _ (from_not_before d s.1 k) ∙ ap handed ((is.exact n d).0 a.2))
  to_of n d (Err x) q (inl b) = to_then (handed (old.of d)) (before_cut c) n _ (ap handed ((was.exact n d).0 b.1)) (cond-true _ _ _ (to_less n c b.0))
  to_of n d (Err x) q (inr a) = let s = a.1 in ok_not_err (seam old new c) (s.0, s.1) x (to_seam s.0 s.1 s.2 s.3 s.4) q

  rises : (n k : ℤ) (d e : Date) → n <ℤ k → On n d → On k e → earlier d e ≡ true
  rises n k d e l (inl b) (inl a) = was.ascends n k d e l b.1 a.1
  rises n k d e l (inl b) (inr a) =
      let s = a.1 in
      let x = b.0 in
      let i = not_later old was n (c -ℤ pos 1) d s.0 b.1 s.2 (omega (arith, ints)) in
      let j = not_later new is c k s.1 e s.3 a.2 a.0 in
      let u = before s.0 s.1 s.4 in
      from_before d e (omega arith)
  rises n k d e l (inr b) (inl a) = let x = b.0 in let y = a.0 in absurd (omega (arith, ints))
  rises n k d e l (inr b) (inr a) = is.ascends n k d e l b.2 a.2

  pub reform_on : (n : ℤ) (d : Date) → ((reformed old new c).on n ≡ Ok d) ↔ On n d
  reform_on n d = (on_so n d, to_on n d)

  pub reform_lawful : Lawful (reformed old new c)
  reform_lawful = record {
    outside = λ n w. cond-false _ _ _ w;
    exact = λ n d. ((λ h. to_of n d (seam old new c) refl (on_so n d h)), (λ h. to_on n d (of_so n d (seam old new c) refl h)));
    ascends = λ n k d e l h i. rises n k d e l (on_so n d h) (on_so k e i);
  }
