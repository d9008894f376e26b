-- What becomes of a date that is carried from one pile to another; and with it, the law of piles.
use Rattle.std.proofs.Common.{◌≡◌, ◌⊎◌, ◌↔◌, ℤ, Ok, Err, Result, sym, ap, ◌∙◌, inl, inr, ⊎_elim}
use Rattle.calendar.specs.declared.refusing.Party.TheVariants.{First, Second}
use Rattle.calendar.specs.declared.refusing.Refused.{Refused}
use Rattle.carrying.specs.Carries.{Carries}
use Rattle.calendar.specs.Parties.{told_by}
use Rattle.carrying.specs.Piles.{Pile, meaning, Sound}
use Rattle.calendar.proofs.Laws.{ok_not_err, told_ok}
use Rattle.carrying.specs.Carrying.{carried}
use Rattle.carrying.specs.Law.{TheLawOfPiles}
use Rattle.carrying.specs.Travelling.{NoDay, NoDateThere, Travels}
use Rattle.carrying.proofs.Piling.{answers}
use Rattle.carrying.specs.Results.{cases_result, then_so, to_then}
use Rattle.date.specs.declared.dates.Date.{Date}
use Rattle.date.specs.declared.faults.Fault.{Fault}
use Rattle.date.specs.Refusals.{then}

first_not_second : {G : Type 0} → First ≡ Second → G
first_not_second h = cc

same_party : (f g : Refused) → ◌≡◌ {A = Result Date Refused} (Err f) (Err g) → f.party ≡ g.party
same_party f g h = cc

module _ (p q : Pile) (u : Sound p) (v : Sound q) where
  there : (d e : Date) → (carried (meaning p) (meaning q) d ≡ Ok e) ↔ ((n : ℤ) × Carries p n d × Carries q n e)
  there d e = (
    (λ h.
        let t = then_so (told_by First ((meaning p).of d)) (λ n. told_by Second ((meaning q).on n)) e h in
        (t.0, ((answers p u).of t.0 d).0 (told_ok First ((meaning p).of d) t.0 t.1), ((answers q v).on t.0 e).0 (told_ok Second ((meaning q).on t.0) e t.2))),
    (λ t. to_then (told_by First ((meaning p).of d)) (λ n. told_by Second ((meaning q).on n)) t.0 _ (ap (told_by First) (((answers p u).of t.0 d).1 t.1)) (ap (told_by Second) (((answers q v).on t.0 e).1 t.2))),
  )

  -- a date is carried, or refused by the first pile, or by the second
  abbrev Outcome : Date → Type 0
  Outcome d =
      ((e : Date) × (carried (meaning p) (meaning q) d ≡ Ok e))
      ⊎ (((f : Fault) × (carried (meaning p) (meaning q) d ≡ Err (record { fault = f; party = First })) × NoDay p d)
      ⊎ ((f : Fault) × (carried (meaning p) (meaning q) d ≡ Err (record { fault = f; party = Second })) × NoDateThere p q d))

  outcome : (d : Date) → Outcome d
  outcome d = ⊎_elim found (λ t. inr (inl (t.0, ap (λ r. then (told_by First r) (λ n. told_by Second ((meaning q).on n))) t.1, ((answers p u).date_refused d).0 t))) (cases_result ((meaning p).of d))
    where
      found : (n : ℤ) × ((meaning p).of d ≡ Ok n) → Outcome d
      found t =
          let n = t.0 in
          let to = ap (λ r. then (told_by First r) (λ k. told_by Second ((meaning q).on k))) t.1 in
          ⊎_elim
          (λ s. inl (s.0, to ∙ ap (told_by Second) s.1))
          (λ s. inr (inr (s.0, to ∙ ap (told_by Second) s.1, (n, ((answers p u).of n d).0 t.1, ((answers q v).day_refused n).0 s))))
          (cases_result ((meaning q).on n))

  -- the two cannot both be
  apart : (d : Date) → NoDay p d → NoDateThere p q d → ⊥
  apart d a b = a b.0 b.1

  refused : (d : Date) → ((f : Refused) × (carried (meaning p) (meaning q) d ≡ Err f)) ↔ (NoDay p d ⊎ NoDateThere p q d)
  refused d = (
    (λ t. ⊎_elim (λ s. ok_not_err (carried (meaning p) (meaning q) d) s.0 t.0 s.1 t.1) (⊎_elim (λ s. inl s.2) (λ s. inr s.2)) (outcome d)),
    (λ t. ⊎_elim (λ s. let w = (there d s.0).0 s.1 in absurd (⊎_elim (λ a. a w.0 w.1) (λ b. never s.0 w b) t)) (⊎_elim (λ s. (_, s.1)) (λ s. (_, s.1))) (outcome d)),
  )
    where
      never : (e : Date) → (n : ℤ) × Carries p n d × Carries q n e → NoDateThere p q d → ⊥
      never e w b =
          let x = ((answers p u).of w.0 d).1 w.1 in
          let y = ((answers p u).of b.0 d).1 b.1 in
          let z : b.0 ≡ w.0 = cc in
          b.2 e (((answers q v).on b.0 e).0 (ap (meaning q).on z ∙ ((answers q v).on w.0 e).1 w.2))

  first_refused : (d : Date) (f : Refused) → carried (meaning p) (meaning q) d ≡ Err f → (f.party ≡ First) ↔ NoDay p d
  first_refused d f h =
      ⊎_elim
      (λ s. ok_not_err (carried (meaning p) (meaning q) d) s.0 f s.1 h)
      (⊎_elim
      (λ s. ((λ _. s.2), (λ _. same_party f _ (sym h ∙ s.1))))
      (λ s. ((λ e. first_not_second (sym e ∙ same_party f _ (sym h ∙ s.1))), (λ a. absurd (apart d a s.2)))))
      (outcome d)

  second_refused : (d : Date) (f : Refused) → carried (meaning p) (meaning q) d ≡ Err f → (f.party ≡ Second) ↔ NoDateThere p q d
  second_refused d f h =
      ⊎_elim
      (λ s. ok_not_err (carried (meaning p) (meaning q) d) s.0 f s.1 h)
      (⊎_elim
      (λ s. ((λ e. first_not_second (sym (same_party f _ (sym h ∙ s.1)) ∙ e)), (λ b. absurd (apart d s.2 b))))
      (λ s. ((λ _. s.2), (λ _. same_party f _ (sym h ∙ s.1)))))
      (outcome d)

pub travels : (p q : Pile) → Sound p → Sound q → Travels p q
travels p q u v = record {
  there = there p q u v;
  back = λ d e h. let t = (there p q u v d e).0 h in (there q p v u e d).1 (t.0, t.2, t.1);
  refused = refused p q u v;
  first_refused = first_refused p q u v;
  second_refused = second_refused p q u v;
}

pub the_law : TheLawOfPiles
the_law p q u v = (answers p u, travels p q u v)
