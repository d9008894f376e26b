-- Every pile whose calendars keep the law keeps it, and answers as its days carry dates.
use Rattle.std.proofs.Common.{◌≡◌, ◌↔◌, List, ℤ, pos, ◌-ℤ◌, Ok, Err, Result, inl, inr, ⊎_elim}
use Rattle.calendar.specs.declared.rows.Row.{Row}
use Rattle.carrying.specs.Carries.{ByReform, ByStyle, ByEra, Carries}
use Rattle.calendar.specs.Meaning.{Lawful}
use Rattle.carrying.specs.Piles.{Pile, calendar, reform, style, era, meaning, Sound}
use Rattle.calendar.specs.Styles.{YearStyle}
use Rattle.calendar.proofs.Laws.{ok_not_err}
use Rattle.carrying.specs.Answering.{Answers}
use Rattle.carrying.specs.Counting.{era_carries, era_lawful}
use Rattle.carrying.specs.Reforming.{reform_on, reform_lawful}
use Rattle.carrying.specs.Results.{cases_result}
use Rattle.carrying.specs.Styling.{style_on, style_lawful}
use Rattle.date.specs.declared.dates.Date.{Date}

pub lawful : (p : Pile) → Sound p → Lawful (meaning p)
lawful (calendar m) s = s
lawful (reform old new c) s = reform_lawful (meaning old) (meaning new) c (lawful old s.0) (lawful new s.1)
lawful (style y below) s = style_lawful y (meaning below) (lawful below s)
lawful (era rows below) s = era_lawful rows (meaning below) (lawful below s)

-- a layer's rule, where the days below carry more
reform_more : {Old Old' New New' : ℤ → Date → Type 0} (c : ℤ) → ((n : ℤ) (d : Date) → Old n d → Old' n d) → ((n : ℤ) (d : Date) → New n d → New' n d) → (n : ℤ) (d : Date) → ByReform Old New c n d → ByReform Old' New' c n d
reform_more c f g n d (inl t) = inl (t.0, f n d t.1)
reform_more c f g n d (inr t) = let s = t.1 in inr (t.0, (s.0, s.1, f (c -ℤ pos 1) s.0 s.2, g c s.1 s.3, s.4), g n d t.2)

style_more : {Below Below' : ℤ → Date → Type 0} (y : YearStyle) → ((n : ℤ) (d : Date) → Below n d → Below' n d) → (n : ℤ) (d : Date) → ByStyle y Below n d → ByStyle y Below' n d
style_more y f n d t = (t.0, f n t.0 t.1, t.2)

era_more : {Below Below' : ℤ → Date → Type 0} (rows : List Row) → ((n : ℤ) (d : Date) → Below n d → Below' n d) → (n : ℤ) (d : Date) → ByEra rows Below n d → ByEra rows Below' n d
era_more rows f n d (inl t) = inl (t.0, f n d t.1, t.2)
era_more rows f n d (inr t) = inr (t.0, t.1, t.2, t.3, f n t.0 t.4, t.5, f t.2.first t.3 t.6, t.7)

pub carries : (p : Pile) → Sound p → (n : ℤ) (d : Date) → ((meaning p).on n ≡ Ok d) ↔ Carries p n d
carries (calendar m) s n d = ((λ e. e), (λ e. e))
carries (reform old new c) s n d =
    let r = reform_on (meaning old) (meaning new) c (lawful old s.0) (lawful new s.1) n d in
    let a = carries old s.0 in
    let b = carries new s.1 in
    ((λ h. reform_more c (λ k e. (a k e).0) (λ k e. (b k e).0) n d (r.0 h)), (λ h. r.1 (reform_more c (λ k e. (a k e).1) (λ k e. (b k e).1) n d h)))
carries (style y below) s n d =
    let r = style_on y (meaning below) (lawful below s) n d in
    let a = carries below s in
    ((λ h. style_more y (λ k e. (a k e).0) n d (r.0 h)), (λ h. r.1 (style_more y (λ k e. (a k e).1) n d h)))
carries (era rows below) s n d =
    let r = era_carries rows (meaning below) (lawful below s) n d in
    let a = carries below s in
    ((λ h. era_more rows (λ k e. (a k e).0) n d (r.0 h)), (λ h. r.1 (era_more rows (λ k e. (a k e).1) n d h)))

-- an answer is a refusal exactly when it is no value
refused_when : {X E : Type 0} {P : X → Type 0} (r : Result X E) → ((x : X) → (r ≡ Ok x) ↔ P x) → ((f : E) × (r ≡ Err f)) ↔ ((x : X) → P x → ⊥)
refused_when r h = (
  (λ t x p. ok_not_err r x t.0 ((h x).1 p) t.1),
  (λ no. ⊎_elim (λ t. absurd (no t.0 ((h t.0).0 t.1))) (λ t. t) (cases_result r)),
)

pub carried_by : (p : Pile) → Sound p → (n : ℤ) (d : Date) → ((meaning p).of d ≡ Ok n) ↔ Carries p n d
carried_by p s n d = ((λ h. (carries p s n d).0 (((lawful p s).exact n d).1 h)), (λ h. ((lawful p s).exact n d).0 ((carries p s n d).1 h)))

pub answers : (p : Pile) → Sound p → Answers p
answers p s = record {
  lawful = lawful p s;
  on = carries p s;
  of = carried_by p s;
  day_refused = λ n. refused_when ((meaning p).on n) (carries p s n);
  date_refused = λ d. refused_when ((meaning p).of d) (λ n. carried_by p s n d);
  ascends = λ n k d e l a b. (lawful p s).ascends n k d e l ((carries p s n d).1 a) ((carries p s k e).1 b);
}
