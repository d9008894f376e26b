-- Answers taken apart, and put together.
use Rattle.std.proofs.Common.{◌≡◌, Bool, true, false, cond, ◌⊎◌, Ok, Err, Result, refl, ap, ◌∙◌, inl, inr, ⊎_elim}
use Rattle.std.proofs.lemmas.Bool.{cases_Bool}
use Rattle.calendar.proofs.Laws.{ok_not_err}
use Rattle.date.specs.declared.faults.Fault.{Fault}
use Rattle.date.specs.Refusals.{handed, replaced, then}

pub by_bool : {G : Type 0} (b : Bool) → (b ≡ true → G) → (b ≡ false → G) → G
by_bool b f g = ⊎_elim f g (cases_Bool b)

pub same_ok : {X E : Type 0} (x y : X) → ◌≡◌ {A = Result X E} (Ok x) (Ok y) → x ≡ y
same_ok x y h = cc

-- an answer is a value or a refusal
pub cases_result : {X E : Type 0} (r : Result X E) → ((x : X) × (r ≡ Ok x)) ⊎ ((f : E) × (r ≡ Err f))
cases_result (Ok x) = inl (x, refl)
cases_result (Err f) = inr (f, refl)

pub from_handed : {X : Type 0} (r : Result X Fault) (x : X) → handed r ≡ Ok x → r ≡ Ok x
from_handed (Ok y) x h = h
from_handed (Err f) x h = ok_not_err (handed (Err f)) x _ h refl

pub from_replaced : {X : Type 0} (f : Fault) (r : Result X Fault) (x : X) → replaced f r ≡ Ok x → r ≡ Ok x
from_replaced f (Ok y) x h = h
from_replaced f (Err e) x h = ok_not_err (Err f) x f h refl

-- a test that must pass
pub by_true : {X : Type 0} (t : Bool) (x : Result X Fault) (f : Fault) (v : X) → cond t x (Err f) ≡ Ok v → (t ≡ true) × (x ≡ Ok v)
by_true true x f v h = (refl, h)
by_true false x f v h = ok_not_err (Err f) v f h refl

pub then_so : {X Y E : Type 0} (x : Result X E) (f : X → Result Y E) (y : Y) → then x f ≡ Ok y → (v : X) × (x ≡ Ok v) × (f v ≡ Ok y)
then_so (Ok v) f y h = (v, refl, h)
then_so (Err e) f y h = ok_not_err (Err e) y e h refl

pub to_then : {X Y E : Type 0} (x : Result X E) (f : X → Result Y E) (v : X) (y : Result Y E) → x ≡ Ok v → f v ≡ y → then x f ≡ y
to_then x f v y h k = ap (λ r. then r f) h ∙ k
