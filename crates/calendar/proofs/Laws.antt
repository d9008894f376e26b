-- What the law of a pile says of its days.
use Rattle.std.proofs.Common.{◌≡◌, ℕ, true, ℤ, IfOk, Ok, Err, Result, sym, refl, ⊎_elim, arith}
use Rattle.std.proofs.lemmas.Bool.{cases_Bool}
use Rattle.date.specs.declared.dates.Date.{Date}
use Rattle.date.specs.declared.faults.Fault.{Fault}
use Rattle.date.specs.Days.{within}
use Rattle.calendar.specs.declared.refusing.Party.{Party}
use Rattle.calendar.specs.declared.refusing.Refused.{Refused}
use Rattle.calendar.specs.Meaning.{Meaning, Lawful}
use Rattle.calendar.specs.Parties.{told_by}
use Rattle.calendar.specs.Piles.{Pile, calendar, meaning, Sound}

-- no answer is both a value and a refusal
pub ok_not_err : {X E G : Type 0} (r : Result X E) (x : X) (f : E) → r ≡ Ok x → r ≡ Err f → G
ok_not_err r x f h k = let z : ◌≡◌ {A = ℕ} 0 1 = cc in absurd (omega arith)

pub lawful : (p : Pile) → Sound p → Lawful (meaning p)
lawful (calendar m) s = s

-- a day that carries a date is in the range
pub dated_within : (m : Meaning) → Lawful m → (n : ℤ) (d : Date) → m.on n ≡ Ok d → within n ≡ true
dated_within m law n d h = ⊎_elim (λ e. e) (λ e. ok_not_err (m.on n) d _ h (law.outside n e)) (cases_Bool (within n))

pub found_within : (m : Meaning) → Lawful m → (n : ℤ) (d : Date) → m.of d ≡ Ok n → within n ≡ true
found_within m law n d h = dated_within m law n d ((law.exact n d).1 h)

-- an answer told as a party's is the answer
pub told_ok : {X : Type 0} (p : Party) (r : Result X Fault) (x : X) → told_by p r ≡ Ok x → r ≡ Ok x
told_ok p (Ok y) x h = cc
told_ok p (Err f) x h = ok_not_err _ x _ h refl

-- the day that a pile finds of a date is in the range, as a party's answer too
pub found_inside : (p : Pile) → Sound p → (q : Party) (d : Date) (r : Result ℤ Refused) → r ≡ told_by q ((meaning p).of d) → IfOk r (λ n. within n ≡ true)
found_inside p s q d (Ok n) h = found_within (meaning p) (lawful p s) n d (told_ok q ((meaning p).of d) n (sym h))
found_inside p s q d (Err f) h = tt
