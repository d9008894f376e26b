-- The look-up of a day's era finds the last row that began by then.
use Rattle.std.proofs.Common.{◌≡◌, ℕ, zero, suc, ◌<◌, ◌≤◌, Bool, true, false, ◌⊎◌, List, [], ◌∷◌, ℤ, ◌≤ℤ◌, ◌<ℤ◌, Some, refl, ap, ◌∙◌, inl, inr, ⊎_elim, le_of_suc-le-suc, not-suc-le-zero, arith}
use lib.Signed.{le_z}
use Rattle.std.proofs.lemmas.Int.{ints}
use Rattle.std.proofs.lemmas.Bool.{cond-true, cond-false, cases_order}
use Rattle.std.proofs.lemmas.Option.{none-some, same_Some}
use Rattle.calendar.specs.declared.rows.Row.{Row}
use Rattle.carrying.specs.Carries.{LastBegun, NoneBegun}
use Rattle.calendar.specs.Rows.{at_place, row_of, last_with, era_on}
use Rattle.carrying.specs.Results.{by_bool}

-- no row from a place on began by the day n
abbrev NoneFrom : List Row → ℕ → ℤ → Type 0
NoneFrom rows i n = (j : ℕ) (s : Row) → i ≤ j → at_place rows j ≡ Some s → n <ℤ s.first

record LastAt (rows : List Row) (n : ℤ) (i : ℕ) (r : Row) : Type 0 where
  found : era_on rows n ≡ suc i
  row : at_place rows i ≡ Some r
  began : r.first ≤ℤ n
  last : NoneFrom rows (suc i) n

-- behind one row more
none_behind : (x : Row) (xs : List Row) (i : ℕ) (n : ℤ) → NoneFrom xs i n → NoneFrom (x ∷ xs) (suc i) n
none_behind x xs i n f zero s l h = absurd (not-suc-le-zero l)
none_behind x xs i n f (suc j) s l h = f j s (le_of_suc-le-suc l) h

none_with : (x : Row) (xs : List Row) (n : ℤ) → NoneFrom xs 0 n → n <ℤ x.first → NoneFrom (x ∷ xs) 0 n
none_with x xs n f b zero s l h = let e = ap (λ r. r.first) (same_Some x s h) in omega (arith, ints)
none_with x xs n f b (suc j) s l h = f j s (omega arith) h

abbrev LookedUp : List Row → ℤ → Type 0
LookedUp rows n = ((era_on rows n ≡ 0) × NoneFrom rows 0 n) ⊎ ((i : ℕ) × (r : Row) × LastAt rows n i r)

one_more : (x : Row) (xs : List Row) (n : ℤ) → LookedUp xs n → LookedUp (x ∷ xs) n
one_more x xs n (inl p) =
    by_bool (le_z x.first n)
    (λ t. inr (0, x, record { found = ap (last_with (le_z x.first n)) p.0 ∙ cond-true _ _ _ t; row = refl; began = omega (arith, ints); last = none_behind x xs 0 n p.1 }))
    (λ t. inl (ap (last_with (le_z x.first n)) p.0 ∙ cond-false _ _ _ t, none_with x xs n p.1 (omega (arith, ints))))
one_more x xs n (inr p) =
    let l = p.2 in
    inr (suc p.0, p.1, record { found = ap (last_with (le_z x.first n)) l.found; row = l.row; began = l.began; last = none_behind x xs (suc p.0) n l.last })

looked_up : (rows : List Row) (n : ℤ) → LookedUp rows n
looked_up [] n = inl (refl, λ j s l h. absurd (none-some s h))
looked_up (x ∷ xs) n = one_more x xs n (looked_up xs n)

-- ---- by the number of the row

none_begun : (rows : List Row) (n : ℤ) → NoneFrom rows 0 n → NoneBegun rows n
none_begun rows n f zero s h = absurd (none-some s h)
none_begun rows n f (suc j) s h = f j s (omega arith) h

none_after : (rows : List Row) (i : ℕ) (n : ℤ) → NoneFrom rows (suc i) n → (j : ℕ) (s : Row) → suc i < j → row_of rows j ≡ Some s → n <ℤ s.first
none_after rows i n f zero s l h = absurd (none-some s h)
none_after rows i n f (suc j) s l h = f j s (omega arith) h

-- no row began and the era is 0, or the era is that of the last row that began
pub begun : (rows : List Row) (n : ℤ) → ((era_on rows n ≡ 0) × NoneBegun rows n) ⊎ ((i : ℕ) × (r : Row) × (era_on rows n ≡ suc i) × LastBegun rows n (suc i) r)
begun rows n =
    ⊎_elim
    (λ p. inl (p.0, none_begun rows n p.1))
    (λ p. let l = p.2 in inr (p.0, p.1, l.found, record { row = l.row; began = l.began; last = none_after rows p.0 n l.last }))
    (looked_up rows n)

one_last : (rows : List Row) (n : ℤ) (i j : ℕ) (r s : Row) → LastBegun rows n i r → LastBegun rows n j s → i < j → ⊥
one_last rows n i j r s p q l = let a = p.last j s l q.row in let b = q.began in omega (arith, ints)

pub era_none : (rows : List Row) (n : ℤ) → NoneBegun rows n → era_on rows n ≡ 0
era_none rows n f =
    ⊎_elim
    (λ p. p.0)
    (λ p. let l = p.3 in let a = f (suc p.0) p.1 l.row in let b = l.began in absurd (omega (arith, ints)))
    (begun rows n)

pub era_last : (rows : List Row) (n : ℤ) (i : ℕ) (r : Row) → LastBegun rows n i r → era_on rows n ≡ i
era_last rows n i r l =
    ⊎_elim
    (λ p. let a = p.1 i r l.row in let b = l.began in absurd (omega (arith, ints)))
    (λ p. p.2 ∙ ⊎_elim (λ e. e) (⊎_elim (λ h. absurd (one_last rows n (suc p.0) i p.1 r p.3 l h)) (λ h. absurd (one_last rows n i (suc p.0) r p.1 l p.3 h))) (cases_order (suc p.0) i))
    (begun rows n)

-- the row of an era has a number from 1
pub last_some : (rows : List Row) (n : ℤ) (i : ℕ) (r : Row) → LastBegun rows n i r → 0 < i
last_some rows n zero r l = absurd (none-some r l.row)
last_some rows n (suc i) r l = omega arith

-- later days have no earlier era
pub era_grows : (rows : List Row) (n k : ℤ) → n ≤ℤ k → era_on rows n ≤ era_on rows k
era_grows [] n k h = omega arith
era_grows (x ∷ xs) n k h = step (le_z x.first n) (le_z x.first k) (era_on xs n) (era_on xs k) refl refl (era_grows xs n k h)
  where
    step : (t u : Bool) (e f : ℕ) → le_z x.first n ≡ t → le_z x.first k ≡ u → e ≤ f → last_with t e ≤ last_with u f
    step t true zero zero p q l = by_bool t (λ g. rw g (omega arith)) (λ g. rw g (omega arith))
    step true false zero zero p q l = absurd (omega (arith, ints))
    step false false zero zero p q l = omega arith
    step true u zero (suc f) p q l = omega arith
    step false u zero (suc f) p q l = omega arith
    step t u (suc e) zero p q l = absurd (not-suc-le-zero l)
    step t u (suc e) (suc f) p q l = omega arith
