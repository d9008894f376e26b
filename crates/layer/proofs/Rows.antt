-- The rows of a table: the last one, the row of an era, the last that began by a day, one more, and one amended in place.
use Rattle.std.proofs.Common.{◌≡◌, ℕ, zero, suc, ◌-◌, ◌<◌, ◌≤◌, Bool, true, false, leb, List, [], ◌∷◌, ◌++◌, length, get_or, set, slice_get, ℤ, ◌<ℤ◌, pos, sym, refl, ap, not-suc-le-zero, le_of_suc-le-suc, sub-one, arith}
use lib.Signed.{le_z, lt_z}
use Rattle.std.specs.List.Sorted.{IsPartitionedBy, IsPartitionPoint}
use Rattle.std.specs.Option.{option_map, unwrap_or}
use Rattle.std.proofs.lemmas.Int.{ints}
use Rattle.std.proofs.lemmas.Bool.{and_parts, and_from}
use Rattle.std.proofs.lemmas.Bool.Decides.{nat_tests}
use Rattle.std.proofs.lemmas.Grind.{common_steps}
use Rattle.calendar.specs.declared.rows.Row.{Row}
use Rattle.calendar.specs.Rows.{at_place, row_of, last_with, era_on}
use Rattle.date.specs.Days.{within}
use Rattle.layer.specs.Tables.{number_fits, follows, rise, last_first, rows_fit, renumbered}

-- ---- the last row

abbrev begins : ℤ → List Row → ℕ → ℤ
begins last rows i = unwrap_or (option_map (λ (r : Row). r.first) (slice_get rows i)) last

last_is : (last : ℤ) (r : Row) (rows : List Row) → last_first r.first rows ≡ begins last (r ∷ rows) (length rows)
last_is last r [] = refl
last_is last r (q ∷ rows) = last_is last q rows

pub last_row : (last : ℤ) (rows : List Row) → last_first last rows ≡ unwrap_or (option_map (λ (r : Row). r.first) (slice_get rows (length rows - 1))) last
last_row last [] = refl
last_row last (r ∷ rows) = rw sub-one (last_is last r rows)

-- ---- the row of an era

at_place_is : (rows : List Row) (i : ℕ) → at_place rows i ≡ slice_get rows i
at_place_is [] i = refl
at_place_is (r ∷ rows) zero = refl
at_place_is (r ∷ rows) (suc i) = at_place_is rows i

pub row_is : (rows : List Row) (e : ℕ) → 0 < e → row_of rows e ≡ slice_get rows (e - 1)
row_is rows zero h = absurd (omega arith)
row_is rows (suc e) h = rw sub-one (at_place_is rows e)

-- ---- the last row that began

-- every row begins after the day that none may
later : (last : ℤ) (rows : List Row) (i : ℕ) (d : Row) → rise last rows ≡ true → i < length rows → last <ℤ (get_or rows i d).first
later last [] i d h l = absurd (not-suc-le-zero l)
later last (r ∷ rows) zero d h l = let p = and_parts (lt_z last r.first) _ (and_parts (follows last r) _ h).0 in omega (arith, ints, p.0)
later last (r ∷ rows) (suc i) d h l =
    let p = and_parts (follows last r) _ h in
    let q = and_parts (lt_z last r.first) _ p.0 in
    omega (arith, ints, q.0, later r.first rows i d p.1 (le_of_suc-le-suc l))

abbrev pub began : ℤ → Row → Bool
began n r = le_z r.first n

-- so where a row began, those before it did
parted : (last : ℤ) (rows : List Row) (n : ℤ) → rise last rows ≡ true → IsPartitionedBy (began n) rows
parted last [] n h i j d l m e = absurd (not-suc-le-zero m)
parted last (r ∷ rows) n h zero zero d l m e = e
parted last (r ∷ rows) n h zero (suc j) d l m e = let p = later r.first rows j d (and_parts (follows last r) _ h).1 (le_of_suc-le-suc m) in grind (arith, ints)
parted last (r ∷ rows) n h (suc i) zero d l m e = absurd (not-suc-le-zero l)
parted last (r ∷ rows) n h (suc i) (suc j) d l m e = parted r.first rows n (and_parts (follows last r) _ h).1 i j d (le_of_suc-le-suc l) (le_of_suc-le-suc m) e

-- the first e rows began by the day n, and no others
abbrev Began : List Row → ℤ → ℕ → Type 0
Began rows n e = IsPartitionPoint (λ r. began n r ≡ true) (λ r. began n r ≡ false) rows e

one_more : (e : ℕ) → last_with true e ≡ suc e
one_more zero = refl
one_more (suc e) = refl

as_many : (rows : List Row) (n : ℤ) (e : ℕ) → e ≤ length rows → Began rows n e → era_on rows n ≡ e
as_many [] n zero l h = refl
as_many [] n (suc e) l h = absurd (not-suc-le-zero l)
as_many (r ∷ rows) n zero l h =
    let f = as_many rows n 0 (omega arith) ((λ k d p q. absurd (not-suc-le-zero q)), (λ k d p q. h.1 (suc k) d (omega arith) (omega arith))) in
    rw (f, h.1 0 r (omega arith) (omega arith)) refl
as_many (r ∷ rows) n (suc e) l h =
    let f = as_many rows n e (omega arith) ((λ k d p q. h.0 (suc k) d (omega arith) (omega arith)), (λ k d p q. h.1 (suc k) d (omega arith) (omega arith))) in
    rw (f, h.0 0 r (omega arith) (omega arith)) (one_more e)

pub era_is : (rows : List Row) (n : ℤ) (e : ℕ) → rows_fit rows ≡ true → e ≤ length rows → (IsPartitionedBy (began n) rows → Began rows n e) → e ≡ era_on rows n
era_is rows n e h l p = sym (as_many rows n e l (p (parted (pos 0) rows n (and_parts (leb (length rows) 16) _ h).1)))

-- ---- one more row

rise_more : (last : ℤ) (rows : List Row) (r : Row) → rise last rows ≡ true → follows (last_first last rows) r ≡ true → rise last (rows ++ (r ∷ [])) ≡ true
rise_more last [] r h f = and_from _ _ f refl
rise_more last (q ∷ rows) r h f = let p = and_parts (follows last q) _ h in and_from _ _ p.0 (rise_more q.first rows r p.1 f)

pub fit_more : (rows : List Row) (r : Row) → rows_fit rows ≡ true → length rows < 16 → follows (last_first (pos 0) rows) r ≡ true → rows_fit (rows ++ (r ∷ [])) ≡ true
fit_more rows r h l f = grind (arith, nat_tests, common_steps, rise_more (pos 0) rows r)

-- ---- a row amended in place

pub amended : (rows : List Row) (i k : ℕ) (r : Row) → i < length rows → r ≡ get_or rows i r → set rows i (record { first = r.first; number = k }) ≡ renumbered rows i k
amended [] i k r h e = absurd (not-suc-le-zero h)
amended (q ∷ rows) zero k r h e = ap (λ (p : Row). record { first = p.first; number = k } ∷ rows) e
amended (q ∷ rows) (suc i) k r h e = ap (λ ys. q ∷ ys) (amended rows i k r (le_of_suc-le-suc h) e)

rise_renumbered : (last : ℤ) (rows : List Row) (i k : ℕ) → number_fits k ≡ true → rise last rows ≡ true → rise last (renumbered rows i k) ≡ true
rise_renumbered last [] i k f h = h
rise_renumbered last (r ∷ rows) zero k f h =
    let p = and_parts (follows last r) _ h in
    let q = and_parts (lt_z last r.first) _ p.0 in
    let s = and_parts (within r.first) _ q.1 in
    and_from _ _ (and_from _ _ q.0 (and_from _ _ s.0 f)) p.1
rise_renumbered last (r ∷ rows) (suc i) k f h =
    let p = and_parts (follows last r) _ h in
    and_from _ _ p.0 (rise_renumbered r.first rows i k f p.1)

pub length_renumbered : (rows : List Row) (i k : ℕ) → length (renumbered rows i k) ≡ length rows
length_renumbered [] i k = refl
length_renumbered (r ∷ rows) zero k = refl
length_renumbered (r ∷ rows) (suc i) k = ap suc (length_renumbered rows i k)

pub fit_renumbered : (rows : List Row) (i k : ℕ) → number_fits k ≡ true → rows_fit rows ≡ true → rows_fit (renumbered rows i k) ≡ true
fit_renumbered rows i k f h = grind (arith, nat_tests, length_renumbered rows i k, rise_renumbered (pos 0) rows i k)

-- what the calls of a table need
pub ruleset of_rows = (common_steps, last_row, row_is, fit_more, amended, fit_renumbered)
