-- Dates stand in one strict line. Each has a key, a number, and a date is earlier exactly where its key is less: every
-- fact about the order is then one about numbers.
use Rattle.std.proofs.Common.{◌≡◌, ℕ, suc, ◌+◌, ◌*◌, ◌<◌, ◌≤◌, Bool, true, false, ltb, ℤ, pos, negsuc, ◌+ℤ◌, nat_abs, ◌≤ℤ◌, sym, refl, ap, ◌∙◌, ⊎_elim, mul-le-mul_right, suc-mul, arith}
use mathlib.Core.Bool.{Bool-set}
use mathlib.Core.HLevel.{is_prop→PathP}
use Rattle.std.proofs.lemmas.Int.{ints}
use Rattle.std.proofs.lemmas.Bool.Decides.{nat_tests}
use Rattle.std.proofs.lemmas.Bool.{cases_order, ltb-true, lt-ltb, le-ltb, ltb-false}
use Rattle.date.specs.declared.dates.Date.{Date}
use Rattle.date.specs.Dated.{fitting}
use Rattle.date.specs.Days.{within, first_day, last_day}
use Rattle.date.specs.Fields.{between, fits}
use Rattle.date.specs.Order.{earlier, by_nat, by_int, StrictTotal}

-- a test of a range, as orders
pub in_between : (from to n : ℤ) → between from to n ≡ true → (from ≤ℤ n) × (n ≤ℤ to)
in_between from to n h = (grind (arith, ints, nat_tests), grind (arith, ints, nat_tests))

-- a day of the range
pub day_between : (n : ℤ) → within n ≡ true → (first_day ≤ℤ n) × (n ≤ℤ last_day)
day_between n h = in_between first_day last_day n h

-- what the ranges say of five numbers, as orders
pub record Ranged (e y k m d : ℤ) : Type 0 where
  pub era_from : pos 0 ≤ℤ e
  pub era_to : e ≤ℤ pos 255
  pub year_from : negsuc 9998 ≤ℤ y
  pub year_to : y ≤ℤ pos 99999
  pub mark_from : pos 0 ≤ℤ k
  pub mark_to : k ≤ℤ pos 1
  pub month_from : pos 1 ≤ℤ m
  pub month_to : m ≤ℤ pos 63
  pub day_from : pos 1 ≤ℤ d
  pub day_to : d ≤ℤ pos 63

pub ranged : (e y k m d : ℤ) → fits e y k m d ≡ true → Ranged e y k m d
ranged e y k m d h =
    let f = fitting e y k m d h in
    let a = in_between _ _ _ f.era in
    let b = in_between _ _ _ f.year in
    let c = in_between _ _ _ f.mark in
    let g = in_between _ _ _ f.month in
    let t = in_between _ _ _ f.day in
    record { era_from = a.0; era_to = a.1; year_from = b.0; year_to = b.1; mark_from = c.0; mark_to = c.1; month_from = g.0; month_to = g.1; day_from = t.0; day_to = t.1 }

pub date_ranged : (d : Date) → Ranged (pos d.era) d.year (pos d.mark) (pos d.month) (pos d.day)
date_ranged d = ranged _ _ _ _ _ d.ok

-- one more place in front of numbers below m
placed : (m a b r s : ℕ) (rest : Bool) → r < m → s < m → rest ≡ ltb r s → by_nat a b rest ≡ ltb (a * m + r) (b * m + s)
placed m a b r s rest h k e = ⊎_elim same (⊎_elim less more) (cases_order a b)
  where
    same : a ≡ b → by_nat a b rest ≡ ltb (a * m + r) (b * m + s)
    same q = let z : a * m ≡ b * m = ap (λ x. x * m) q in grind (arith, nat_tests)

    less : a < b → by_nat a b rest ≡ ltb (a * m + r) (b * m + s)
    less l = let z = mul-le-mul_right {m = suc a} {n = b} m (omega arith) in let y = suc-mul a m in grind (arith, nat_tests)

    more : b < a → by_nat a b rest ≡ ltb (a * m + r) (b * m + s)
    more l = let z = mul-le-mul_right {m = suc b} {n = a} m (omega arith) in let y = suc-mul b m in grind (arith, nat_tests)

-- the year, counted from the first that a date can hold
pub shifted : ℤ → ℕ
shifted y = nat_abs (y +ℤ pos 9999)

pub shifted_is : (y : ℤ) → negsuc 9998 ≤ℤ y → pos (shifted y) ≡ y +ℤ pos 9999
unfolding shifted
shifted_is y h = grind (arith, ints)

lined : (a b : ℤ) (rest : Bool) → negsuc 9998 ≤ℤ a → negsuc 9998 ≤ℤ b → by_int a b rest ≡ by_nat (shifted a) (shifted b) rest
unfolding shifted
lined a b rest h k = grind (arith, ints, nat_tests)

key_day : Date → ℕ
key_day d = d.month * 64 + d.day

key_mark : Date → ℕ
key_mark d = d.mark * 4096 + key_day d

key_year : Date → ℕ
key_year d = shifted d.year * 8192 + key_mark d

pub key : Date → ℕ
key d = d.era * 1073741824 + key_year d

-- the parts of the key lie below the places in front of them
record Low (d : Date) : Type 0 where
  day : d.day < 64
  month : key_day d < 4096
  mark : key_mark d < 8192
  year : key_year d < 1073741824

low : (d : Date) → Low d
unfolding key_day key_mark key_year
low d =
    let f = date_ranged d in
    let y = shifted_is d.year f.year_from in
    record { day = omega (arith, ints); month = omega (arith, ints); mark = omega (arith, ints); year = omega (arith, ints) }

pub earlier_key : (d e : Date) → earlier d e ≡ ltb (key d) (key e)
unfolding earlier key key_year key_mark key_day
earlier_key d e =
    let l = low d in
    let k = low e in
    placed 1073741824 d.era e.era (key_year d) (key_year e) _ l.year k.year
    (lined d.year e.year _ (date_ranged d).year_from (date_ranged e).year_from
    ∙ placed 8192 (shifted d.year) (shifted e.year) (key_mark d) (key_mark e) _ l.mark k.mark
    (placed 4096 d.mark e.mark (key_day d) (key_day e) _ l.month k.month
    (placed 64 d.month e.month d.day e.day _ l.day k.day refl)))

-- the key as a sum of places, the year's part a number of its own
pub record Keyed (d : Date) : Type 0 where
  pub part : ℕ
  pub part_is : pos part ≡ d.year +ℤ pos 9999
  pub key_is : key d ≡ d.era * 1073741824 + (part * 8192 + (d.mark * 4096 + (d.month * 64 + d.day)))

pub keyed : (d : Date) → Keyed d
unfolding key key_year key_mark key_day
keyed d = record { part = shifted d.year; part_is = shifted_is d.year (date_ranged d).year_from; key_is = refl }

pub before : (d e : Date) → earlier d e ≡ true → key d < key e
before d e h = ltb-true (key d) (key e) (sym (earlier_key d e) ∙ h)

pub not_before : (d e : Date) → earlier d e ≡ false → key e ≤ key d
not_before d e h = ltb-false (key d) (key e) (sym (earlier_key d e) ∙ h)

pub from_before : (d e : Date) → key d < key e → earlier d e ≡ true
from_before d e h = earlier_key d e ∙ lt-ltb (key d) (key e) h

pub from_not_before : (d e : Date) → key e ≤ key d → earlier d e ≡ false
from_not_before d e h = earlier_key d e ∙ le-ltb (key d) (key e) h

-- two dates with the same five numbers are one: what the type holds of them has one proof at most
pub same_date : (d e : Date) → d.era ≡ e.era → d.year ≡ e.year → d.mark ≡ e.mark → d.month ≡ e.month → d.day ≡ e.day → d ≡ e
same_date d e h y k m n = λ i. record {
  era = h i;
  year = y i;
  mark = k i;
  month = m i;
  day = n i;
  ok = is_prop→PathP (λ j. fits (pos (h j)) (y j) (pos (k j)) (pos (m j)) (pos (n j)) ≡ true) (λ j. Bool-set (fits (pos (h j)) (y j) (pos (k j)) (pos (m j)) (pos (n j))) true) d.ok e.ok i;
}

-- two dates with one key are one
pub same_key : (d e : Date) → key d ≡ key e → d ≡ e
unfolding key key_year key_mark key_day
same_key d e h =
    let l = low d in
    let k = low e in
    let y = shifted_is d.year (date_ranged d).year_from in
    let z = shifted_is e.year (date_ranged e).year_from in
    let s : shifted d.year ≡ shifted e.year = omega arith in
    same_date d e (omega arith) (omega (arith, ints)) (omega arith) (omega arith) (omega arith)

pub strict_total : StrictTotal
strict_total = record {
  never_itself = λ d. from_not_before d d (omega arith);
  transitive = λ d e f h k. from_before d f (omega (arith, before d e h, before e f k));
  total = λ d e h k. same_key d e (omega (arith, not_before d e h, not_before e d k));
}
