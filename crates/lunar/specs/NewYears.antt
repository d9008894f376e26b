-- The lengths of the Hebrew years, and the weekdays on which they begin. How long a year is put off depends on its molad's part
-- only by the side of three limits on which it lies, and so does the year after it: between limits, one part stands for all.
use Rattle.std.specs.Prelude.{◌≡◌, ℕ, ◌+◌, ◌-◌, ◌*◌, ◌%◌, ◌<◌, ◌≤◌, Bool, true, false, cond, not, ◌&&◌, ◌⊎◌, List, [], ◌∷◌, nat_le, refl}
use Rattle.std.proofs.Common.{arith}
use Rattle.std.proofs.lemmas.Bool.{true≢false, and_parts, agree_below, agree_below_at, not-true}
use Rattle.std.proofs.lemmas.Bool.Decides.{nat_tests}
use Rattle.lunar.specs.Hebrew.{new_year, year_days}
use Rattle.lunar.specs.HebrewYears.{Length}
use Rattle.lunar.specs.Molad.{leap, molad_day, molad_part, weekday}
use Rattle.lunar.specs.Postponements.{lo_adu, delay}
use Rattle.lunar.specs.Computed.{clear, same_side, stretches, along}
use Rattle.lunar.specs.Moons.{apart, apart_before, whole, rest, room, carry, next_part, next_molad, week_more, molad_small}

-- the postponement, under a name that stays shut
unfoldable pub off : Bool → Bool → ℕ → ℕ → ℕ
off l k w p = delay l k w p

-- a test passes at each number below k
abbrev all_below : (ℕ → Bool) → ℕ → Bool
all_below f k = agree_below f (λ _. true) k

-- no limit of a rule divides the parts from a to below b
abbrev undivided : ℕ → ℕ → Bool
undivided a b = clear 9924 a b && (clear 16789 a b && clear 19440 a b)

off_along : (l k : Bool) (w a b p : ℕ) → undivided a b ≡ true → a ≤ p → p < b → off l k w p ≡ off l k w a
unfolding off
off_along l k w a b p t h i =
    let s = and_parts _ _ t in
    let r = and_parts _ _ s.1 in
    let x = same_side 9924 a b p s.0 h i in
    let y = same_side 16789 a b p r.0 h i in
    let z = same_side 19440 a b p r.1 h i in
    rw (x, y, z)

-- the limits of the rules, and the parts from which the next molad is past one of them or a day later
abbrev limits : List ℕ
limits = 408 ∷ 2651 ∷ 7273 ∷ 9924 ∷ 12575 ∷ 16404 ∷ 16789 ∷ 19440 ∷ 22091 ∷ 25920 ∷ []

-- the least days of a year, common or leap
abbrev pub least : Bool → ℕ
least l = cond l 383 353

-- the days from the molad's to the next new year, where the molad falls on weekday w at part p: the next year is leap or not, n
abbrev span : Bool → Bool → ℕ → ℕ → ℕ
span l n w p = whole l + carry l p + off n l ((w + (whole l + carry l p)) % 7) (next_part l p)

-- the year before is leap or not, k
abbrev fair : Bool → Bool → Bool → ℕ → ℕ → Bool
fair l k n p w = nat_le (least l + off l k w p) (span l n w p) && nat_le (span l n w p) (least l + 2 + off l k w p)

fair_stretch : Bool → Bool → Bool → ℕ → ℕ → Bool
fair_stretch l k n a b = undivided a b && (clear (room l) a b && (undivided (next_part l a) (next_part l a + (b - a)) && all_below (fair l k n a) 7))

fair_along : (l k n : Bool) (a b p : ℕ) → fair_stretch l k n a b ≡ true → a ≤ p → p < b → (w : ℕ) → w < 7 → fair l k n p w ≡ true
unfolding fair_stretch
fair_along l k n a b p t h i w j =
    let s = and_parts _ _ t in
    let r = and_parts _ _ s.1 in
    let q = and_parts _ _ r.1 in
    let x = off_along l k w a b p s.0 h i in
    let c = same_side (room l) a b p r.0 h i in
    let y = off_along n l ((w + (whole l + carry l a)) % 7) (next_part l a) (next_part l a + (b - a)) (p + rest l - carry l a * 25920) q.0 (omega arith) (omega arith) in
    rw (c, x, y) (agree_below_at (fair l k n a) (λ _. true) 7 w q.1 j)

-- a leap year neither follows a leap year nor comes before one
all_fair : (l k n : Bool) → (l ≡ true → k ≡ false) → (l ≡ true → n ≡ false) → stretches (fair_stretch l k n) 0 limits ≡ true
unfolding fair_stretch off
all_fair true true n a b = absurd (true≢false (a refl))
all_fair true false true a b = absurd (true≢false (b refl))
all_fair true false false a b = refl
all_fair false true true a b = refl
all_fair false true false a b = refl
all_fair false false true a b = refl
all_fair false false false a b = refl

next_year : (y : ℕ) → 1 ≤ y → new_year (y + 1) ≡ molad_day y + span (leap y) (leap (y + 1)) (weekday (molad_day y)) (molad_part y)
unfolding new_year off
next_year y h =
    let n = next_molad y h in
    let same : y + 1 - 1 ≡ y = omega arith in
    let week = week_more (molad_day y) (whole (leap y) + carry (leap y) (molad_part y)) in
    rw (same, n.0, n.1, week) (omega arith)

pub this_year : (y : ℕ) → new_year y ≡ molad_day y + off (leap y) (leap (y - 1)) (weekday (molad_day y)) (molad_part y)
unfolding new_year off
this_year y = refl

-- a year lasts between its least days and two more
pub year_fits : (y : ℕ) → 1 ≤ y → (least (leap y) + new_year y ≤ new_year (y + 1)) × (new_year (y + 1) ≤ least (leap y) + 2 + new_year y)
year_fits y h =
    let e = next_year y h in
    let f = this_year y in
    let l = leap y in
    let k = leap (y - 1) in
    let n = leap (y + 1) in
    let P : ℕ → Type 0 = λ p. (w : ℕ) → w < 7 → fair l k n p w ≡ true in
    let g = along (fair_stretch l k n) P (fair_along l k n) 0 limits (all_fair l k n (apart_before y h) (apart y)) (molad_part y) (omega arith) (omega arith) (weekday (molad_day y)) (omega arith) in
    grind (arith, nat_tests, g)

pub year_ends : (y : ℕ) → 1 ≤ y → (new_year y ≤ new_year (y + 1)) × (new_year (y + 1) ≤ new_year y + 385)
year_ends y h = let f = year_fits y h in (grind arith, grind arith)

pub year_lengths : (y : ℕ) → 1 ≤ y → Length (leap y) (year_days y)
year_lengths y h = let f = year_fits y h in by (leap y) f
  where
    three : (a n : ℕ) → a ≤ n → n ≤ a + 2 → (n ≡ a) ⊎ ((n ≡ a + 1) ⊎ (n ≡ a + 2))
    three a n h i = grind arith

    by : (l : Bool) → (least l + new_year y ≤ new_year (y + 1)) × (new_year (y + 1) ≤ least l + 2 + new_year y) → Length l (new_year (y + 1) - new_year y)
    by true f = three 383 (new_year (y + 1) - new_year y) (omega arith) (omega arith)
    by false f = three 353 (new_year (y + 1) - new_year y) (omega arith) (omega arith)

-- no year begins on a barred day
abbrev lands : Bool → Bool → ℕ → ℕ → Bool
lands l k p w = not (lo_adu ((w + off l k w p) % 7))

landing_stretch : Bool → Bool → ℕ → ℕ → Bool
landing_stretch l k a b = undivided a b && all_below (lands l k a) 7

lands_along : (l k : Bool) (a b p : ℕ) → landing_stretch l k a b ≡ true → a ≤ p → p < b → (w : ℕ) → w < 7 → lands l k p w ≡ true
unfolding landing_stretch
lands_along l k a b p t h i w j =
    let s = and_parts _ _ t in
    let x = off_along l k w a b p s.0 h i in
    rw x (agree_below_at (lands l k a) (λ _. true) 7 w s.1 j)

all_land : (l k : Bool) → stretches (landing_stretch l k) 0 limits ≡ true
unfolding landing_stretch off
all_land true true = refl
all_land true false = refl
all_land false true = refl
all_land false false = refl

pub allowed_days : (y : ℕ) → lo_adu (weekday (new_year y)) ≡ false
allowed_days y =
    let l = leap y in
    let k = leap (y - 1) in
    let P : ℕ → Type 0 = λ p. (w : ℕ) → w < 7 → lands l k p w ≡ true in
    let e = this_year y in
    let f = week_more (molad_day y) (off l k (weekday (molad_day y)) (molad_part y)) in
    rw (e, f) (not-true _ (along (landing_stretch l k) P (lands_along l k) 0 limits (all_land l k) (molad_part y) (omega arith) (omega arith) (weekday (molad_day y)) (omega arith)))

-- sizes
pub delay_small : (l k : Bool) (w p : ℕ) → delay l k w p ≤ 2
delay_small l k w p = grind arith

pub new_year_small : (y : ℕ) → 1 ≤ y → y ≤ 100000 → new_year y ≤ 36600002
unfolding new_year
new_year_small y h i =
    let m = molad_small y h i in
    let s = delay_small (leap y) (leap (y - 1)) (weekday (molad_day y)) (molad_part y) in
    omega arith
