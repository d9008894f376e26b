-- Division that rounds down: what a number is made of, and what comes with one more.
use Rattle.std.proofs.Common.{◌≡◌, ℕ, zero, suc, ◌+◌, ◌-◌, ◌*◌, ◌/◌, ◌%◌, ◌<◌, ◌≤◌, Bool, true, false, cond, eqb, ℤ, pos, negsuc, ◌+ℤ◌, ◌-ℤ◌, nat_abs, ◌≤ℤ◌, sym, refl, ap, ◌∙◌, ⊎_elim, mod-lt, suc-mul, mul-pos, div-add-mod', div-le_self, arith}
use native.Mathlib.Nat.{zero-div, zero-mod}
use borrow.Author.Differences.{up, down}
use lib.Arith.{digits_div, digits_mod, mod-mul}
use Rattle.std.proofs.lemmas.Int.{ints}
use Rattle.std.proofs.lemmas.Bool.{cases_lt, false≢true, eq-eqb, ne_eqb, eqb-true}
use Rattle.date.specs.Division.{floor, remainder, divisible}

-- 1 where the test passes
abbrev pub one_if : Bool → ℕ
one_if t = cond t 1 0

-- z is k times its floor, and the remainder
pub floor_is : (z : ℤ) (k : ℕ) → 0 < k → up (floor z k) * k + remainder z k + down z ≡ up z + down (floor z k) * k
floor_is (pos a) k h = omega (arith, div-add-mod' a k)
floor_is (negsuc a) k h = omega (arith, div-add-mod' a k, mod-lt a h)

pub remainder_lt : (z : ℤ) (k : ℕ) → 0 < k → remainder z k < k
remainder_lt (pos a) k h = mod-lt a h
remainder_lt (negsuc a) k h = omega (arith, mod-lt a h)

-- these two, for `omega`
pub ruleset floors = (floor_is, remainder_lt)

-- one more has one more in its quotient exactly where k divides it
next_div : (n k : ℕ) → 0 < k → suc n / k ≡ n / k + one_if (eqb (suc n % k) 0)
next_div n k h = ⊎_elim less full (cases_lt (suc (n % k)) k)
  where
    less : suc (n % k) < k → suc n / k ≡ n / k + one_if (eqb (suc n % k) 0)
    less l =
        let e : suc n ≡ n / k * k + suc (n % k) = omega (arith, div-add-mod' n k) in
        let q : suc n / k ≡ n / k = ap (λ x. x / k) e ∙ digits_div (n / k) l in
        let r : suc n % k ≡ suc (n % k) = ap (λ x. x % k) e ∙ digits_mod (n / k) l in
        let t : eqb (suc n % k) 0 ≡ false = ne_eqb (suc n % k) 0 (λ z. omega arith) in
        rw t (omega arith)

    full : k ≤ suc (n % k) → suc n / k ≡ n / k + one_if (eqb (suc n % k) 0)
    full l =
        let b = mod-lt n h in
        let e : suc n ≡ suc (n / k) * k + 0 = omega (arith, div-add-mod' n k, suc-mul (n / k) k) in
        let q : suc n / k ≡ suc (n / k) = ap (λ x. x / k) e ∙ digits_div (suc (n / k)) h in
        let r : suc n % k ≡ 0 = ap (λ x. x % k) e ∙ digits_mod (suc (n / k)) h in
        let t : eqb (suc n % k) 0 ≡ true = eq-eqb (suc n % k) 0 r in
        rw t (omega arith)

-- k divides one less than −n exactly where it divides n + 1
divides_back : (n k : ℕ) → 0 < k → eqb (k - 1 - n % k) 0 ≡ eqb (suc n % k) 0
divides_back n k h = ⊎_elim less full (cases_lt (suc (n % k)) k)
  where
    less : suc (n % k) < k → eqb (k - 1 - n % k) 0 ≡ eqb (suc n % k) 0
    less l =
        let e : suc n ≡ n / k * k + suc (n % k) = omega (arith, div-add-mod' n k) in
        let r : suc n % k ≡ suc (n % k) = ap (λ x. x % k) e ∙ digits_mod (n / k) l in
        ne_eqb (k - 1 - n % k) 0 (λ z. omega arith) ∙ sym (ne_eqb (suc n % k) 0 (λ z. omega arith))

    full : k ≤ suc (n % k) → eqb (k - 1 - n % k) 0 ≡ eqb (suc n % k) 0
    full l =
        let b = mod-lt n h in
        let e : suc n ≡ suc (n / k) * k + 0 = omega (arith, div-add-mod' n k, suc-mul (n / k) k) in
        let r : suc n % k ≡ 0 = ap (λ x. x % k) e ∙ digits_mod (suc (n / k)) h in
        eq-eqb (k - 1 - n % k) 0 (omega arith) ∙ sym (eq-eqb (suc n % k) 0 r)

-- the floor of a number, from that of the number before it
pub floor_next : (z : ℤ) (k : ℕ) → 0 < k → floor z k ≡ floor (z -ℤ pos 1) k +ℤ pos (one_if (divisible z k))
floor_next (pos zero) k h = first (0 / k) (divisible (pos 0) k) (zero-div k) (eq-eqb (0 % k) 0 (zero-mod k))
  where
    first : (a : ℕ) (t : Bool) → a ≡ 0 → t ≡ true → pos a ≡ negsuc a +ℤ pos (one_if t)
    first a true e f = omega (arith, ints)
    first a false e f = absurd (false≢true f)
floor_next (pos (suc n)) k h =
    let e : pos (suc n) -ℤ pos 1 ≡ pos n = omega (arith, ints) in
    ap pos (next_div n k h) ∙ ap (λ z. floor z k +ℤ pos (one_if (divisible (pos (suc n)) k))) (sym e)
floor_next (negsuc n) k h =
    let e : negsuc n -ℤ pos 1 ≡ negsuc (suc n) = omega (arith, ints) in
    let a : suc n / k ≡ n / k + one_if (divisible (negsuc n) k) = next_div n k h ∙ ap (λ t. n / k + one_if t) (sym (divides_back n k h)) in
    let b : negsuc (n / k) ≡ negsuc (suc n / k) +ℤ pos (one_if (divisible (negsuc n) k)) = omega (arith, ints) in
    b ∙ ap (λ z. floor z k +ℤ pos (one_if (divisible (negsuc n) k))) (sym e)

-- what a multiple divides, its factor divides
pub factor : (z : ℤ) (m k : ℕ) → 0 < m → 0 < k → divisible z (m * k) ≡ true → divisible z k ≡ true
factor (pos n) m k p q h = eq-eqb (n % k) 0 (omega (arith, mod-mul n p q, eqb-true _ _ h))
factor (negsuc n) m k p q h =
    let a : suc n % (m * k) ≡ 0 = eqb-true _ _ (sym (divides_back n (m * k) (mul-pos p q)) ∙ h) in
    divides_back n k q ∙ eq-eqb (suc n % k) 0 (omega (arith, mod-mul (suc n) p q))

-- a floor of a number that is not below 0 is its quotient
pub floor_nat : (z : ℤ) (k : ℕ) → pos 0 ≤ℤ z → floor z k ≡ pos (nat_abs z / k)
floor_nat (pos n) k h = refl
floor_nat (negsuc n) k h = absurd (omega (arith, ints))

pub remainder_nat : (z : ℤ) (k : ℕ) → pos 0 ≤ℤ z → remainder z k ≡ nat_abs z % k
remainder_nat (pos n) k h = refl
remainder_nat (negsuc n) k h = absurd (omega (arith, ints))

-- a floor lies no further out than the number
pub floor_fits : (z : ℤ) (k b : ℕ) → negsuc b ≤ℤ z → z ≤ℤ pos b → (negsuc b ≤ℤ floor z k) × (floor z k ≤ℤ pos b)
floor_fits (pos a) k b l u = (omega (arith, ints), (let d = div-le_self a k in omega (arith, ints)))
floor_fits (negsuc a) k b l u = ((let d = div-le_self a k in omega (arith, ints)), omega (arith, ints))
