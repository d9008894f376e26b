-- Facts that are computed on the stretches between limits.
use Rattle.std.specs.Prelude.{◌≡◌, ℕ, ◌+◌, ◌<◌, ◌≤◌, Bool, true, ◌&&◌, ◌||◌, List, [], ◌∷◌, nat_le, ℤ, pos, ◌+ℤ◌}
use Rattle.std.proofs.Common.{arith, ⊎_elim}
use Rattle.std.proofs.lemmas.Bool.{cases_lt, and_parts}
use Rattle.std.proofs.lemmas.Int.{ints}
use Rattle.std.proofs.lemmas.Bool.Decides.{nat_tests}

-- no number from a to below b lies on the other side of the limit c
abbrev pub clear : ℕ → ℕ → ℕ → Bool
clear c a b = nat_le c a || nat_le b c

pub same_side : (c a b p : ℕ) → clear c a b ≡ true → a ≤ p → p < b → nat_le c p ≡ nat_le c a
same_side c a b p t h i = grind (arith, nat_tests)

-- a test passes on each stretch, from a to the first of the limits and from each limit to the next
abbrev pub stretches : (ℕ → ℕ → Bool) → ℕ → List ℕ → Bool
stretches ok a [] = true
stretches ok a (b ∷ cs) = ok a b && stretches ok b cs

abbrev pub final : ℕ → List ℕ → ℕ
final a [] = a
final a (b ∷ cs) = final b cs

pub along : (ok : ℕ → ℕ → Bool) (P : ℕ → Type 0) → ((a b p : ℕ) → ok a b ≡ true → a ≤ p → p < b → P p) → (a : ℕ) (cs : List ℕ) → stretches ok a cs ≡ true → (p : ℕ) → a ≤ p → p < final a cs → P p
along ok P h a [] t p l u = absurd (omega arith)
along ok P h a (b ∷ cs) t p l u = let s = and_parts _ _ t in ⊎_elim (λ v. h a b p s.0 l v) (λ v. along ok P h b cs s.1 p v u) (cases_lt p b)

-- more days, from the same day on
pub more : (z : ℤ) (a b c : ℕ) → a ≡ b + c → z +ℤ pos a ≡ z +ℤ pos b +ℤ pos c
more z a b c e = omega (arith, ints)
