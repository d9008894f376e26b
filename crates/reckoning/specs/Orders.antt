-- Cases and tests on numbers.
use Rattle.std.specs.Prelude.{◌≡◌, Bool, true, false, ◌⊎◌, ℤ, ◌≤ℤ◌, ◌<ℤ◌, int_le, int_lt, refl}
use Rattle.std.proofs.Common.{arith, inl, inr, sym}
use Rattle.std.proofs.lemmas.Int.{ints}

pub orderℤ : (a b : ℤ) → (a <ℤ b) ⊎ ((a ≡ b) ⊎ (b <ℤ a))
orderℤ a b = by (int_lt a b) refl (int_lt b a) refl
  where
    by : (t : Bool) → int_lt a b ≡ t → (u : Bool) → int_lt b a ≡ u → (a <ℤ b) ⊎ ((a ≡ b) ⊎ (b <ℤ a))
    by true e u f = inl (omega (arith, ints))
    by false e true f = inr (inr (omega (arith, ints)))
    by false e false f = inr (inl (omega (arith, ints)))

pub is_lt : (a b : ℤ) → a <ℤ b → int_lt a b ≡ true
is_lt a b h = sym (omega (arith, ints))

pub is_le : (a b : ℤ) → a ≤ℤ b → int_le a b ≡ true
is_le a b h = sym (omega (arith, ints))

pub not_lt : (a b : ℤ) → b ≤ℤ a → int_lt a b ≡ false
not_lt a b h = sym (omega (arith, ints))

pub not_le : (a b : ℤ) → b <ℤ a → int_le a b ≡ false
not_le a b h = sym (omega (arith, ints))

pub lt_is : (a b : ℤ) → int_lt a b ≡ true → a <ℤ b
lt_is a b h = omega (arith, ints)

pub le_is : (a b : ℤ) → int_le a b ≡ true → a ≤ℤ b
le_is a b h = omega (arith, ints)
