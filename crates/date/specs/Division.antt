-- Division that rounds down, for numbers of either sign: the quotient, and the remainder, which is never below 0.
use Rattle.std.specs.Prelude.{ℕ, ◌-◌, ◌/◌, ◌%◌, Bool, ℤ, pos, negsuc, ◌==◌}

abbrev pub floor : ℤ → ℕ → ℤ
floor (pos n) k = pos (n / k)
floor (negsuc n) k = negsuc (n / k)

abbrev pub remainder : ℤ → ℕ → ℕ
remainder (pos n) k = n % k
remainder (negsuc n) k = k - 1 - n % k

abbrev pub divisible : ℤ → ℕ → Bool
divisible n k = remainder n k == 0
