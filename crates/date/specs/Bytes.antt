-- The bytes of written dates and refusals.
use Rattle.std.specs.Prelude.{ℕ}

abbrev pub space : ℕ
space = 32

-- `!`, which begins a refusal
abbrev pub bang : ℕ
bang = 33

abbrev pub hyphen : ℕ
hyphen = 45

abbrev pub slash : ℕ
slash = 47

-- the digit 1
abbrev pub one : ℕ
one = 49

abbrev pub colon : ℕ
colon = 58
