-- The bytes of lines.
use Rattle.std.specs.Prelude.{ℕ, ◌-◌, Bool, ◌&&◌, nat_le}
use Rattle.date.specs.Bytes.{one}

abbrev pub line_feed : ℕ
line_feed = 10

-- the digits 0 and 9
abbrev pub naught : ℕ
naught = 48

abbrev pub nine : ℕ
nine = 57

abbrev pub capital_A : ℕ
capital_A = 65

abbrev pub capital_G : ℕ
capital_G = 71

abbrev pub capital_J : ℕ
capital_J = 74

abbrev pub capital_Z : ℕ
capital_Z = 90

abbrev pub digit : ℕ → Bool
digit b = nat_le naught b && nat_le b nine

abbrev pub digit_from_1 : ℕ → Bool
digit_from_1 b = nat_le one b && nat_le b nine

abbrev pub capital : ℕ → Bool
capital b = nat_le capital_A b && nat_le b capital_Z

-- the number that a digit writes
abbrev pub value : ℕ → ℕ
value b = b - naught
