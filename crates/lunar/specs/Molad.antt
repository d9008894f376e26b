-- The molad, the mean new moon from which the Hebrew year is found. An hour has 1,080 parts, and a day 25,920.
use Rattle.std.specs.Prelude.{ℕ, ◌+◌, ◌-◌, ◌*◌, ◌/◌, ◌%◌, Bool, ℤ, negsuc, nat_lt}

-- seven years of nineteen have a thirteenth month: (7y + 1) mod 19 < 7
abbrev pub leap : ℕ → Bool
leap y = nat_lt ((7 * y + 1) % 19) 7

-- the months before the year: ⌊(235y − 234) / 19⌋
abbrev pub months_before : ℕ → ℕ
months_before y = (235 * y - 234) / 19

-- the day of the first molad, −1,373,427: a Monday, from which the molads are counted
abbrev pub epoch : ℤ
epoch = negsuc 1373426

-- the molad of the year, in parts from the start of that day: the first comes after 5,604, and a month has 29 days, 12 hours
-- and 793 parts, which are 765,433 parts
abbrev pub molad : ℕ → ℕ
molad y = 5604 + 765433 * months_before y

-- the day on which it falls, and at which part of the day
abbrev pub molad_day : ℕ → ℕ
molad_day y = molad y / 25920

abbrev pub molad_part : ℕ → ℕ
molad_part y = molad y % 25920

-- the weekday of a day counted from that Monday, 0 for Sunday
abbrev pub weekday : ℕ → ℕ
weekday d = (d + 1) % 7
