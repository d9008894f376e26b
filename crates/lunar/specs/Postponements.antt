-- The four postponements of the Hebrew new year, by the weekday of the molad and by its part of the day.
use Rattle.std.specs.Prelude.{ℕ, ◌+◌, ◌%◌, Bool, cond, not, ◌&&◌, ◌||◌, ◌==◌, nat_le}
use Rattle.lunar.specs.Weekdays.{sunday, monday, tuesday, wednesday, friday}

-- (i) Molad zaken: the molad falls at noon or later, 18 hours or more into its day. The year begins a day later.
abbrev pub molad_zaken : ℕ → Bool
molad_zaken p = nat_le 19440 p

-- (ii) Lo ADU: the day reached is a Sunday, a Wednesday or a Friday. The year begins a day later again.
abbrev pub lo_adu : ℕ → Bool
lo_adu w = w == sunday || (w == wednesday || w == friday)

-- (iii) GaTaRaD: the year is common, and its molad falls on a Tuesday, 9 hours and 204 parts or more into it. The year
-- begins on that Thursday.
abbrev pub gatarad : Bool → ℕ → ℕ → Bool
gatarad leap w p = not leap && (w == tuesday && nat_le 9924 p)

-- (iv) BeTUTaKPaT: the year before is leap, and the molad falls on a Monday, 15 hours and 589 parts or more into it. The
-- year begins on that Tuesday.
abbrev pub betutakpat : Bool → ℕ → ℕ → Bool
betutakpat after_leap w p = after_leap && (w == monday && nat_le 16789 p)

-- the days by (i), and with one more by (ii)
abbrev pub by_noon : ℕ → ℕ
by_noon p = cond (molad_zaken p) 1 0

abbrev pub by_weekday : ℕ → ℕ → ℕ
by_weekday w days = cond (lo_adu ((w + days) % 7)) (days + 1) days

-- the days from the molad's to the new year: to the Thursday by (iii), to the Tuesday by (iv), else by (i) and (ii)
abbrev pub delay : Bool → Bool → ℕ → ℕ → ℕ
delay leap after_leap w p = cond (gatarad leap w p) 2 (cond (betutakpat after_leap w p) 1 (by_weekday w (by_noon p)))
