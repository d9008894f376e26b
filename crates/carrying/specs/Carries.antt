-- Which date a day carries in a pile: the rules of the layers, each in its own words, whatever a program does.
use Rattle.std.specs.Prelude.{◌≡◌, ℕ, ◌<◌, true, ◌⊎◌, List, ℤ, pos, ◌+ℤ◌, ◌-ℤ◌, ◌≤ℤ◌, ◌<ℤ◌, Some, Ok}
use Rattle.date.specs.declared.dates.Date.{Date}
use Rattle.date.specs.Order.{earlier}
use Rattle.calendar.specs.declared.rows.Row.{Row}
use Rattle.carrying.specs.Piles.{Pile, calendar, reform, style, era}
use Rattle.calendar.specs.Rows.{row_of}
use Rattle.calendar.specs.Styles.{YearStyle}

-- the date's month and day come before the start of the style's year
abbrev pub BeforeStart : YearStyle → Date → Type 0
BeforeStart s b = (b.month < s.month) ⊎ ((b.month ≡ s.month) × (b.day < s.day))

-- the year and the mark of d, where b is below: before the start it is still the year before, and marked
abbrev pub YearTold : YearStyle → Date → Date → Type 0
YearTold s b d =
    (BeforeStart s b × (d.mark ≡ 1) × (d.year ≡ b.year +ℤ s.addition -ℤ pos 1))
    ⊎ ((BeforeStart s b → ⊥) × (d.mark ≡ 0) × (d.year ≡ b.year +ℤ s.addition))

-- d is the date b, which has no era and no mark, as the style tells it: month and day stay
pub record Styled (s : YearStyle) (b d : Date) : Type 0 where
  pub no_era : b.era ≡ 0
  pub no_mark : b.mark ≡ 0
  pub era : d.era ≡ 0
  pub month : d.month ≡ b.month
  pub day : d.day ≡ b.day
  pub year : YearTold s b d

-- r is row i, it began by the day n, and no row after it did
pub record LastBegun (rows : List Row) (n : ℤ) (i : ℕ) (r : Row) : Type 0 where
  pub row : row_of rows i ≡ Some r
  pub began : r.first ≤ℤ n
  pub last : (j : ℕ) (s : Row) → i < j → row_of rows j ≡ Some s → n <ℤ s.first

-- no row began by the day n
abbrev pub NoneBegun : List Row → ℤ → Type 0
NoneBegun rows n = (j : ℕ) (s : Row) → row_of rows j ≡ Some s → n <ℤ s.first

-- d is the date b of no era, counted in the era i of the row r, on whose first day the date o is below: mark, month and
-- day stay
pub record Counted (i : ℕ) (r : Row) (o b d : Date) : Type 0 where
  pub no_era : b.era ≡ 0
  pub no_era_first : o.era ≡ 0
  pub era : d.era ≡ i
  pub year : d.year ≡ pos r.number +ℤ b.year -ℤ o.year
  pub mark : d.mark ≡ b.mark
  pub month : d.month ≡ b.month
  pub day : d.day ≡ b.day

-- Which date a day carries in a reform, by those that the days carry in the old and in the new. A day before the cut
-- carries the old's date. Any other carries the new's, if the seam is sound: the old carries some date on the day before
-- the cut, and the new a later one on the cut.
abbrev pub ByReform : (ℤ → Date → Type 0) → (ℤ → Date → Type 0) → ℤ → ℤ → Date → Type 0
ByReform Old New c n d =
    ((n <ℤ c) × Old n d)
    ⊎ ((c ≤ℤ n) × ((e : Date) × (f : Date) × Old (c -ℤ pos 1) e × New c f × (earlier e f ≡ true)) × New n d)

-- In a style the day carries the date below as the style tells it.
abbrev pub ByStyle : YearStyle → (ℤ → Date → Type 0) → ℤ → Date → Type 0
ByStyle s Below n d = (b : Date) × Below n b × Styled s b d

-- In a table of eras a day on which no row has begun carries the date below, if that has no era; another carries the date
-- below counted from the last row that began by then.
abbrev pub ByEra : List Row → (ℤ → Date → Type 0) → ℤ → Date → Type 0
ByEra rows Below n d =
    (NoneBegun rows n × Below n d × (d.era ≡ 0))
    ⊎ ((b : Date) × (i : ℕ) × (r : Row) × (o : Date) × Below n b × LastBegun rows n i r × Below r.first o × Counted i r o b d)

-- a day carries a date in a pile: in a calendar, as the calendar says
abbrev pub Carries : Pile → ℤ → Date → Type 0
Carries (calendar m) n d = m.on n ≡ Ok d
Carries (reform old new c) n d = ByReform (Carries old) (Carries new) c n d
Carries (style s below) n d = ByStyle s (Carries below) n d
Carries (era rows below) n d = ByEra rows (Carries below) n d
