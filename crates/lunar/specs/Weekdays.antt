-- The weekdays by their numbers, which the Hebrew new year asks for.
use Rattle.std.specs.Prelude.{ℕ}
use Rattle.lunar.specs.declared.weekday.Weekday.{Weekday}
use Rattle.lunar.specs.declared.weekday.Weekday.TheVariants.{Sunday, Monday, Tuesday, Wednesday, Thursday, Friday, Saturday}

abbrev pub sunday : ℕ
sunday = 0

abbrev pub monday : ℕ
monday = 1

abbrev pub tuesday : ℕ
tuesday = 2

abbrev pub wednesday : ℕ
wednesday = 3

abbrev pub thursday : ℕ
thursday = 4

abbrev pub friday : ℕ
friday = 5

abbrev pub saturday : ℕ
saturday = 6

-- the number of each weekday
abbrev pub number_of : Weekday → ℕ
number_of Sunday = sunday
number_of Monday = monday
number_of Tuesday = tuesday
number_of Wednesday = wednesday
number_of Thursday = thursday
number_of Friday = friday
number_of Saturday = saturday
