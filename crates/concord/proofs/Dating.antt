-- The letters' calendars keep the law, and carry a date on every day of the range.
use Rattle.std.proofs.Common.{◌≡◌, true, ℤ, pos, ◌≤ℤ◌, Ok, arith}
use lib.Signed.{le_z_yes}
use Rattle.std.proofs.lemmas.Int.{ints}
use Rattle.date.proofs.Keys.{day_between}
use Rattle.date.specs.declared.dates.Date.{Date}
use Rattle.date.specs.Days.{within, last_day}
use Rattle.calendar.proofs.Laws.{lawful}
use Rattle.calendar.specs.Meaning.{Lawful}
use Rattle.calendar.specs.Piles.{meaning}
use Rattle.reckoning.specs.Faiths.{faithful}
use Rattle.reckoning.specs.Reckoned.{reckoned}
use Rattle.reckoning.specs.Rules.{Rule, Sound, end}
use Rattle.solar.specs.GregorianYears.{gregorian_sound}
use Rattle.solar.specs.JulianYears.{julian_sound}
use Rattle.solar.specs.Gregorian as g
use Rattle.solar.specs.Julian as j
use Rattle.concord.specs.declared.letters.Letter.{Letter}
use Rattle.concord.specs.declared.letters.Letter.TheVariants.{G, J}
use Rattle.concord.specs.Calendars.{pile_of, sound, date_under}

pub law_of : (x : Letter) → Lawful (meaning (pile_of x))
law_of x = lawful (pile_of x) (sound x)

-- a rule whose years begin by day 1 and go past the range dates every day of it
some_date : (r : Rule) → Sound r → r.start r.first 1 ≤ℤ pos 0 → last_day ≤ℤ end r → (n : ℤ) → within n ≡ true → (d : Date) × ((reckoned r).on n ≡ Ok d)
some_date r s from to n w =
    let inside = day_between n w in
    let f = faithful r s in
    let one = f.one_date n (omega (arith, ints)) (omega (arith, ints)) in
    (one.0, (f.on_exact n one.0).1 (w, one.1))

pub dated_under : (x : Letter) (n : ℤ) → within n ≡ true → (d : Date) × (date_under x n ≡ Ok d)
unfolding g.before_year j.before_year
dated_under G n w = some_date g.gregorian gregorian_sound (le_z_yes tt) (le_z_yes tt) n w
dated_under J n w = some_date j.julian julian_sound (le_z_yes tt) (le_z_yes tt) n w
