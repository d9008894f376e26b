-- The order of dates: field by field, the era first. The first number in which two dates differ decides.
use Rattle.std.specs.Prelude.{◌≡◌, ℕ, Bool, true, false, cond, ℤ, ◌==◌, int_le, int_lt, nat_lt}
use Rattle.std.specs.declared.cmp.Ordering.TheVariants.{Less, Equal, Greater}
use Rattle.std.specs.declared.cmp.Ordering.{Ordering}
use Rattle.date.specs.declared.dates.Date.{Date}

-- true where the first pair is in order, `rest` where it is equal
abbrev pub decide : Bool → Bool → Bool → Bool
decide true same rest = true
decide false true rest = rest
decide false false rest = false

abbrev pub by_nat : ℕ → ℕ → Bool → Bool
by_nat a b rest = decide (nat_lt a b) (a == b) rest

abbrev pub by_int : ℤ → ℤ → Bool → Bool
by_int a b rest = decide (int_lt a b) (int_le a b) rest

unfoldable pub earlier : Date → Date → Bool
earlier d e = by_nat d.era e.era (by_int d.year e.year (by_nat d.mark e.mark (by_nat d.month e.month (nat_lt d.day e.day))))

-- how the first date stands to the second
abbrev pub ordering : Date → Date → Ordering
ordering d e = cond (earlier d e) Less (cond (earlier e d) Greater Equal)

-- `earlier` is a strict total order: no date is earlier than itself, an earlier date than an earlier one is earlier, and
-- of two dates that differ one is earlier
pub record StrictTotal : Type 0 where
  pub never_itself : (d : Date) → earlier d d ≡ false
  pub transitive : (d e f : Date) → earlier d e ≡ true → earlier e f ≡ true → earlier d f ≡ true
  pub total : (d e : Date) → earlier d e ≡ false → earlier e d ≡ false → d ≡ e
