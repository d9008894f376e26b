-- Rust's derived order compares the numbers of two dates in turn, as `earlier` does.
use Rattle.std.proofs.Common.{◌≡◌, ℕ, Bool, cond, nat_lt, ℤ, Some, Option, Ordering, Less, Equal, Greater, sym, arith}
use Rattle.std.specs.Ordering.{is_some_and, is_lt, nat_cmp, int_cmp, ordering_then, partial_ordering_then}
use Rattle.std.proofs.lemmas.Int.{ints}
use Rattle.std.proofs.lemmas.Bool.Decides.{nat_tests}
use Rattle.date.specs.declared.dates.Date.{Date}
use Rattle.date.specs.Order.{by_nat, by_int, earlier, ordering}

-- what the derived `<` says of the last field, and of one field and of those behind it
pub at_last : (a b : ℕ) → is_some_and is_lt (Some (nat_cmp a b)) ≡ nat_lt a b
at_last a b = grind (arith, nat_tests)

pub at_nat : (a b : ℕ) (rest : Bool) (r : Option Ordering) → is_some_and is_lt r ≡ rest → is_some_and is_lt (partial_ordering_then (Some (nat_cmp a b)) r) ≡ by_nat a b rest
at_nat a b rest r h = grind (arith, nat_tests)

pub at_int : (a b : ℤ) (rest : Bool) (r : Option Ordering) → is_some_and is_lt r ≡ rest → is_some_and is_lt (partial_ordering_then (Some (int_cmp a b)) r) ≡ by_int a b rest
at_int a b rest r h = grind (arith, ints, nat_tests)

-- the answer of two tests, the one date before the other and the other before the one
abbrev pub answer : Bool → Bool → Ordering
answer less more = cond less Less (cond more Greater Equal)

-- what `cmp` says of the last field, and of one field and of those behind it
pub told_last : (a b : ℕ) → nat_cmp a b ≡ answer (nat_lt a b) (nat_lt b a)
told_last a b = grind (arith, nat_tests)

pub told_nat : (a b : ℕ) (less more : Bool) (r : Ordering) → r ≡ answer less more → ordering_then (nat_cmp a b) r ≡ answer (by_nat a b less) (by_nat b a more)
told_nat a b less more r h = grind (arith, nat_tests)

pub told_int : (a b : ℤ) (less more : Bool) (r : Ordering) → r ≡ answer less more → ordering_then (int_cmp a b) r ≡ answer (by_int a b less) (by_int b a more)
told_int a b less more r h = grind (arith, ints, nat_tests)

-- the derived `<` is the order of dates, and the derived `cmp` tells it
pub derived_lt : (a b : Date) → earlier a b ≡ is_some_and is_lt (partial_ordering_then (Some (nat_cmp a.era b.era)) (partial_ordering_then (Some (int_cmp a.year b.year)) (partial_ordering_then (Some (nat_cmp a.mark b.mark)) (partial_ordering_then (Some (nat_cmp a.month b.month)) (Some (nat_cmp a.day b.day))))))
unfolding earlier
derived_lt a b = sym (at_nat a.era b.era _ _ (at_int a.year b.year _ _ (at_nat a.mark b.mark _ _ (at_nat a.month b.month _ _ (at_last a.day b.day)))))

pub derived_cmp : (a b : Date) → ordering a b ≡ ordering_then (nat_cmp a.era b.era) (ordering_then (int_cmp a.year b.year) (ordering_then (nat_cmp a.mark b.mark) (ordering_then (nat_cmp a.month b.month) (nat_cmp a.day b.day))))
unfolding earlier
derived_cmp a b = sym (told_nat a.era b.era _ _ _ (told_int a.year b.year _ _ _ (told_nat a.mark b.mark _ _ _ (told_nat a.month b.month _ _ _ (told_last a.day b.day)))))
