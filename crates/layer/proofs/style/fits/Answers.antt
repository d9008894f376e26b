use Rattle.std.proofs.Common.{arith, rules}
use Rattle.std.proofs.lemmas.Int.{ints}
use Rattle.layer.proofs.style.fits.Goals as goal
use Rattle.layer.proofs.style.fits.Goals.{then-contains, else-contains}

pub returns-then-contains-2 : goal.returns-then-contains-2
returns-then-contains-2 c = elim c.if-contains.branch [ then-contains w ↦ search rules | else-contains w ↦ grind (arith, ints) ]

pub returns-else-contains-2 : goal.returns-else-contains-2
returns-else-contains-2 c = elim c.if-contains.branch [ then-contains w ↦ search rules | else-contains w ↦ search rules ]
