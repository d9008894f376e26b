use Rattle.carrying.proofs.Going.{the_law}
use Rattle.carrying.proofs.carry.carry.Goals as goal

pub returns-in_err-day-clause-law : goal.returns-in_err-day-clause-law
returns-in_err-day-clause-law g c = the_law

pub returns-clause-law : goal.returns-clause-law
returns-clause-law g c = the_law
