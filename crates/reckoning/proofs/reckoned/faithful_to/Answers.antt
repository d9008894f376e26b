use Rattle.reckoning.specs.Faiths.{faithful}
use Rattle.reckoning.proofs.reckoned.faithful_to.Goals as goal

pub returns-clause-faithful : goal.returns-clause-faithful
returns-clause-faithful g c = faithful _ (g.met.R.Reckoning.sound c.args.by)
