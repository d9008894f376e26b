use Rattle.std.proofs.Common.{rules}
use Rattle.lunar.specs.HebrewLaws.{regular_by}
use Rattle.lunar.proofs.hebrew.days_in_year.Goals as goal

pub returns-clause-regular : goal.returns-clause-regular
returns-clause-regular c = regular_by _ _ c.requires.from (search rules)
