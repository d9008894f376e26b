use Rattle.std.proofs.Common.{rules}
use Rattle.layer.proofs.Seams.{day_before}
use Rattle.layer.proofs.reform.Reform.seam.Goals as goal

pub returns-in_err-first : goal.returns-in_err-first
returns-in_err-first g c = search (rules, day_before)

pub returns-then-is_earlier : goal.returns-then-is_earlier
returns-then-is_earlier g c = search (rules, day_before)

pub returns-else-is_earlier : goal.returns-else-is_earlier
returns-else-is_earlier g c = search (rules, day_before)
