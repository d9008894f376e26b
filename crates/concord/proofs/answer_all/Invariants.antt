use Rattle.std.proofs.Common.{◌≡◌, length}
use Rattle.concord.proofs.answer_all.Given as goal

abbrev pub invariant-loop : goal.invariant-loop
invariant-loop g l = length l.chunk ≡ 8192
