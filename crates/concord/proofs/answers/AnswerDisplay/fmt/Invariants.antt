use Rattle.std.proofs.Common.{take}
use Rattle.std.specs.Fmt.{IsPlainFormatter, HasWritten}
use Rattle.concord.specs.Texts.{columns_text}
use Rattle.concord.proofs.answers.AnswerDisplay.fmt.Given as goal

-- the columns so far are written
abbrev pub invariant-loop-column : goal.invariant-loop-column
invariant-loop-column g l =
    IsPlainFormatter {W = g.row.W.Denot} l.initial.f
    → HasWritten {W = g.row.W.Denot} g.W.Write.write_str_gives l.initial.f (columns_text (take l.column-index l.column-items)) l.f
