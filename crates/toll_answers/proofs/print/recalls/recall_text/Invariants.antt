-- The lines so far.
use Rattle.std.proofs.Common.{◌≡◌, take}
use Rattle.toll_answers.proofs.Common.{recall_text}
use Rattle.toll_answers.proofs.print.recalls.recall_text.Given as goal

abbrev pub invariant-loop-line : goal.invariant-loop-line
invariant-loop-line l = l.text.items ≡ recall_text (take l.line-index l.lines)
