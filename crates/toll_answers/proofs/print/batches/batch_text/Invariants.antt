-- The lines so far.
use Rattle.std.proofs.Common.{◌≡◌, take}
use Rattle.toll_answers.proofs.Common.{batch_text}
use Rattle.toll_answers.proofs.print.batches.batch_text.Given as goal

abbrev pub invariant-loop-line : goal.invariant-loop-line
invariant-loop-line l = l.text.items ≡ batch_text l.view.row (take l.line-index l.line-items)
