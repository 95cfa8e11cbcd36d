-- The lines so far.
use Rattle.std.proofs.Common.{◌≡◌, take}
use Rattle.toll_answers.proofs.Common.{orders_text}
use Rattle.toll_answers.proofs.print.orders.orders_text.Given as goal

abbrev pub invariant-loop-row : goal.invariant-loop-row
invariant-loop-row l = l.text.items ≡ orders_text (take l.row-index l.row-items)
