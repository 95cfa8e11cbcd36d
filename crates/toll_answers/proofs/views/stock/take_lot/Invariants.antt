use Rattle.std.proofs.Common.{length}
use Rattle.toll_answers.proofs.StockWalk.{IsWalkedTo}
use Rattle.toll_answers.proofs.views.stock.take_lot.Given as goal

abbrev pub invariant-loop-row : goal.invariant-loop-row
invariant-loop-row l = IsWalkedTo l.lot l.sublots l.sum l.rest

abbrev pub decreases-loop-row : goal.decreases-loop-row
decreases-loop-row l = length l.rest
