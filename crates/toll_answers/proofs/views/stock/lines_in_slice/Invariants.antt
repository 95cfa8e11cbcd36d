use Rattle.std.proofs.Common.{◌≡◌, map, take}
use Rattle.toll_answers.proofs.Common.{line_in}
use Rattle.toll_answers.proofs.StockWalk.{AreInOrder, HoldFrom}
use Rattle.toll_answers.proofs.views.stock.lines_in_slice.Given as goal

abbrev pub invariant-loop-row : goal.invariant-loop-row
invariant-loop-row l = record {
  lines : l.lines.items ≡ map (line_in l.slice) (take l.row-index l.rows);
  order : AreInOrder l.sublots;
  left : HoldFrom l.slice l.rows l.row-index l.sublots;
}
