use Rattle.std.proofs.Common.{◌≡◌, ◌+◌, drop}
use Rattle.toll_base.specs.Words.{total}
use Rattle.toll_stock.proofs.stock.sum_of_sublots.Given as goal

abbrev pub invariant-loop-row : goal.invariant-loop-row
invariant-loop-row l = l.sum + total (λ row. row.amount) (drop l.row-index l.rows) ≡ total (λ row. row.amount) l.rows
