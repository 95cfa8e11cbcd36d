-- With the shipments to come, the sum is that of all; and it fits 64 bits.
use Rattle.std.proofs.Common.{◌≡◌, ◌+◌, ◌*◌, ◌≤◌, length}
use Rattle.toll_stock.proofs.Common.{total, shipped_by, MOST_MOVEMENTS}
use Rattle.toll_stock.proofs.totals.sum_of_shipments.Given as goal

abbrev pub invariant-loop-row : goal.invariant-loop-row
invariant-loop-row l = record {
  so_far : l.sum + total (shipped_by l.lot) l.row-iterator ≡ total (shipped_by l.lot) l.slice.moves;
  small : l.sum + 1000000000 * length l.row-iterator ≤ 1000000000 * MOST_MOVEMENTS;
}
