use Rattle.std.proofs.Common.{◌≡◌, ◌+◌, ◌*◌, ◌≤◌, length}
use Rattle.toll_stock.proofs.Common.{Bytes, total, amount_of, shipped_by, MOST_MOVEMENTS}
use Rattle.toll_stock.proofs.shipped.Shipped.of.Given as goal

-- With the movements to come, the amount of each lot is what all of them took.
abbrev pub invariant-loop-row : goal.invariant-loop-row
invariant-loop-row l = record {
  so_far : (lot : Bytes) → amount_of l.shipped lot + total (shipped_by lot) l.row-iterator ≡ total (shipped_by lot) l.slice.moves;
  small : (lot : Bytes) → amount_of l.shipped lot + 1000000000 * length l.row-iterator ≤ 1000000000 * MOST_MOVEMENTS;
}
