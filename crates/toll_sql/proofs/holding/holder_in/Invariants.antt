use Rattle.std.proofs.Common.{◌≡◌, IfSome, None, take, Contains}
use Rattle.toll_sql.proofs.Common.{Row, AreBatchRows, IsRowOfBatch}
use Rattle.toll_sql.proofs.holding.holder_in.Given as goal

-- The rows so far are those of batches, and one of them is that of the batch that was found.
abbrev pub invariant-loop-row : goal.invariant-loop-row
invariant-loop-row l = record {
  shown : IfSome l.found (λ h. (row : Row) × Contains l.rows row × IsRowOfBatch row h);
  none : l.found ≡ None → l.row-index ≡ 0;
  whole : AreBatchRows (take l.row-index l.rows);
}
