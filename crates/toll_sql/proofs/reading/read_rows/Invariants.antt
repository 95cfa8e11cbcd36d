use Rattle.std.proofs.Common.{◌≡◌, take}
use Rattle.toll_sql.proofs.Common.{AllByRecursion, Bytes, Slice, front_slice, IsStoredAs, AreTaken, AreOwnedBy, IsRowOfOwner, AreStoredOfOwner}
use Rattle.toll_sql.proofs.reading.read_rows.Given as goal

-- The rows so far are in, and each is one of its kind.
abbrev pub invariant-loop-row : goal.invariant-loop-row
invariant-loop-row g l = record {
  reads : AreStoredOfOwner g.X.StoredRow.kind → (s : Slice) → IsStoredAs g.X.StoredRow.kind.table s l.rows → l.fn.slice ≡ front_slice g.X.StoredRow.kind.table 0 s → l.slice ≡ front_slice g.X.StoredRow.kind.table l.row-index s;
  shown : (o : Bytes) → AreOwnedBy o l.rows → AllByRecursion (IsRowOfOwner g.X.StoredRow.kind o) (take l.row-index l.rows);
  taken : AreStoredOfOwner g.X.StoredRow.kind → (o : Bytes) → AreOwnedBy o l.rows → AreTaken g.X.StoredRow.kind.table o (take l.row-index l.rows) l.fn.slice l.slice;
  named : l.slice.owner ≡ l.fn.slice.owner;
}
