-- How the rows of one kind belong to their table.
use Rattle.std.specs.Prelude.{◌≡◌, ℕ, ◌+◌, ◌<◌, true, false, length, map}
use Rattle.std.proofs.Common.{get_or}
use Rattle.toll_sql.specs.Common.{AllByRecursion, Trees, Bytes, Slice, with_row}
use Rattle.toll_sql.specs.Bag.{Rises}
use Rattle.toll_sql.specs.Cells.{fill, key_order}
use Rattle.toll_sql.specs.Fronts.{front_slice}
use Rattle.toll_sql.specs.Kinds.{PlantKind, RowKind, table_for, cells_for, rows_for, AreValidIn, IsRow}
use Rattle.toll_sql.specs.Shown.{AreRowsIn, AreRowsOf}
use Rattle.toll_sql.specs.Schema.{is_owned}

pub record AreStoredOfOwner {X : Type 0} (kind : RowKind X) : Type 0 where
  -- The table is divided by owner.
  pub owned : is_owned kind.table ≡ true
  -- The row belongs in the table, and has these cells.
  pub its_table : (x : X) → table_for (kind.any_row x) ≡ kind.table
  pub its_cells : (o : Bytes) (x : X) → cells_for o (kind.any_row x) ≡ kind.cells o x
  -- Its values are valid.
  pub its_values : (x : X) → kind.is_valid x → IsRow (kind.any_row x)
  -- The table has the cells of these rows of a slice.
  pub its_rows : (s : Slice) → rows_for kind.table s ≡ map (kind.cells s.owner) (kind.listed s)
  -- Their values are valid if those of the table are.
  pub are_valid : (s : Slice) → AreValidIn kind.table s → AllByRecursion kind.is_valid (kind.listed s)
  -- Rows with the same cells are equal.
  pub reported : (o : Bytes) (x y : X) → kind.is_valid x → kind.is_valid y → kind.cells o x ≡ kind.cells o y → x ≡ y
  -- Stored rows of this kind are rows of the table.
  pub shown : (o : Bytes) (db : Trees) → AreRowsOf kind o db → AreRowsIn o db kind.table
  -- The next row is added at the end.
  pub next : (s : Slice) (i : ℕ) (d : X) → Rises (key_order kind.table) (rows_for kind.table s) → i < length (kind.listed s) → with_row (front_slice kind.table i s) (kind.any_row (get_or (kind.listed s) i d)) ≡ front_slice kind.table (i + 1) s

-- The same for the plant's rows, which aren't divided by owner.
pub record AreStoredOfPlant {X : Type 0} (kind : PlantKind X) : Type 0 where
  pub unowned : is_owned kind.table ≡ false
  pub fills : (x : X) → fill kind.table (kind.cells x) ≡ true
  pub reported : (x y : X) → kind.is_valid x → kind.is_valid y → kind.cells x ≡ kind.cells y → x ≡ y
