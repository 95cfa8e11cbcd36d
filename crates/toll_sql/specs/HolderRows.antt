-- Rows of a query that show the batch that holds a unit.
use Rattle.std.specs.Prelude.{◌≡◌, ◌≢◌, ◌&&◌, ℕ, pos, Option, Some, None, IsTrue, List, [], ◌∷◌, map, filter, Contains, Result, Err, IfOk, OnOk}
use Rattle.toll_sql.specs.Common.{AllByRecursion, is_eq, Database, Row, column, value_cmp, Trees, Int, Text, Bytes, is_name, BatchRow, Content, KeepFault, Damaged}
use Rattle.toll_keep.specs.Holding.{IsHolder}
use Rattle.toll_keep.specs.declared.holder.Holder.{Holder}
use Rattle.toll_sql.specs.Asked.{AreReadWith}
use Rattle.toll_sql.specs.AskedTexts.{unit_text}
use Rattle.toll_sql.specs.Cells.{columns_from}
use Rattle.toll_sql.specs.Encode.{batch_cells}
use Rattle.toll_sql.specs.Schema.{tree_of, width_of}
use Rattle.toll_sql.specs.Valid.{IsBatch}
use Rattle.toll_sql.specs.declared.table_kind.TableKind.TheVariants.{Batches}

-- the cells of a row of the table of batches
abbrev pub batch_columns : Row → Row
batch_columns row = columns_from 0 (width_of Batches) row

-- The row is that of this batch, with all columns of the table, and its values are valid.
pub record IsRowOfBatch (row : Row) (h : Holder) : Type 0 where
  pub batch : BatchRow
  pub owner : IsTrue (is_name h.owner)
  pub valid : IsBatch batch
  pub cells : batch_columns row ≡ batch_cells h.owner batch
  pub order : batch.order ≡ h.order
  pub number : batch.number ≡ h.number

-- Each row is that of a batch.
abbrev pub AreBatchRows : List Row → Type 0
AreBatchRows rows = AllByRecursion (λ row. (h : Holder) × IsRowOfBatch row h) rows

-- Each row is that of a batch that holds the unit. If there are no rows, no batch holds it.
pub record ShowHolders (c : Content) (unit : Bytes) (rows : List Row) : Type 0 where
  pub only : (row : Row) → Contains rows row → (h : Holder) × IsHolder c unit (Some h) × IsRowOfBatch row h × (row ≡ batch_columns row)
  pub none : rows ≡ [] → IsHolder c unit None

-- One of the rows is that of this batch; None means that there are no rows.
abbrev pub IsShownIn : List Row → Option Holder → Type 0
IsShownIn rows (Some h) = (row : Row) × Contains rows row × IsRowOfBatch row h
IsShownIn rows None = rows ≡ []

-- The row is that of no batch.
abbrev pub ShowsNoBatch : Row → Type 0
ShowsNoBatch row = (o : Bytes) (x : BatchRow) → IsTrue (is_name o) → IsBatch x → row ≢ batch_cells o x

-- One of the rows is that of no batch.
abbrev pub HasNoBatch : List Row → Type 0
HasNoBatch rows = (row : Row) × Contains rows row × ShowsNoBatch row

-- The holder is shown by one of the rows that the text reads, by the definitions of crate sqlite, and each of these is that of a batch;
-- None means that it reads none.
abbrev pub IsHolderOf : Database → List ℕ → Row → Option Holder → Type 0
IsHolderOf db text params holder = (rows : List Row) × AreReadWith db text params rows × IsShownIn rows holder × AreBatchRows rows

-- The text for the batches on this unit reads these rows.
abbrev pub AreBatchesOn : Database → Bytes → List Row → Type 0
AreBatchesOn db unit rows = AreReadWith db unit_text (Text unit ∷ []) rows

-- the cells of each batch on the unit that is not closed
abbrev pub open_on : Bytes → Trees → List Row
open_on unit db = map (columns_from 1 (width_of Batches)) (filter (λ row. is_eq (value_cmp (column row 4) (Text unit)) && is_eq (value_cmp (column row 6) (Int (pos 0)))) (db (tree_of Batches)))

-- The result for the unit depends on these rows alone, whatever other rows the tables have. It is the batch of one of them, or None if
-- there are none. It is Damaged only if one of them is that of no batch.
pub record ReportsHolder (unit : Bytes) (db : Trees) (result : Result (Option Holder) KeepFault) : Type 0 where
  pub reported : IfOk result (IsShownIn (open_on unit db))
  pub whole : OnOk result (AreBatchRows (open_on unit db))
  pub damaged : result ≡ Err Damaged → HasNoBatch (open_on unit db)
