-- Rows that a query returns.
use Rattle.std.specs.Prelude.{List, map, IsPermutation, IsSorted}
use Rattle.toll_sql.specs.Common.{Row, Trees, Bytes}
use Rattle.toll_sql.specs.Bag.{owned_by}
use Rattle.toll_sql.specs.Cells.{columns_from, key_order}
use Rattle.toll_sql.specs.Schema.{tree_of, width_of}
use Rattle.toll_sql.specs.declared.table_kind.TableKind.{TableKind}

-- The rows are the cells of these stored rows, in the order of the table's key.
pub record AreSorted (k : TableKind) (stored rows : List Row) : Type 0 where
  pub same : IsPermutation (map (columns_from 1 (width_of k)) stored) rows
  pub sorted : IsSorted (key_order k) rows

-- The rows are the owner's rows of the table.
abbrev pub AreOfOwner : TableKind → Bytes → Trees → List Row → Type 0
AreOfOwner k o db = AreSorted k (owned_by o (db (tree_of k)))

-- The rows are all rows of the table.
abbrev pub AreAll : TableKind → Trees → List Row → Type 0
AreAll k db = AreSorted k (db (tree_of k))
