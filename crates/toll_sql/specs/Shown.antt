-- Stored rows that are rows of the office.
use Rattle.std.specs.Prelude.{◌≡◌, ◌≢◌, ◌||◌, ℕ, pos, false, Option, is_some, List, [], ◌∷◌, map, Result, OnOk, IfOk, IfSome}
use Rattle.toll_sql.specs.Common.{AllByRecursion, Database, Row, column, State, Trees, Int, Text, Bytes, bytes_cmp, same_bytes, house_name, Origin, OwnerRow, KeepFault}
use Rattle.toll_base.specs.Table.{row_at}
use Rattle.toll_sql.specs.Asked.{AreReadBy}
use Rattle.toll_sql.specs.Asking.{ForIdle}
use Rattle.toll_sql.specs.Bag.{owned_by}
use Rattle.toll_sql.specs.Cells.{columns_from}
use Rattle.toll_sql.specs.Encode.{origin_order, origin_number}
use Rattle.toll_sql.specs.Kinds.{PlantKind, RowKind, of_table, owner_kind}
use Rattle.toll_sql.specs.Schema.{select_text, tree_of, width_of}
use Rattle.toll_sql.specs.Valid.{IsOrigin}
use Rattle.toll_sql.specs.declared.table_kind.TableKind.{TableKind}
use Rattle.toll_sql.specs.declared.table_kind.TableKind.TheVariants.{Materials, Tests, Recipes, Requirements, Orders, Batches, Lots, Sublots, Moves, Results, Voids}

-- The cells are those of a row of this kind that the owner has, with valid values.
abbrev pub IsRowOfOwner : {X : Type 0} → RowKind X → Bytes → Row → Type 0
IsRowOfOwner {X} kind o row = (x : X) × kind.is_valid x × (columns_from 0 (width_of kind.table) row ≡ kind.cells o x)

-- There is a first item, and P holds of it.
abbrev pub FirstIs : {X : Type 0} → (X → Type 0) → List X → Type 0
FirstIs P [] = ⊥
FirstIs P (x ∷ xs) = P x

-- Each row of the owner that the table has is a valid row of this kind.
abbrev pub AreRowsOf : {X : Type 0} → RowKind X → Bytes → Trees → Type 0
AreRowsOf kind o db = AllByRecursion (IsRowOfOwner kind o) (map (columns_from 1 (width_of kind.table)) (owned_by o (db (tree_of kind.table))))

-- Each row of the owner in the table is a valid row of the table's kind.
abbrev pub AreRowsIn : Bytes → Trees → TableKind → Type 0
AreRowsIn o db k = of_table (λ X kind. AreRowsOf kind o db) (Unit {0}) k

-- the tables that are divided by owner
abbrev pub tables_of_owners : List TableKind
tables_of_owners = Materials ∷ Tests ∷ Recipes ∷ Requirements ∷ Orders ∷ Batches ∷ Lots ∷ Sublots ∷ Moves ∷ Results ∷ Voids ∷ []

-- If the tables are ours, nothing was pending and an answer was given, each stored row of the owner in these tables is a row of the office.
abbrev pub ShowsOwnRows : {X : Type 0} → List TableKind → Bytes → State → State → Result X KeepFault → Type 0
ShowsOwnRows kinds o old new result = ForIdle old new (λ db. OnOk result (AllByRecursion (AreRowsIn o db.trees) kinds))

-- The reported rows are exactly those that the table's text reads, by the definitions of crate sqlite, and their values are valid.
pub record AreReported {X : Type 0} (kind : PlantKind X) (db : Database) (reported : List X) : Type 0 where
  pub rows : List Row
  pub read : AreReadBy db (select_text kind.table) rows
  pub shown : map kind.cells reported ≡ map (columns_from 0 (width_of kind.table)) rows
  pub valid : AllByRecursion kind.is_valid reported

-- The owner is not HOUSE, and none of these rows names it.
abbrev pub IsUnknownOwner : List OwnerRow → Bytes → Type 0
IsUnknownOwner owners o = (same_bytes o house_name || is_some (row_at bytes_cmp (λ row. row.owner) owners o)) ≡ false

-- The rows are this owner's.
abbrev pub AreOwnedBy : Bytes → List Row → Type 0
AreOwnedBy o rows = AllByRecursion (λ row. column row 0 ≡ Text o) rows

-- If the tables are ours, nothing was pending and a slice was returned, each stored row of the owner is a row of the office.
abbrev pub ShowsSlice : {X E : Type 0} → Bytes → State → State → Result (Option X) E → Type 0
ShowsSlice o old new result = ForIdle old new (λ db. IfOk result (λ slice. IfSome slice (λ _. AllByRecursion (AreRowsIn o db.trees) tables_of_owners)))

-- The owner is not HOUSE, and none of the rows that the text of the table of owners reads names it, by the definitions of crate sqlite.
abbrev pub IsReportedUnknown : Database → Bytes → Type 0
IsReportedUnknown db o = (owners : List OwnerRow) × AreReported owner_kind db owners × IsUnknownOwner owners o

-- The cells of these two columns are those of no origin of a lot.
abbrev pub ShowsNoOrigin : (order number : ℕ) → Row → Type 0
ShowsNoOrigin order number row = (o : Origin) → IsOrigin o → column row order ≡ Text (origin_order o) → column row number ≢ Int (pos (origin_number o))
