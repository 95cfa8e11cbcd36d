-- An owner's rows, read table by table.
use Rattle.std.specs.Prelude.{◌≡◌, ◌≢◌, ◌↔◌, ◌⊎◌, Option, None, List, [], ◌∷◌, Result, Err, OnOk, IfOk, IfSome}
use Rattle.toll_sql.specs.Common.{Row, State, Trees, Bytes, Slice, with_row, KeepFault, Damaged, Memory}
use Rattle.toll_base.specs.SliceRules.{KeepsRules}
use Rattle.toll_base.specs.declared.rows.Row.{Row as OfficeRow}
use Rattle.toll_sql.specs.Asking.{ForIdle, ForSlice, IsLooking}
use Rattle.toll_sql.specs.Cells.{columns_from}
use Rattle.toll_sql.specs.Fronts.{IsStoredAs, front_slice}
use Rattle.toll_sql.specs.Kinds.{RowKind, cells_for, table_for, IsRow}
use Rattle.toll_sql.specs.PlantRows.{ForOwners}
use Rattle.toll_sql.specs.Rows.{AreOfOwner}
use Rattle.toll_sql.specs.Shown.{AreOwnedBy, IsUnknownOwner, ShowsOwnRows}
use Rattle.toll_sql.specs.StoredLaws.{AreStoredOfOwner}
use Rattle.toll_sql.specs.Schema.{width_of}
use Rattle.toll_sql.specs.declared.table_kind.TableKind.{TableKind}
use Rattle.toll_sql.specs.declared.table_kind.TableKind.TheVariants.{Meta, Materials, Tests, Recipes, Requirements, Orders, Batches, Lots, Sublots, Moves, Results, Voids}

-- What is reported of one owner, whatever the tables have of others.
pub record ReportsOwnerAlone (o : Bytes) (old new : State) (result : Result (Option Slice) KeepFault) : Type 0 where
  -- A slice that is returned has exactly the owner's rows.
  pub given : ForSlice o old new (λ s. IfOk result (λ reported. IfSome reported (λ slice. slice ≡ s)))
  -- None is returned if and only if the table of owners doesn't name the owner.
  pub known : ForOwners old new (λ owners. IfOk result (λ reported. (reported ≡ None) ↔ IsUnknownOwner owners o))
  -- If that table is valid and the owner's rows keep the rules, no damage is reported.
  pub whole : ForOwners old new (λ _. ForSlice o old new (λ s. KeepsRules s → result ≢ Err Damaged))

-- The cells are those of a row of the office that the owner has in this table, and the slice keeps its rules with it.
pub record FitsSlice (k : TableKind) (o : Bytes) (found : Row) (before : Slice) : Type 0 where
  pub row : OfficeRow
  pub its_table : table_for row ≡ k
  pub valid : IsRow row
  pub cells : columns_from 0 (width_of k) found ≡ cells_for o row
  pub keeps : KeepsRules (with_row before row)

-- These stored rows fit one after another, and with all of them the slice becomes the second.
abbrev pub AreTaken : TableKind → Bytes → List Row → Slice → Slice → Type 0
AreTaken k o [] before after = after ≡ before
AreTaken k o (found ∷ more) before after = (fits : FitsSlice k o found before) × AreTaken k o more (with_row before fits.row) after

-- A first part of these rows fits, and with them the slice becomes the second. There was no memory for the next row, which fits too.
abbrev pub LacksRoom : TableKind → Bytes → List Row → Slice → Slice → Type 0
LacksRoom k o [] before after = ⊥
LacksRoom k o (found ∷ more) before after = (fits : FitsSlice k o found before) × ((after ≡ before) ⊎ LacksRoom k o more (with_row before fits.row) after)

-- Each row that was read fits, and Memory is reported only for a row that fits.
pub record TakesRows {X : Type 0} (k : TableKind) (o : Bytes) (rows : List Row) (before after : Slice) (result : Result X KeepFault) : Type 0 where
  pub taken : OnOk result (AreTaken k o rows before after)
  pub lacks : result ≡ Err Memory → LacksRoom k o rows before after

-- All rows that the owner has in these tables fit, one table after another.
abbrev pub AreAllTaken : List TableKind → Bytes → Trees → Slice → Slice → Type 0
AreAllTaken [] o db before after = after ≡ before
AreAllTaken (k ∷ kinds) o db before after = (rows : List Row) × AreOfOwner k o db rows × ((between : Slice) × AreTaken k o rows before between × AreAllTaken kinds o db between after)

-- There was no memory to query one of these tables, or for one of its rows. That row fits, and so do all before it.
abbrev pub LacksRoomIn : List TableKind → Bytes → Trees → Slice → Slice → Type 0
LacksRoomIn [] o db before after = ⊥
LacksRoomIn (k ∷ kinds) o db before after =
    (after ≡ before) ⊎ ((rows : List Row) × AreOfOwner k o db rows × (LacksRoom k o rows before after ⊎ ((between : Slice) × AreTaken k o rows before between × LacksRoomIn kinds o db between after)))

-- More of the owner's slice is read, from where it was, out of these tables. If the slice keeps the rules, no damage is reported.
pub record ReadsOn (from to : Slice → Slice) (kinds : List TableKind) (o : Bytes) {X : Type 0} (old new : State) (before after : Slice) (result : Result X KeepFault) : Type 0 where
  pub looks : IsLooking old new result
  pub shows : ShowsOwnRows kinds o old new result
  pub reads : ForSlice o old new (λ s. before ≡ from s → OnOk result (after ≡ to s))
  pub whole : ForSlice o old new (λ s. KeepsRules s → before ≡ from s → result ≢ Err Damaged)
  -- Whatever the tables have, each row that was read fits, and Memory is reported only for a row that fits.
  pub taken : ForIdle old new (λ db. OnOk result (AreAllTaken kinds o db.trees before after))
  pub lacks : ForIdle old new (λ db. result ≡ Err Memory → LacksRoomIn kinds o db.trees before after)

-- the table that is read after this one; after the last it is `Meta`, which has no row of a slice
abbrev pub next_of : TableKind → TableKind
next_of Materials = Tests
next_of Tests = Recipes
next_of Recipes = Requirements
next_of Requirements = Orders
next_of Orders = Batches
next_of Batches = Lots
next_of Lots = Sublots
next_of Sublots = Moves
next_of Moves = Results
next_of Results = Voids
next_of _ = Meta

-- The table's rows are read, after those of the tables before it.
abbrev pub ReadsNext : {X : Type 0} → TableKind → Bytes → State → State → Slice → Slice → Result X KeepFault → Type 0
ReadsNext {X} k o old new before after result = ReadsOn (front_slice k 0) (front_slice (next_of k) 0) (k ∷ []) o {X = X} old new before after result

-- P holds of the slice that has these rows of one kind, if the tables before theirs were read.
abbrev pub ForStored : {X : Type 0} → RowKind X → List Row → Slice → (Slice → Type 0) → Type 0
ForStored kind rows before P = AreStoredOfOwner kind → (s : Slice) → IsStoredAs kind.table s rows → before ≡ front_slice kind.table 0 s → P s

-- P holds of the owner of these rows.
abbrev pub ForOwned : {X : Type 0} → RowKind X → List Row → (Bytes → Type 0) → Type 0
ForOwned kind rows P = AreStoredOfOwner kind → (o : Bytes) → AreOwnedBy o rows → P o

-- P holds of the row of this kind that has these cells.
abbrev pub ForRow : {X : Type 0} → RowKind X → Row → (OfficeRow → Type 0) → Type 0
ForRow {X} kind found P = AreStoredOfOwner kind → (o : Bytes) (x : X) → kind.is_valid x → found ≡ kind.cells o x → P (kind.any_row x)
