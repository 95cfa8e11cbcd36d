-- The store of a keep: what its tables must be, and how they change.
use Rattle.std.specs.Prelude.{◌≡◌, pos, true, None, Bool, List, [], ◌∷◌, IsTrue, Result, IfErr, OnOk, OnErr}
use Rattle.toll_sql.specs.Common.{AllByRecursion, Database, Row, State, HasCleanDisk, KeepsCommit, Survives, Trees, Error, Int, agree, IsShaped, plain, Bytes, Slice, is_name, Content}
use Rattle.sqlite_trees.specs.declared.store.Shape.TheVariants as shape
use Rattle.toll_base.specs.declared.decision.Change.{Change}
use Rattle.toll_base.specs.declared.decision.Change.TheVariants.{Owner, Unit as UnitAdded, Put}
use Rattle.toll_keep.specs.CallEffects.{IsAmong}
use Rattle.toll_sql.specs.Causes.{IsErrorCaused}
use Rattle.toll_sql.specs.Cells.{fill}
use Rattle.toll_sql.specs.Encode.{owner_cells, unit_cells}
use Rattle.toll_sql.specs.Holds.{Holds, HoldsPart}
use Rattle.toll_sql.specs.Others.{HasOurs}
use Rattle.toll_sql.specs.Put.{Puts}
use Rattle.toll_sql.specs.Schema.{made_all, tree_of, key_columns}
use Rattle.toll_sql.specs.Valid.{IsOwner, IsUnit}
use Rattle.toll_sql.specs.Kinds.{table_for, cells_for, IsRow}
use Rattle.toll_sql.specs.declared.table_kind.TableKind.{TableKind}
use Rattle.toll_sql.specs.declared.table_kind.TableKind.TheVariants.{Owners, Units}

-- The tables are ours, and each has its rows by rowids.
pub record IsOurs (db : Database) : Type 0 where
  pub schema : HasOurs db.schema
  pub shaped : AllByRecursion (λ t. IsShaped shape.Table (db.trees t.tree)) made_all.tables

-- Rows can be put: within a transaction, without a limit of steps.
pub record IsReady (s : State) : Type 0 where
  pub ours : IsOurs s.now
  pub unlimited : s.step_limit ≡ None
  pub inside : IsTrue s.in_transaction

-- ---- one row

-- whether the stored row has the key of these cells
abbrev pub has_row_key : TableKind → Row → Row → Bool
has_row_key k cells row = agree plain (key_columns k) row (key_columns k) (Int (pos 0) ∷ cells)

-- The row is put into its table.
abbrev pub PutsRow : TableKind → Row → Trees → Trees → Type 0
PutsRow k cells = Puts made_all (tree_of k) (has_row_key k cells) cells

-- These puts were made, nothing is committed, and more can be put.
pub record MakesPuts (Puts : Trees → Trees → Type 0) (old new : State) : Type 0 where
  pub put : Puts old.now.trees new.now.trees
  pub ready : IsReady new
  pub schema : new.now.schema ≡ old.now.schema
  pub committed : new.committed ≡ old.committed

-- ---- changes

-- the table of a change, and the cells that it puts
abbrev pub table_of_change : Change → TableKind
table_of_change (Owner row) = Owners
table_of_change (UnitAdded row) = Units
table_of_change (Put o row) = table_for row

abbrev pub cells_of_change : Change → Row
cells_of_change (Owner row) = owner_cells row
cells_of_change (UnitAdded row) = unit_cells row
cells_of_change (Put o row) = cells_for o row

-- The owner and the values of the change are valid.
abbrev pub IsValidChange : Change → Type 0
IsValidChange (Owner row) = IsOwner row
IsValidChange (UnitAdded row) = IsUnit row
IsValidChange (Put o row) = IsTrue (is_name o) × IsRow row

-- One change is put; and several, in order.
pub record PutsChange (change : Change) (old new : Trees) : Type 0 where
  pub valid : IsValidChange change
  pub put : PutsRow (table_of_change change) (cells_of_change change) old new

abbrev pub PutsAll : List Change → Trees → Trees → Type 0
PutsAll [] old new = new ≡ old
PutsAll (change ∷ more) old new = (mid : Trees) × PutsChange change old mid × PutsAll more mid new

-- The changes are put into tables that are ours, and the schema stays.
pub record IsApplied (changes : List Change) (db after : Database) : Type 0 where
  pub put : PutsAll changes db.trees after.trees
  pub ours : IsOurs after
  pub schema : after.schema ≡ db.schema

-- The changes were put and committed, and the schema stays.
abbrev pub HasApplied : List Change → State → State → Type 0
HasApplied changes old new = IsApplied changes old.now new.now × IsTrue new.is_open × (new.now ≡ new.committed)

-- A call that writes within a transaction. If Before holds of the state that it starts from, Makes holds after it.
pub record IsTransactionStep (Before : State → Type 0) (Makes : State → State → Type 0) {X : Type 0} (old new : State) (result : Result X Error) : Type 0 where
  pub makes : HasCleanDisk new → Before old → IsTrue old.in_transaction → OnOk result (Makes old new)
  pub inside : HasCleanDisk new → IsTrue old.in_transaction → OnOk result (IsTrue new.in_transaction)
  pub fault : HasCleanDisk new → IsTrue old.in_transaction → IfErr result (IsErrorCaused old new)
  pub kept : HasCleanDisk new → KeepsCommit old new
  pub survives : Survives old new (λ _. ⊥)

-- Cells that fill the columns of the table are put into it.
abbrev pub WritesRow : {X : Type 0} → TableKind → Row → State → State → Result X Error → Type 0
WritesRow k cells old new result = fill k cells ≡ true → IsTransactionStep IsReady (MakesPuts (PutsRow k cells)) old new result

-- If the tables are ours, there is no limit of steps and the call succeeds, they have taken the changes.
abbrev pub Applies : {X E : Type 0} → List Change → State → State → Result X E → Type 0
Applies changes old new result = HasCleanDisk new → IsOurs old.now → old.step_limit ≡ None → OnOk result (HasApplied changes old new)

-- If there is no limit of steps, a stop leaves tables that were ours, with the changes put.
abbrev pub LeavesPut : List Change → State → Trees → Type 0
LeavesPut changes old db = IsOurs old.now → old.step_limit ≡ None → PutsAll changes old.now.trees db

-- If the call fails, an open store has what it had before.
abbrev pub StaysOnErr : {X E : Type 0} → State → State → Result X E → Type 0
StaysOnErr old new result = HasCleanDisk new → IsTrue new.is_open → OnErr result ((new.now ≡ old.now) × (new.committed ≡ old.committed))

-- ---- a store that holds a content

-- The store has not shut itself.
pub record LiesOpen (s : State) : Type 0 where
  pub is_open : IsTrue s.is_open

-- If the store is open, nothing is pending.
abbrev pub LiesIdle : State → Type 0
LiesIdle s = IsTrue s.is_open → s.now ≡ s.committed

-- The tables are ours, nothing is pending, and they have rows of this content.
pub record HoldsBy (Rows : Trees → Content → Type 0) (s : State) (c : Content) : Type 0 where
  pub ours : IsOurs s.now
  pub idle : s.now ≡ s.committed
  pub rows : Rows s.now.trees c

-- The same, if they have exactly its rows.
abbrev pub HoldsIn : State → Content → Type 0
HoldsIn = HoldsBy Holds

-- The tables are ours, nothing is pending, and these tables have these rows of this owner, whatever they have of others.
pub record HoldsPartIn (is_such : TableKind → Bool) (s : State) (o : Bytes) (slice : Slice) : Type 0 where
  pub ours : HasOurs s.now.schema
  pub idle : s.now ≡ s.committed
  pub rows : HoldsPart is_such s.now.trees o slice

-- If the store is open, its tables hold the content.
abbrev pub HoldsOpenBy : (Trees → Content → Type 0) → State → Content → Type 0
HoldsOpenBy Rows s c = LiesOpen s → HoldsBy Rows s c

abbrev pub HoldsWhileOpen : State → Content → Type 0
HoldsWhileOpen = HoldsOpenBy Holds

-- A stop leaves tables with one of these contents.
abbrev pub LeavesBy : (Trees → Content → Type 0) → State → List Content → Type 0
LeavesBy Rows s cs = (db : Trees) → s.may_leave db → IsAmong (Rows db) cs

abbrev pub LeavesIn : State → List Content → Type 0
LeavesIn = LeavesBy Holds
