-- Making tables, within a transaction.
use Rattle.std.specs.Prelude.{◌≡◌, None, [], ◌∷◌, IsTrue, Result, IfErr, OnOk, false, true}
use Rattle.toll_sql.specs.Common.{AllByRecursion, Database, Schema, State, HasCleanDisk, Survives, Trees, Error, KeepsRows, IsShaped, empty_content}
use Rattle.sqlite_trees.specs.declared.store.Shape.TheVariants as shape
use Rattle.toll_sql.specs.Causes.{IsErrorCaused}
use Rattle.toll_sql.specs.Encode.{meta_cells}
use Rattle.toll_sql.specs.Holds.{Holds, version}
use Rattle.toll_sql.specs.Stores.{IsOurs, PutsRow, StaysOnErr}
use Rattle.toll_sql.specs.Others.{IsJustOurs}
use Rattle.toll_sql.specs.Schema.{made_all, made_before, with_tables, tree_of}
use Rattle.toll_sql.specs.declared.table_kind.TableKind.{TableKind}
use Rattle.toll_sql.specs.declared.table_kind.TableKind.TheVariants.{Meta}

-- No table of the schema has a row.
abbrev pub AreEmpty : Schema → Trees → Type 0
AreEmpty schema trees = AllByRecursion (λ t. trees t.tree ≡ []) schema.tables

-- These are the tables, within a transaction and without a limit of steps.
pub record IsMaking (made : Schema) (s : State) : Type 0 where
  pub schema : s.now.schema ≡ made
  pub unlimited : s.step_limit ≡ None
  pub inside : IsTrue s.in_transaction

-- The table was made and is empty, and those before it keep their rows.
pub record MakesTable (k : TableKind) (old new : State) : Type 0 where
  pub making : IsMaking (with_tables (made_before k) (k ∷ [])) new
  pub empty : new.now.trees (tree_of k) ≡ []
  pub others : KeepsRows (made_before k).tables old.now.trees new.now.trees

-- The version was written.
pub record WritesVersion (old new : State) : Type 0 where
  pub put : PutsRow Meta (meta_cells version) old.now.trees new.now.trees
  pub ours : IsOurs new.now
  pub alone : IsJustOurs new.now.schema

-- All tables are there, and their rows have rowids.
pub record IsShapedAs (made : Schema) (s : State) : Type 0 where
  pub making : IsMaking made s
  pub shaped : AllByRecursion (λ t. IsShaped shape.Table (s.now.trees t.tree)) made.tables

-- All tables were made, and none has a row.
pub record MakesAllTables (old new : State) : Type 0 where
  pub making : IsMaking made_all new
  pub empty : AreEmpty made_all new.now.trees

-- These are all tables, and they hold the empty content.
pub record IsNewDatabase (db : Database) : Type 0 where
  pub ours : IsOurs db
  pub alone : IsJustOurs db.schema
  pub rows : Holds db.trees empty_content

-- the state after a transaction began
abbrev pub begin : State → State
begin s = record s { in_transaction = true }

-- If Before holds, the rows are those of a database of which Made holds.
abbrev pub LeavesMade : Type 0 → (Database → Type 0) → Trees → Type 0
LeavesMade Before Made db = Before → (after : Database) × Made after × (db ≡ after.trees)

-- A call that makes all of it in one transaction, or nothing.
pub record IsWholeOrNothing (Before : State → Type 0) (Made : Database → Type 0) {X : Type 0} (old new : State) (result : Result X Error) : Type 0 where
  pub ended : new.in_transaction ≡ false
  pub all : HasCleanDisk new → Before (begin old) → OnOk result (Made new.now)
  pub shown : HasCleanDisk new → OnOk result (IsTrue new.is_open × (new.now ≡ new.committed))
  pub none : StaysOnErr old new result
  pub fault : HasCleanDisk new → IfErr result (IsErrorCaused old new)
  pub live : HasCleanDisk new → IsTrue new.is_open → IsTrue old.is_open
  pub survives : Survives old new (LeavesMade (Before (begin old)) Made)
