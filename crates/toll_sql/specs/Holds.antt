-- Tables that hold the rows of a content.
use Rattle.std.specs.Prelude.{◌≡◌, ℕ, Bool, true, IsTrue, List, [], ◌∷◌, map, Contains}
use Rattle.toll_sql.specs.Common.{AllByRecursion, Row, column, Trees, Text, Bytes, Slice, is_name, OwnerRow, UnitRow, Content}
use Rattle.toll_sql.specs.Bag.{Rises, SameBag, all_cells, owned_by}
use Rattle.toll_sql.specs.Cells.{key_order}
use Rattle.toll_sql.specs.Encode.{meta_cells}
use Rattle.toll_sql.specs.Kinds.{PlantKind, owner_kind, unit_kind, rows_for, AreValidIn}
use Rattle.toll_sql.specs.Schema.{tree_of, is_owned}
use Rattle.toll_sql.specs.declared.table_kind.TableKind.{TableKind}
use Rattle.toll_sql.specs.declared.table_kind.TableKind.TheVariants.{Meta}

-- the version of these tables
abbrev pub version : ℕ
version = 2

-- The table has exactly these rows, in any order. In this order they rise by the table's key.
pub record HasRows (k : TableKind) (rows stored : List Row) : Type 0 where
  pub same : SameBag rows (all_cells stored)
  pub rising : Rises (key_order k) rows

-- The table, which isn't divided by owner, has exactly these rows, and all their values are valid.
pub record HoldsAll {X : Type 0} (kind : PlantKind X) (db : Trees) (l : List X) : Type 0 where
  pub stored : HasRows kind.table (map kind.cells l) (db (tree_of kind.table))
  pub valid : AllByRecursion kind.is_valid l

abbrev pub HoldsOwners : Trees → List OwnerRow → Type 0
HoldsOwners = HoldsAll owner_kind

abbrev pub HoldsUnits : Trees → List UnitRow → Type 0
HoldsUnits = HoldsAll unit_kind

-- Of this owner, these tables have exactly the rows of this slice, and all their values are valid.
pub record HoldsPart (is_such : TableKind → Bool) (db : Trees) (o : Bytes) (s : Slice) : Type 0 where
  pub named : s.owner ≡ o
  pub stored : (k : TableKind) → is_such k ≡ true → HasRows k (rows_for k s) (owned_by o (db (tree_of k)))
  pub valid : (k : TableKind) → is_such k ≡ true → AreValidIn k s

-- The same for all tables that are divided by owner.
abbrev pub HoldsSlice : Trees → Bytes → Slice → Type 0
HoldsSlice = HoldsPart is_owned

-- The first cell is a valid name.
abbrev pub NamesOwner : Row → Type 0
NamesOwner cells = (o : Bytes) × IsTrue (is_name o) × (column cells 0 ≡ Text o)

-- These tables have exactly the rows of each owner's slice.
pub record HoldsEach (is_such : TableKind → Bool) (db : Trees) (rows : Bytes → Slice) : Type 0 where
  pub slices : (o : Bytes) → HoldsPart is_such db o (rows o)
  pub owned : (k : TableKind) → is_such k ≡ true → AllByRecursion NamesOwner (all_cells (db (tree_of k)))

-- The tables have exactly the rows of the content.
pub record Holds (db : Trees) (c : Content) : Type 0 where
  pub meta : HasRows Meta (meta_cells version ∷ []) (db (tree_of Meta))
  pub owners : HoldsOwners db c.owners
  pub units : HoldsUnits db c.units
  pub each : HoldsEach is_owned db c.rows

-- Each row of the tables that are divided by owner names one.
abbrev pub NameOwners : Trees → Type 0
NameOwners db = (k : TableKind) → is_owned k ≡ true → AllByRecursion NamesOwner (all_cells (db (tree_of k)))

-- The tables have exactly the owners and the units of the content, and exactly the rows of these of its owners. Of others they may have any
-- rows, sound or damaged.
pub record HoldsFor (os : List Bytes) (db : Trees) (c : Content) : Type 0 where
  pub meta : HasRows Meta (meta_cells version ∷ []) (db (tree_of Meta))
  pub owners : HoldsOwners db c.owners
  pub units : HoldsUnits db c.units
  pub slices : (o : Bytes) → Contains os o → HoldsSlice db o (c.rows o)
