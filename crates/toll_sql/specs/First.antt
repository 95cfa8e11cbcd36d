-- The tables of version 1: no voids.
use Rattle.std.specs.Prelude.{◌≡◌, ◌⊎◌, ℕ, nat_eq, pos, List, [], ◌∷◌, Option, Some, IfSome, codes, if◌then◌else◌}
use Rattle.toll_sql.specs.Common.{AllByRecursion, Database, Row, column, Schema, State, Trees, Int, Text, IsShaped, Content}
use Rattle.sqlite_trees.specs.declared.store.Shape.TheVariants as shape
use Rattle.toll_sql.specs.Bag.{all_cells}
use Rattle.toll_sql.specs.Encode.{meta_cells}
use Rattle.toll_sql.specs.Holds.{HasRows, Holds, version}
use Rattle.toll_sql.specs.Others.{IsJustOurs}
use Rattle.toll_sql.specs.Stores.{IsOurs}
use Rattle.toll_sql.specs.Schema.{made_before, tree_of}
use Rattle.toll_sql.specs.declared.table_kind.TableKind.TheVariants.{Meta, Voids}

abbrev pub first_version : ℕ
first_version = 1

abbrev pub first_ours : Schema
first_ours = made_before Voids

-- The store has this version.
abbrev pub HasVersion : ℕ → Trees → Type 0
HasVersion n db = HasRows Meta (meta_cells n ∷ []) (db (tree_of Meta))

-- the tables as version 2 has them: the version is 2, and no movement is voided
abbrev pub as_second : Trees → Trees
as_second db tree = if nat_eq tree (tree_of Meta) then (Int (pos 1) ∷ meta_cells version) ∷ [] else if nat_eq tree (tree_of Voids) then [] else db tree

-- The tables of version 1 have exactly the rows of the content.
pub record HoldsFirst (db : Trees) (c : Content) : Type 0 where
  pub meta : HasVersion first_version db
  pub others : Holds (as_second db) c

-- The tables are those of version 1, and each has its rows by rowids.
pub record IsFirst (db : Database) : Type 0 where
  pub schema : db.schema ≡ first_ours
  pub shaped : AllByRecursion (λ t. IsShaped shape.Table (db.trees t.tree)) first_ours.tables

-- The tables are those of version 1, nothing is pending, and they have these rows.
pub record HoldsFirstIn (s : State) (c : Content) : Type 0 where
  pub first : IsFirst s.now
  pub idle : s.now ≡ s.committed
  pub rows : HoldsFirst s.now.trees c

-- One of the rows has this version.
abbrev pub HasVersionRow : ℕ → List Row → Type 0
HasVersionRow n [] = ⊥
HasVersionRow n (row ∷ rows) = ((column row 0 ≡ Text (codes "toll")) × (column row 1 ≡ Int (pos n))) ⊎ HasVersionRow n rows

-- Each row of the office has this version.
abbrev pub EachHasVersion : ℕ → List Row → Type 0
EachHasVersion n rows = AllByRecursion (λ row. column row 0 ≡ Text (codes "toll") → column row 1 ≡ Int (pos n)) rows

-- This is the version in the rows, if there is one.
pub record IsVersionIn (rows : List Row) (reported : Option ℕ) : Type 0 where
  pub some : IfSome reported (λ n. HasVersionRow n rows)
  pub every : (n : ℕ) → HasVersionRow n rows → EachHasVersion n rows → reported ≡ Some n

-- The rows have no version, or one that is neither this one nor version 1.
abbrev pub HaveNeitherVersion : List Row → Type 0
HaveNeitherVersion rows = (n : ℕ) → HasVersionRow n rows → EachHasVersion n rows → ¬ ((n ≡ first_version) ⊎ (n ≡ version))

-- the cells of the rows of `meta`
abbrev pub meta_rows : Trees → List Row
meta_rows db = all_cells (db (tree_of Meta))

-- These are the tables of version 1, and no others.
abbrev pub AreFirst : Schema → Type 0
AreFirst schema = schema ≡ first_ours

-- Tables of version 1 were raised to this version.
pub record Raised (db after : Database) : Type 0 where
  pub ours : IsOurs after
  pub alone : IsJustOurs after.schema
  pub reported : HasVersionRow version (meta_rows after.trees)
  pub rows : (c : Content) → HoldsFirst db.trees c → Holds after.trees c

-- The tables that a store had were raised to those that it has now.
abbrev pub MakesRaised : State → State → Type 0
MakesRaised old new = Raised old.now new.now
