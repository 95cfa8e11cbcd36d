-- Schemas with the office's tables first, whatever other tools have made after them.
use Rattle.std.specs.Prelude.{◌≡◌, false, List, [], ◌++◌}
use Rattle.toll_sql.specs.Common.{AllByRecursion, Schema, Table, guards, Index}
use Rattle.toll_sql.specs.Schema.{made_all}

-- These are the first of all, and P holds of each after them.
abbrev pub ExtendsBy : {X : Type 0} → (X → Type 0) → List X → List X → Type 0
ExtendsBy {X} P first all = (rest : List X) × (all ≡ first ++ rest) × AllByRecursion P rest

-- The table has no foreign key.
abbrev pub RefersToNone : Table → Type 0
RefersToNone table = table.references ≡ []

-- The index isn't a unique one of any of these tables.
abbrev pub GuardsNone : List Table → Index → Type 0
GuardsNone tables index = AllByRecursion (λ t. guards index t ≡ false) tables

-- The office's tables and the indexes of their keys come first, as they are made. Those after them trigger nothing and refuse nothing when
-- a row of the office is put.
pub record HasOurs (schema : Schema) : Type 0 where
  pub tables : ExtendsBy RefersToNone made_all.tables schema.tables
  pub indexes : ExtendsBy (GuardsNone made_all.tables) made_all.indexes schema.indexes

-- The schema has nothing else.
abbrev pub IsJustOurs : Schema → Type 0
IsJustOurs schema = schema ≡ made_all
