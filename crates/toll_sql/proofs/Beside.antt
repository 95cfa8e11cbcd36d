-- What follows the office's tables in a schema, by itself.
use Rattle.std.proofs.Common.{◌≡◌, List, ◌++◌, ap₂}
use Rattle.toll_sql.proofs.Common.{Schema, Table, Index, HasOurs, made_all}
use Rattle.sqlite_schema.specs.declared.schema.View.{View}

pub record Others : Type 0 where
  pub tables : List Table
  pub indexes : List Index
  pub views : List View

-- the office's tables and the indexes of their keys, and these after them; what a text means over it can be computed
abbrev pub ours_and : Others → Schema
ours_and others = record { tables = made_all.tables ++ others.tables; indexes = made_all.indexes ++ others.indexes; views = others.views }

abbrev pub others_of : {schema : Schema} → HasOurs schema → Others
others_of {schema} has = record { tables = has.tables.0; indexes = has.indexes.0; views = schema.views }

pub is_ours : {schema : Schema} (has : HasOurs schema) → schema ≡ ours_and (others_of has)
is_ours {schema} has = ap₂ (λ tables indexes. let it : Schema = record { tables = tables; indexes = indexes; views = schema.views } in it) has.tables.1 has.indexes.1
