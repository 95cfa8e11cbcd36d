-- Schemas of plain tables. Two of them differ only in names, kinds, keys and the numbers of trees.
use Rattle.std.specs.Prelude.{◌≡◌, List, [], true}
use Rattle.toll_sql.specs.Common.{AllByRecursion, Binary, Schema, Table, Null, Column, Index, plain}
use Rattle.toll_sql.specs.Plain.{table_with}

-- The column is never NULL, has values of its kind alone, and is compared byte by byte.
abbrev pub IsPlainColumn : Column → Type 0
IsPlainColumn c = c ≡ record { name = c.name; kind = c.kind; is_strict = true; not_null = true; default = Null; collation = Binary }

-- The table has columns, a key, and nothing else.
abbrev pub IsPlainTable : Table → Type 0
IsPlainTable t = (t ≡ table_with t.tree t.name t.columns t.primary) × AllByRecursion IsPlainColumn t.columns

-- The index has the plain order of its columns.
abbrev pub IsPlainIndex : Index → Type 0
IsPlainIndex i = i.order ≡ plain

-- the schema with these tables and indexes, and without views
abbrev pub schema_of : List Table → List Index → Schema
schema_of tables indexes = record { tables = tables; indexes = indexes; views = [] }
