-- Tables of texts and whole numbers, each with a key and nothing else.
use Rattle.std.specs.Prelude.{ℕ, true, false, None, List, [], ◌∷◌}
use Rattle.toll_sql.specs.Common.{Binary, Schema, Table, Null, Column, plain}
use Rattle.sqlite.specs.Kind.TheVariants.{Integer, Text}
use Rattle.sqlite_schema.specs.declared.schema.Stamps.{Stamps}

abbrev pub no_schema : Schema
no_schema = record { tables = []; indexes = []; views = [] }

abbrev pub no_stamps : Stamps
no_stamps = record { places = []; terms = []; formats = [] }

-- columns that are never NULL and compared byte by byte
abbrev pub text_column : List ℕ → Column
text_column name = record { name = name; kind = Text; is_strict = true; not_null = true; default = Null; collation = Binary }

abbrev pub int_column : List ℕ → Column
int_column name = record { name = name; kind = Integer; is_strict = true; not_null = true; default = Null; collation = Binary }

-- the table with these columns and this key, in this tree
abbrev pub table_with : ℕ → List ℕ → List Column → List ℕ → Table
table_with tree name columns primary = record {
  name = name;
  tree = tree;
  columns = columns;
  key = None;
  primary = primary;
  uniques = primary ∷ [];
  orders = plain ∷ [];
  checks = [];
  references = [];
  computed = [];
  stamps = no_stamps;
  is_counted = false;
}
