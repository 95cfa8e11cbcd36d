-- The tables, and the texts of the statements on them. Written by tools/sql-texts.
use Rattle.std.specs.Prelude.{ℕ, Bool, true, false, List, [], ◌∷◌, codes}
use Rattle.sqlite.specs.Change.{created}
use Rattle.toll_sql.specs.Common.{Schema, Table}
use Rattle.toll_sql.specs.Plain.{no_schema, table_with, text_column, int_column}
use Rattle.toll_sql.specs.declared.table_kind.TableKind.{TableKind}
use Rattle.toll_sql.specs.declared.table_kind.TableKind.TheVariants.{Meta, Owners, Units, Materials, Tests, Recipes, Requirements, Orders, Batches, Lots, Sublots, Moves, Results, Voids}

-- the number of the table's tree of rows; the odd number after it is that of its key
abbrev pub tree_of : TableKind → ℕ
tree_of Meta = 0
tree_of Owners = 2
tree_of Units = 4
tree_of Materials = 6
tree_of Tests = 8
tree_of Recipes = 10
tree_of Requirements = 12
tree_of Orders = 14
tree_of Batches = 16
tree_of Lots = 18
tree_of Sublots = 20
tree_of Moves = 22
tree_of Results = 24
tree_of Voids = 26

-- the columns of the key; column 0 is the rowid
abbrev pub key_columns : TableKind → List ℕ
key_columns Meta = 1 ∷ []
key_columns Owners = 1 ∷ []
key_columns Units = 1 ∷ []
key_columns Materials = 1 ∷ 2 ∷ []
key_columns Tests = 1 ∷ 2 ∷ 3 ∷ []
key_columns Recipes = 1 ∷ 2 ∷ []
key_columns Requirements = 1 ∷ 2 ∷ 3 ∷ 4 ∷ 5 ∷ 6 ∷ []
key_columns Orders = 1 ∷ 2 ∷ []
key_columns Batches = 1 ∷ 2 ∷ 3 ∷ []
key_columns Lots = 1 ∷ 2 ∷ []
key_columns Sublots = 1 ∷ 2 ∷ 3 ∷ []
key_columns Moves = 1 ∷ 2 ∷ []
key_columns Results = 1 ∷ 2 ∷ 3 ∷ 4 ∷ []
key_columns Voids = 1 ∷ 2 ∷ []

-- how many columns there are after the rowid
abbrev pub width_of : TableKind → ℕ
width_of Meta = 2
width_of Owners = 2
width_of Units = 1
width_of Materials = 3
width_of Tests = 5
width_of Recipes = 3
width_of Requirements = 7
width_of Orders = 5
width_of Batches = 6
width_of Lots = 6
width_of Sublots = 4
width_of Moves = 13
width_of Results = 6
width_of Voids = 2

-- whether the table is divided by owner; its first column names the owner then
abbrev pub is_owned : TableKind → Bool
is_owned Meta = false
is_owned Owners = false
is_owned Units = false
is_owned _ = true

-- the table
abbrev pub table_of : TableKind → Table
table_of Meta = table_with 0 (codes "meta") (text_column (codes "name") ∷ int_column (codes "value") ∷ []) (1 ∷ [])
table_of Owners = table_with 2 (codes "owners") (text_column (codes "owner") ∷ text_column (codes "okey") ∷ []) (1 ∷ [])
table_of Units = table_with 4 (codes "units") (text_column (codes "unit") ∷ []) (1 ∷ [])
table_of Materials = table_with 6 (codes "materials") (text_column (codes "owner") ∷ text_column (codes "material") ∷ text_column (codes "measure") ∷ []) (1 ∷ 2 ∷ [])
table_of Tests = table_with 8 (codes "tests") (text_column (codes "owner") ∷ text_column (codes "material") ∷ text_column (codes "test") ∷ int_column (codes "low") ∷ int_column (codes "high") ∷ []) (1 ∷ 2 ∷ 3 ∷ [])
table_of Recipes = table_with 10 (codes "recipes") (text_column (codes "owner") ∷ text_column (codes "recipe") ∷ int_column (codes "segments") ∷ []) (1 ∷ 2 ∷ [])
table_of Requirements = table_with 12 (codes "requirements") (text_column (codes "owner") ∷ text_column (codes "recipe") ∷ int_column (codes "segment") ∷ int_column (codes "role") ∷ text_column (codes "source") ∷ text_column (codes "material") ∷ int_column (codes "amount") ∷ []) (1 ∷ 2 ∷ 3 ∷ 4 ∷ 5 ∷ 6 ∷ [])
table_of Orders = table_with 14 (codes "orders") (text_column (codes "owner") ∷ text_column (codes "ord") ∷ text_column (codes "recipe") ∷ int_column (codes "batches") ∷ int_column (codes "cancelled") ∷ []) (1 ∷ 2 ∷ [])
table_of Batches = table_with 16 (codes "batches") (text_column (codes "owner") ∷ text_column (codes "ord") ∷ int_column (codes "number") ∷ text_column (codes "unit") ∷ int_column (codes "state") ∷ int_column (codes "closed") ∷ []) (1 ∷ 2 ∷ 3 ∷ [])
table_of Lots = table_with 18 (codes "lots") (text_column (codes "owner") ∷ text_column (codes "lot") ∷ text_column (codes "material") ∷ text_column (codes "ord") ∷ int_column (codes "number") ∷ int_column (codes "disposition") ∷ []) (1 ∷ 2 ∷ [])
table_of Sublots = table_with 20 (codes "sublots") (text_column (codes "owner") ∷ text_column (codes "lot") ∷ text_column (codes "sublot") ∷ int_column (codes "amount") ∷ []) (1 ∷ 2 ∷ 3 ∷ [])
table_of Moves = table_with 22 (codes "moves") (text_column (codes "owner") ∷ text_column (codes "mkey") ∷ int_column (codes "kind") ∷ text_column (codes "lot_owner") ∷ text_column (codes "lot") ∷ text_column (codes "sublot") ∷ text_column (codes "target") ∷ text_column (codes "material") ∷ text_column (codes "ord") ∷ int_column (codes "number") ∷ int_column (codes "segment") ∷ int_column (codes "amount") ∷ int_column (codes "day") ∷ []) (1 ∷ 2 ∷ [])
table_of Results = table_with 24 (codes "results") (text_column (codes "owner") ∷ text_column (codes "lot") ∷ text_column (codes "test") ∷ int_column (codes "number") ∷ int_column (codes "value") ∷ int_column (codes "day") ∷ []) (1 ∷ 2 ∷ 3 ∷ 4 ∷ [])
table_of Voids = table_with 26 (codes "voids") (text_column (codes "owner") ∷ text_column (codes "mkey") ∷ []) (1 ∷ 2 ∷ [])

-- the tables that are made before this one, and all of them
abbrev pub earlier : TableKind → List TableKind
earlier Meta = []
earlier Owners = Meta ∷ []
earlier Units = Meta ∷ Owners ∷ []
earlier Materials = Meta ∷ Owners ∷ Units ∷ []
earlier Tests = Meta ∷ Owners ∷ Units ∷ Materials ∷ []
earlier Recipes = Meta ∷ Owners ∷ Units ∷ Materials ∷ Tests ∷ []
earlier Requirements = Meta ∷ Owners ∷ Units ∷ Materials ∷ Tests ∷ Recipes ∷ []
earlier Orders = Meta ∷ Owners ∷ Units ∷ Materials ∷ Tests ∷ Recipes ∷ Requirements ∷ []
earlier Batches = Meta ∷ Owners ∷ Units ∷ Materials ∷ Tests ∷ Recipes ∷ Requirements ∷ Orders ∷ []
earlier Lots = Meta ∷ Owners ∷ Units ∷ Materials ∷ Tests ∷ Recipes ∷ Requirements ∷ Orders ∷ Batches ∷ []
earlier Sublots = Meta ∷ Owners ∷ Units ∷ Materials ∷ Tests ∷ Recipes ∷ Requirements ∷ Orders ∷ Batches ∷ Lots ∷ []
earlier Moves = Meta ∷ Owners ∷ Units ∷ Materials ∷ Tests ∷ Recipes ∷ Requirements ∷ Orders ∷ Batches ∷ Lots ∷ Sublots ∷ []
earlier Results = Meta ∷ Owners ∷ Units ∷ Materials ∷ Tests ∷ Recipes ∷ Requirements ∷ Orders ∷ Batches ∷ Lots ∷ Sublots ∷ Moves ∷ []
earlier Voids = Meta ∷ Owners ∷ Units ∷ Materials ∷ Tests ∷ Recipes ∷ Requirements ∷ Orders ∷ Batches ∷ Lots ∷ Sublots ∷ Moves ∷ Results ∷ []

abbrev pub every_table : List TableKind
every_table = Meta ∷ Owners ∷ Units ∷ Materials ∷ Tests ∷ Recipes ∷ Requirements ∷ Orders ∷ Batches ∷ Lots ∷ Sublots ∷ Moves ∷ Results ∷ Voids ∷ []

-- the schema with these tables, made one after another
abbrev pub with_tables : Schema → List TableKind → Schema
with_tables schema [] = schema
with_tables schema (k ∷ kinds) = with_tables (created schema (record (table_of k) { tree = 0 })) kinds

-- the schema before the table is made, and with all tables, which is version 2
abbrev pub made_before : TableKind → Schema
made_before k = with_tables no_schema (earlier k)

abbrev pub made_all : Schema
made_all = with_tables no_schema every_table

-- the text that makes the table
abbrev pub create_text : TableKind → List ℕ
create_text Meta = codes "CREATE TABLE meta (name TEXT NOT NULL, value INTEGER NOT NULL, PRIMARY KEY (name)) STRICT"
create_text Owners = codes "CREATE TABLE owners (owner TEXT NOT NULL, okey TEXT NOT NULL, PRIMARY KEY (owner)) STRICT"
create_text Units = codes "CREATE TABLE units (unit TEXT NOT NULL, PRIMARY KEY (unit)) STRICT"
create_text Materials = codes "CREATE TABLE materials (owner TEXT NOT NULL, material TEXT NOT NULL, measure TEXT NOT NULL, PRIMARY KEY (owner, material)) STRICT"
create_text Tests = codes "CREATE TABLE tests (owner TEXT NOT NULL, material TEXT NOT NULL, test TEXT NOT NULL, low INTEGER NOT NULL, high INTEGER NOT NULL, PRIMARY KEY (owner, material, test)) STRICT"
create_text Recipes = codes "CREATE TABLE recipes (owner TEXT NOT NULL, recipe TEXT NOT NULL, segments INTEGER NOT NULL, PRIMARY KEY (owner, recipe)) STRICT"
create_text Requirements = codes "CREATE TABLE requirements (owner TEXT NOT NULL, recipe TEXT NOT NULL, segment INTEGER NOT NULL, role INTEGER NOT NULL, source TEXT NOT NULL, material TEXT NOT NULL, amount INTEGER NOT NULL, PRIMARY KEY (owner, recipe, segment, role, source, material)) STRICT"
create_text Orders = codes "CREATE TABLE orders (owner TEXT NOT NULL, ord TEXT NOT NULL, recipe TEXT NOT NULL, batches INTEGER NOT NULL, cancelled INTEGER NOT NULL, PRIMARY KEY (owner, ord)) STRICT"
create_text Batches = codes "CREATE TABLE batches (owner TEXT NOT NULL, ord TEXT NOT NULL, number INTEGER NOT NULL, unit TEXT NOT NULL, state INTEGER NOT NULL, closed INTEGER NOT NULL, PRIMARY KEY (owner, ord, number)) STRICT"
create_text Lots = codes "CREATE TABLE lots (owner TEXT NOT NULL, lot TEXT NOT NULL, material TEXT NOT NULL, ord TEXT NOT NULL, number INTEGER NOT NULL, disposition INTEGER NOT NULL, PRIMARY KEY (owner, lot)) STRICT"
create_text Sublots = codes "CREATE TABLE sublots (owner TEXT NOT NULL, lot TEXT NOT NULL, sublot TEXT NOT NULL, amount INTEGER NOT NULL, PRIMARY KEY (owner, lot, sublot)) STRICT"
create_text Moves = codes "CREATE TABLE moves (owner TEXT NOT NULL, mkey TEXT NOT NULL, kind INTEGER NOT NULL, lot_owner TEXT NOT NULL, lot TEXT NOT NULL, sublot TEXT NOT NULL, target TEXT NOT NULL, material TEXT NOT NULL, ord TEXT NOT NULL, number INTEGER NOT NULL, segment INTEGER NOT NULL, amount INTEGER NOT NULL, day INTEGER NOT NULL, PRIMARY KEY (owner, mkey)) STRICT"
create_text Results = codes "CREATE TABLE results (owner TEXT NOT NULL, lot TEXT NOT NULL, test TEXT NOT NULL, number INTEGER NOT NULL, value INTEGER NOT NULL, day INTEGER NOT NULL, PRIMARY KEY (owner, lot, test, number)) STRICT"
create_text Voids = codes "CREATE TABLE voids (owner TEXT NOT NULL, mkey TEXT NOT NULL, PRIMARY KEY (owner, mkey)) STRICT"

-- the text that puts a row, replacing the one with its key
abbrev pub put_text : TableKind → List ℕ
put_text Meta = codes "INSERT INTO meta (name, value) VALUES (?1, ?2) ON CONFLICT (name) DO UPDATE SET name = ?1, value = ?2"
put_text Owners = codes "INSERT INTO owners (owner, okey) VALUES (?1, ?2) ON CONFLICT (owner) DO UPDATE SET owner = ?1, okey = ?2"
put_text Units = codes "INSERT INTO units (unit) VALUES (?1) ON CONFLICT (unit) DO UPDATE SET unit = ?1"
put_text Materials = codes "INSERT INTO materials (owner, material, measure) VALUES (?1, ?2, ?3) ON CONFLICT (owner, material) DO UPDATE SET owner = ?1, material = ?2, measure = ?3"
put_text Tests = codes "INSERT INTO tests (owner, material, test, low, high) VALUES (?1, ?2, ?3, ?4, ?5) ON CONFLICT (owner, material, test) DO UPDATE SET owner = ?1, material = ?2, test = ?3, low = ?4, high = ?5"
put_text Recipes = codes "INSERT INTO recipes (owner, recipe, segments) VALUES (?1, ?2, ?3) ON CONFLICT (owner, recipe) DO UPDATE SET owner = ?1, recipe = ?2, segments = ?3"
put_text Requirements = codes "INSERT INTO requirements (owner, recipe, segment, role, source, material, amount) VALUES (?1, ?2, ?3, ?4, ?5, ?6, ?7) ON CONFLICT (owner, recipe, segment, role, source, material) DO UPDATE SET owner = ?1, recipe = ?2, segment = ?3, role = ?4, source = ?5, material = ?6, amount = ?7"
put_text Orders = codes "INSERT INTO orders (owner, ord, recipe, batches, cancelled) VALUES (?1, ?2, ?3, ?4, ?5) ON CONFLICT (owner, ord) DO UPDATE SET owner = ?1, ord = ?2, recipe = ?3, batches = ?4, cancelled = ?5"
put_text Batches = codes "INSERT INTO batches (owner, ord, number, unit, state, closed) VALUES (?1, ?2, ?3, ?4, ?5, ?6) ON CONFLICT (owner, ord, number) DO UPDATE SET owner = ?1, ord = ?2, number = ?3, unit = ?4, state = ?5, closed = ?6"
put_text Lots = codes "INSERT INTO lots (owner, lot, material, ord, number, disposition) VALUES (?1, ?2, ?3, ?4, ?5, ?6) ON CONFLICT (owner, lot) DO UPDATE SET owner = ?1, lot = ?2, material = ?3, ord = ?4, number = ?5, disposition = ?6"
put_text Sublots = codes "INSERT INTO sublots (owner, lot, sublot, amount) VALUES (?1, ?2, ?3, ?4) ON CONFLICT (owner, lot, sublot) DO UPDATE SET owner = ?1, lot = ?2, sublot = ?3, amount = ?4"
put_text Moves = codes "INSERT INTO moves (owner, mkey, kind, lot_owner, lot, sublot, target, material, ord, number, segment, amount, day) VALUES (?1, ?2, ?3, ?4, ?5, ?6, ?7, ?8, ?9, ?10, ?11, ?12, ?13) ON CONFLICT (owner, mkey) DO UPDATE SET owner = ?1, mkey = ?2, kind = ?3, lot_owner = ?4, lot = ?5, sublot = ?6, target = ?7, material = ?8, ord = ?9, number = ?10, segment = ?11, amount = ?12, day = ?13"
put_text Results = codes "INSERT INTO results (owner, lot, test, number, value, day) VALUES (?1, ?2, ?3, ?4, ?5, ?6) ON CONFLICT (owner, lot, test, number) DO UPDATE SET owner = ?1, lot = ?2, test = ?3, number = ?4, value = ?5, day = ?6"
put_text Voids = codes "INSERT INTO voids (owner, mkey) VALUES (?1, ?2) ON CONFLICT (owner, mkey) DO UPDATE SET owner = ?1, mkey = ?2"

-- the text that reads the owner's rows, or all of a table that isn't divided by owner, in the order of the key
abbrev pub select_text : TableKind → List ℕ
select_text Meta = codes "SELECT name, value FROM meta ORDER BY name"
select_text Owners = codes "SELECT owner, okey FROM owners ORDER BY owner"
select_text Units = codes "SELECT unit FROM units ORDER BY unit"
select_text Materials = codes "SELECT owner, material, measure FROM materials WHERE owner = ?1 ORDER BY owner, material"
select_text Tests = codes "SELECT owner, material, test, low, high FROM tests WHERE owner = ?1 ORDER BY owner, material, test"
select_text Recipes = codes "SELECT owner, recipe, segments FROM recipes WHERE owner = ?1 ORDER BY owner, recipe"
select_text Requirements = codes "SELECT owner, recipe, segment, role, source, material, amount FROM requirements WHERE owner = ?1 ORDER BY owner, recipe, segment, role, source, material"
select_text Orders = codes "SELECT owner, ord, recipe, batches, cancelled FROM orders WHERE owner = ?1 ORDER BY owner, ord"
select_text Batches = codes "SELECT owner, ord, number, unit, state, closed FROM batches WHERE owner = ?1 ORDER BY owner, ord, number"
select_text Lots = codes "SELECT owner, lot, material, ord, number, disposition FROM lots WHERE owner = ?1 ORDER BY owner, lot"
select_text Sublots = codes "SELECT owner, lot, sublot, amount FROM sublots WHERE owner = ?1 ORDER BY owner, lot, sublot"
select_text Moves = codes "SELECT owner, mkey, kind, lot_owner, lot, sublot, target, material, ord, number, segment, amount, day FROM moves WHERE owner = ?1 ORDER BY owner, mkey"
select_text Results = codes "SELECT owner, lot, test, number, value, day FROM results WHERE owner = ?1 ORDER BY owner, lot, test, number"
select_text Voids = codes "SELECT owner, mkey FROM voids WHERE owner = ?1 ORDER BY owner, mkey"
