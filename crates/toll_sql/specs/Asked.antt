-- The version of a store whose tables may be any, by the definitions of crate sqlite.
use Rattle.std.specs.Prelude.{◌≡◌, ◌≤◌, ℕ, List, [], length, Option, None, Ok}
use Rattle.sqlite.specs.Clock.{timed}
use Rattle.toll_sql.specs.Common.{Database, Reads, RefusesToRead, Row, Error, Compiled}
use Rattle.sqlite.specs.Listing.{IsSourceOf, reads_listing, understood}
use Rattle.toll_sql.specs.Schema.{select_text}
use Rattle.toll_sql.specs.declared.table_kind.TableKind.TheVariants.{Meta}

-- The text with these parameters reads these rows of the database. RETURNING is left out, because no SELECT has it.
abbrev pub AreReadWith : Database → List ℕ → Row → List Row → Type 0
AreReadWith db sql params rows =
    (c : Compiled) × (understood db.schema sql ≡ Ok c) × (c.returning ≡ None → (source : Database) × IsSourceOf (reads_listing db.schema sql) db source × ((now : ℕ) × Reads c.command source (timed params c.formats now) rows))

-- The text without parameters reads these rows.
abbrev pub AreReadBy : Database → List ℕ → List Row → Type 0
AreReadBy db sql rows = AreReadWith db sql [] rows

-- The text is one statement without parameters that reads no time.
pub record IsWholeText (sql : List ℕ) (c : Compiled) : Type 0 where
  pub whole : length sql ≤ c.tail
  pub given : length c.names ≡ 0
  pub untimed : c.formats ≡ []

-- The text, without parameters, reads nothing of the database within this limit of steps: it isn't understood, is no such statement, or is
-- refused.
abbrev pub IsUnreadBy : (limit : Option ℕ) → Database → List ℕ → Type 0
IsUnreadBy limit db sql =
    (c : Compiled) → understood db.schema sql ≡ Ok c → c.returning ≡ None → IsWholeText sql c → (source : Database) × IsSourceOf (reads_listing db.schema sql) db source × ((e : Error) × RefusesToRead limit c.command source [] e)

-- the text that reads `meta`
abbrev pub meta_text : List ℕ
meta_text = select_text Meta

-- P holds of the rows that `meta` shows of a store.
abbrev pub ShowsMeta : (List Row → Type 0) → Database → Type 0
ShowsMeta P db = (rows : List Row) × AreReadBy db meta_text rows × P rows
