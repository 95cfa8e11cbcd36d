-- The meaning of a keep whose rows are in a store of SQLite.
use Rattle.std.specs.Prelude.{List}
use Rattle.sqlite.specs.Held.{state}
use Rattle.sqlite.specs.State.{HasCleanDisk}
use Rattle.sqlite_trees.specs.declared.store.Store.{Ghosts}
use Rattle.toll_keep.specs.Meaning.{Meaning}
use Rattle.toll_sql.specs.Causes.{HasCause}
use Rattle.toll_sql.specs.Common.{Bytes, Content, Trees}
use Rattle.toll_sql.specs.Holds.{Holds, HoldsFor}
use Rattle.toll_sql.specs.Stores.{HoldsOpenBy, LeavesBy, LiesOpen}
use Rattle.toll_sql.specs.declared.sql_keep.SqlKeep.{SqlKeep}

-- the meaning of a keep over a store of this kind whose tables have rows of a content
abbrev pub meaning_by : {D : Type 0} (g : Ghosts D) → (Trees → Content → Type 0) → Meaning (SqlKeep D g)
meaning_by g Rows = record {
  holds = λ k c. HoldsOpenBy Rows (state g k.conn) c;
  is_honest = λ k. HasCleanDisk (state g k.conn);
  is_closed = λ k. k.closed;
  is_store_open = λ k. LiesOpen (state g k.conn);
  is_unsure = λ k. k.unsure;
  has_cause = λ old new. HasCause (state g old.conn) (state g new.conn);
  leaves = λ k cs. LeavesBy Rows (state g k.conn) cs;
}

-- its meaning, if its tables have exactly the rows of the content
abbrev pub sql_meaning : {D : Type 0} (g : Ghosts D) → Meaning (SqlKeep D g)
sql_meaning g = meaning_by g Holds

-- its meaning for these owners, whatever rows its tables have of others
abbrev pub sql_part : {D : Type 0} (g : Ghosts D) → List Bytes → Meaning (SqlKeep D g)
sql_part g os = meaning_by g (HoldsFor os)
