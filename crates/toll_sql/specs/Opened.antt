-- A keep that was opened from files, before its first call.
use Rattle.std.specs.Prelude.{◌≡◌, Bool, None}
use Rattle.toll_sql.specs.Common.{Held, FileStore, Image}
use Rattle.sqlite_trees.specs.declared.store.Store as store
use Rattle.toll_keep.specs.Remembered.{IsNothing}
use Rattle.toll_keep.specs.declared.keep.Keep as keep
use Rattle.toll_keep.specs.declared.cached_keep.CachedKeep.{CachedKeep}
use Rattle.toll_sql.specs.FromFiles.{IsKeptFrom}
use Rattle.toll_sql.specs.declared.sql_keep.SqlKeep.{SqlKeep}

-- The connection's tables were made in the files, or found there.
abbrev pub IsFound : {D : Type 0} {d : _} → Held (FileStore D d) → Type 0
IsFound conn = (fresh : Bool) × (image : Image) × IsKeptFrom fresh image conn

-- The keep has an empty cache around a keep whose tables were made or found, and has met no damage.
abbrev pub IsOpened : {D : Type 0} {d : _} {g : store.Ghosts (FileStore D d)} {h : keep.Ghosts (SqlKeep (FileStore D d) g)}
    → CachedKeep (SqlKeep (FileStore D d) g) h → Type 0
IsOpened {D} {d} {g} r = (inside : SqlKeep (FileStore D d) g) × (r.keep ≡ inside) × IsFound inside.conn × IsNothing r.cache × (r.damaged_owner ≡ None)
