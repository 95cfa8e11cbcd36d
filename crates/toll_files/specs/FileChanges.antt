-- What other programs did to the files of an office.
use Rattle.std.specs.Prelude.{◌≡◌, ◌⊎◌, ◌<◌, ⊤, Bool, Option, None, Some, IsSome, Result}
use Rattle.toll_files.specs.declared.file_stamps.FileStamps.{FileStamps}
use Rattle.toll_files.specs.declared.file_stamps.FoundFiles.{FoundFiles}
use Rattle.toll_files.specs.declared.file_stamps.LeftFiles.{LeftFiles}
use Rattle.toll_files.specs.declared.file_stamps.Stamp.{Stamp}
use Rattle.toll_files.specs.declared.log_end.FoundEnd.{FoundEnd}
use Rattle.toll_files.specs.declared.log_end.FoundEnd.TheVariants.{Stands, Gone, BegunAnew}
use Rattle.toll_files.specs.declared.office_fault.OfficeFault.{OfficeFault}

-- It is the same file, with the same length and time of writing.
abbrev pub HasContentOf : Stamp → Stamp → Type 0
HasContentOf a b = (a.id ≡ b.id) × (a.bytes ≡ b.bytes) × (a.written ≡ b.written)

-- The file, its name and its mode are unchanged too.
abbrev pub IsStampUnchanged : Stamp → Stamp → Type 0
IsStampUnchanged a b = HasContentOf a b × (a.changed ≡ b.changed)

-- Neither file changed.
abbrev pub AreUntouched : FileStamps → FileStamps → Type 0
AreUntouched left found = IsStampUnchanged found.database left.database × IsStampUnchanged found.log left.log

-- The database had bytes, and is empty or gone.
abbrev pub IsEmptied : LeftFiles → FoundFiles → Type 0
IsEmptied left found = (0 < left.stamps.database.bytes) × (found.stamps.database.bytes ≡ 0)

-- The database is the one that was left.
abbrev pub IsDatabaseKept : LeftFiles → FoundFiles → Type 0
IsDatabaseKept left found = HasContentOf found.stamps.database left.stamps.database

-- The database was replaced beside the old log.
abbrev pub IsDatabaseReplaced : LeftFiles → FoundFiles → Type 0
IsDatabaseReplaced left found = HasContentOf found.stamps.log left.stamps.log × ¬ (IsDatabaseKept left found)

-- The log was cut or is gone, and the database hasn't taken in its changes.
abbrev pub IsLogCut : LeftFiles → FoundFiles → Type 0
IsLogCut left found = (found.stamps.log.bytes < left.stamps.log.bytes) × IsDatabaseKept left found

-- The last commit is gone from the log; or another log was begun, and the database hasn't taken in the changes.
abbrev pub IsEndLostFrom : (IsKept : Type 0) → Option FoundEnd → Type 0
IsEndLostFrom IsKept (Some Gone) = ⊤
IsEndLostFrom IsKept (Some BegunAnew) = IsKept
IsEndLostFrom IsKept (Some Stands) = ⊥
IsEndLostFrom IsKept None = ⊥

-- The log was changed, and was found to have lost the last commit.
abbrev pub IsEndLost : (IsKept : Type 0) → LeftFiles → FoundFiles → Type 0
IsEndLost IsKept left found = (¬ IsStampUnchanged found.stamps.log left.stamps.log) × IsEndLostFrom IsKept found.log_end

-- The changes that were committed in the log are lost.
abbrev pub IsLogLost : LeftFiles → FoundFiles → Type 0
IsLogLost left found = IsDatabaseReplaced left found ⊎ (IsLogCut left found ⊎ IsEndLost (IsDatabaseKept left found) left found)

-- Committed changes are lost: the database's rows, or those in the log.
abbrev pub AreCommitsLost : LeftFiles → FoundFiles → Type 0
AreCommitsLost left found = IsEmptied left found ⊎ (IsSome left.log_end × IsLogLost left found)

-- There was something to lose: the database had bytes, or the log had commits.
abbrev pub HadSomething : LeftFiles → Type 0
HadSomething left = (0 < left.stamps.database.bytes) ⊎ IsSome left.log_end

-- The files that were left were compared with those found. The result is whether they are unchanged, or a fault if committed changes are
-- lost.
abbrev pub AreFound : (LeftFiles → Result Bool OfficeFault → Type 0) → Option LeftFiles → Result Bool OfficeFault → Type 0
AreFound is_found None found = ⊥
AreFound is_found (Some left) found = is_found left found
