-- What the mark of a log's last commit tells at an opening.
use Rattle.std.specs.Prelude.{◌≡◌, ◌≢◌, ◌⊎◌, ⊤, ℕ, List, Option, None, Some}
use Rattle.toll_files.specs.FileChanges.{IsStampUnchanged}
use Rattle.toll_files.specs.LogEnds.{HasEnd}
use Rattle.toll_files.specs.declared.file_stamps.FileStamps.{FileStamps}
use Rattle.toll_files.specs.declared.file_stamps.LeftFiles.{LeftFiles}
use Rattle.toll_files.specs.declared.file_stamps.Stamp.{Stamp}
use Rattle.toll_files.specs.declared.log_end.FoundEnd.{FoundEnd}
use Rattle.toll_files.specs.declared.log_end.FoundEnd.TheVariants.{Stands}
use Rattle.toll_files.specs.declared.log_end.LogEnd.{LogEnd}
use Rattle.toll_files.specs.declared.log_mark.LogMark.{LogMark}

-- The mark has the last commit that was left in the log, and the stamp of FILE beside it.
abbrev pub AreMarked : LeftFiles → Option LogMark → Type 0
AreMarked left None = left.log_end ≡ None
AreMarked left (Some mark) = (left.log_end ≡ Some mark.end) × (mark.database ≡ left.stamps.database)

-- FILE is as it was marked, whatever the number of its disk.
abbrev pub IsFileAsMarked : LogMark → Stamp → Type 0
IsFileAsMarked mark now =
    (mark.database.id.inode ≡ now.id.inode) × (mark.database.bytes ≡ now.bytes) × (mark.database.written ≡ now.written)
    × (mark.database.changed ≡ now.changed)

-- Nobody has written FILE since, and the log doesn't have the commit.
abbrev pub IsMarkLost : LogMark → Stamp → FoundEnd → Type 0
IsMarkLost mark now found = IsFileAsMarked mark now × (found ≢ Stands)

-- The same, of files with these stamps and a log with these bytes.
abbrev pub IsCommitLost : LogMark → FileStamps → List ℕ → Type 0
IsCommitLost mark stamps log = IsFileAsMarked mark stamps.database × ¬ HasEnd log mark.end

-- Both are of the same commit.
abbrev IsCommitOfBoth : Option LogEnd → Option LogEnd → Type 0
IsCommitOfBoth None end = ⊥
IsCommitOfBoth (Some marked) None = ⊥
IsCommitOfBoth (Some marked) (Some end) = (marked.salts ≡ end.salts) × (marked.frames ≡ end.frames) × (marked.sum ≡ end.sum)

-- Files that are left so have the mark that they had before.
abbrev pub AreMarkedAlike : LeftFiles → LeftFiles → Type 0
AreMarkedAlike marked left = IsCommitOfBoth marked.log_end left.log_end × IsStampUnchanged marked.stamps.database left.stamps.database

abbrev IsMarkedBefore : Option LeftFiles → LeftFiles → Type 0
IsMarkedBefore None left = ⊥
IsMarkedBefore (Some marked) left = AreMarkedAlike marked left

-- Nothing is known of the files; or their log has no commit, or the one that was marked before.
abbrev pub IsNoneToMark : (marked left : Option LeftFiles) → Type 0
IsNoneToMark marked None = ⊤
IsNoneToMark marked (Some left) = (left.log_end ≡ None) ⊎ IsMarkedBefore marked left
