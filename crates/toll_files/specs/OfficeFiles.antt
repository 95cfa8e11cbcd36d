-- The files of an office whose stamps and bytes are known, and what is noted of them.
use Rattle.std.specs.Prelude.{◌≡◌, ◌↔◌, ◌⊎◌, ℕ, Bool, true, false, List, Option, None, Some, Result, Ok, Err, MatchOption}
use Rattle.toll_files.specs.FileChanges.{AreCommitsLost, AreUntouched, IsStampUnchanged}
use Rattle.toll_files.specs.LogEnds.{IsEarlierEnd, IsEndOf, IsFoundAs}
use Rattle.toll_files.specs.declared.file_stamps.FileChange.{FileChange}
use Rattle.toll_files.specs.declared.file_stamps.FileChange.TheVariants.{ByOthers, NotOurs, Same}
use Rattle.toll_files.specs.declared.file_stamps.FileStamps.{FileStamps}
use Rattle.toll_files.specs.declared.file_stamps.FoundFiles.{FoundFiles}
use Rattle.toll_files.specs.declared.file_stamps.LeftFiles.{LeftFiles}
use Rattle.toll_files.specs.declared.file_stamps.Stamp.{Stamp}
use Rattle.toll_files.specs.declared.log_end.LogEnd.{LogEnd}
use Rattle.toll_files.specs.declared.office_fault.OfficeFault.{OfficeFault}
use Rattle.toll_files.specs.declared.office_fault.OfficeFault.TheVariants as fault

-- The last commit of a log with this stamp and these bytes. Where an earlier commit is known, and the stamp that the log had then, it is the
-- earlier one if the stamp is unchanged.
abbrev pub IsEndNoted : Option LeftFiles → Stamp → List ℕ → Option LogEnd → Type 0
IsEndNoted None now bytes end = IsEndOf bytes end
IsEndNoted (Some before) now bytes end =
    (IsStampUnchanged before.stamps.log now → end ≡ before.log_end)
    × (¬ IsStampUnchanged before.stamps.log now → IsEarlierEnd bytes before.log_end → IsEndOf bytes end)

-- The state of the files was noted.
abbrev pub AreNoted : Option LeftFiles → FileStamps → List ℕ → LeftFiles → Type 0
AreNoted before stamps bytes left = (left.stamps ≡ stamps) × IsEndNoted before stamps.log bytes left.log_end

-- A log was only added to: it has the salts that it had before.
abbrev pub IsContinued : Option LogEnd → Option LogEnd → Type 0
IsContinued None end = ⊥
IsContinued (Some before) None = ⊥
IsContinued (Some before) (Some end) = before.salts ≡ end.salts

-- The log was only added to, and its last commit is noted, beside the stamp that FILE had before.
pub record IsAddedTo (before : LeftFiles) (now : Stamp) (bytes : List ℕ) (left : LeftFiles) : Type 0 where
  pub log : before.stamps.log.id ≡ now.id
  pub stamps : left.stamps ≡ record { database = before.stamps.database; log = now }
  pub continued : IsContinued before.log_end left.log_end
  pub end : IsEarlierEnd bytes before.log_end → IsEndOf bytes left.log_end

-- The state of the files was noted behind a turn, whose open log has this stamp and these bytes now.
abbrev pub IsTurnNoted : LeftFiles → Stamp → List ℕ → FileStamps → List ℕ → LeftFiles → Type 0
IsTurnNoted before now bytes stamps log left =
    (IsStampUnchanged before.stamps.log now → left ≡ before)
    × (¬ IsStampUnchanged before.stamps.log now → IsAddedTo before now bytes left ⊎ AreNoted (Some before) stamps log left)

-- What became of the end in the log. It isn't looked for if the log is untouched, and not found if the log can't be read.
abbrev pub IsEndFound : (IsReadable IsUntouched : Type 0) → Option LogEnd → List ℕ → FoundFiles → Type 0
IsEndFound IsReadable IsUntouched None bytes found = found.log_end ≡ None
IsEndFound IsReadable IsUntouched (Some end) bytes found = MatchOption found.log_end (IsUntouched ⊎ ¬ IsReadable) (IsFoundAs bytes end)

-- The files were looked at, which had been left so.
abbrev pub AreLookedAt : (IsReadable : Type 0) → LeftFiles → FileStamps → List ℕ → FoundFiles → Type 0
AreLookedAt IsReadable left stamps bytes found =
    (found.stamps ≡ stamps) × IsEndFound IsReadable (IsStampUnchanged stamps.log left.stamps.log) left.log_end bytes found

-- The files that had been left so were compared with those that are there. If these can't be read, they count as written.
abbrev pub AreCompared : (IsReadable : Type 0) → LeftFiles → FileStamps → List ℕ → FileChange → Type 0
AreCompared IsReadable left stamps bytes change =
    ((found : FoundFiles) × AreLookedAt IsReadable left stamps bytes found × ((change ≡ Same) ↔ AreUntouched left.stamps stamps)
    × ((change ≡ NotOurs) ↔ AreCommitsLost left found))
    ⊎ ((¬ IsReadable) × (change ≡ ByOthers))

-- whether the files are unchanged, or the fault if committed changes are gone
abbrev pub answer_to : FileChange → Result Bool OfficeFault
answer_to Same = Ok true
answer_to ByOthers = Ok false
answer_to NotOurs = Err fault.NotOurs
