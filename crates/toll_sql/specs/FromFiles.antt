-- A keep over the files of a path.
use Rattle.std.specs.Prelude.{◌≡◌, ◌⊎◌, Bool, true, false, None, Option, Result, IfErr, IfSome, IsTrue}
use Rattle.sqlite.specs.Closing.{IsCopied}
use Rattle.sqlite.specs.Files.{FailsToOpenFiles, IsBlankAs, IsCleanLeft, IsClosed, IsOpened, LeavesFiles, file_state}
use Rattle.toll_sql.specs.Common.{Held, IsNew, State, HasCleanDisk, Error, SqliteFailure, KeepFault, FileStore, IsClean, Image}
use Rattle.sqlite.specs.Opening.{is_open_error}
use Rattle.sqlite.specs.Start.{FindsIn}
use Rattle.sqlite.specs.declared.error.ErrorCode.TheVariants as code
use Rattle.sqlite.specs.declared.file.Leftover.{Leftover}
use Rattle.sqlite.specs.Disk.{MoreFaults}
use Rattle.sqlite_store.specs.FileStore.{faults, view}
use Rattle.toll_keep.specs.declared.keep_fault.KeepFault.TheVariants as keep
use Rattle.sqlite_wal.specs.Reads.{AreClean}
use Rattle.toll_sql.specs.Opening.{Adopts, Creates, open_refusal, succeeds}
use Rattle.toll_sql.specs.declared.open_fault.OpenFault.{OpenFault}
use Rattle.toll_sql.specs.declared.open_fault.OpenFault.TheVariants.{Memory, Disk, NotOurs}

-- The tables are made, or adopted.
abbrev pub CreatesOrAdopts : Bool → State → State → Result (Unit {0}) OpenFault → Type 0
CreatesOrAdopts true old new answer = Creates old new answer
CreatesOrAdopts false old new answer = Adopts old new answer

-- the fault for an error of opening files: Memory, NotOurs for a file that is no database, and Disk for any other
abbrev pub fault_of_files : Error → OpenFault
fault_of_files (SqliteFailure code.OutOfMemory) = Memory
fault_of_files (SqliteFailure code.NotADatabase) = NotOurs
fault_of_files _ = Disk

-- The file couldn't be opened. Crate sqlite defines its error, and what is left of the files if they were opened.
pub record IsFileUnopened {D : Type 0} {g : _} (e : Error) (left : Option (Leftover D g)) (fault : OpenFault) : Type 0 where
  pub named : IsTrue (is_open_error e)
  pub reported : fault ≡ fault_of_files e
  pub none : left ≡ None → (e ≡ SqliteFailure code.CannotOpen) ⊎ ((e ≡ SqliteFailure code.OutOfMemory) ⊎ (e ≡ SqliteFailure code.DatabaseBusy))
  pub some : IfSome left (λ rest. (files : _) × (IsCleanLeft rest → FailsToOpenFiles files rest e × LeavesFiles files rest))

-- A connection was opened. It finds what the files hold, checks what it reads later, and gives a new file no checksums.
pub record IsOpenedFrom {D : Type 0} {g : _} (image : Image) (opened : Held (FileStore D g)) : Type 0 where
  pub fresh : IsNew opened
  pub found : HasCleanDisk (file_state opened) → IsOpened opened × FindsIn image (file_state opened)
  pub sums : HasCleanDisk (file_state opened) → IsBlankAs false image → (view opened.store).has_sums ≡ false
  pub guarded : HasCleanDisk (file_state opened) → (file_state opened).IsShielded

-- The files of such a connection couldn't be opened, for an error that crate sqlite defines and that this fault reports.
abbrev pub IsUnopenedFrom : {D : Type 0} {g : _} {K : Type 0} → (K → Held (FileStore D g)) → OpenFault → Type 0
IsUnopenedFrom {D} {g} conn fault = (e : Error) × (left : Option (Leftover D g)) × IsFileUnopened e left fault

-- If no keep is returned, the files couldn't be opened.
abbrev pub UnopensFrom : {D : Type 0} {g : _} {K : Type 0} → (K → Held (FileStore D g)) → Result K OpenFault → Type 0
UnopensFrom conn result = IfErr result (IsUnopenedFrom conn)

-- A connection was opened, and its tables were made or adopted.
abbrev pub IsKeptFrom : {D : Type 0} {g : _} → Bool → Image → Held (FileStore D g) → Type 0
IsKeptFrom {D} {g} fresh image new = (opened : Held (FileStore D g)) × IsOpenedFrom image opened × CreatesOrAdopts fresh (file_state opened) (file_state new) succeeds

-- If no keep is returned, the files couldn't be opened, or the connection's tables couldn't be made or adopted.
abbrev pub RefusesFrom : {D : Type 0} {g : _} {K : Type 0} → (K → Held (FileStore D g)) → Bool → Image → Result K OpenFault → Type 0
RefusesFrom {D} {g} conn fresh image result = IfErr result (λ fault.
    IsUnopenedFrom conn fault
    ⊎ ((opened : Held (FileStore D g)) × IsOpenedFrom image opened × ((left : Held (FileStore D g)) × CreatesOrAdopts fresh (file_state opened) (file_state left) (open_refusal fault))))

-- The files are closed, and everything committed is in the database file.
abbrev pub IsLeftIn : {D : Type 0} {g : _} → Held (FileStore D g) → Type 0
IsLeftIn {D} {g} conn = (files : _) × (AreClean g files.log files.db → IsCopied conn files)

-- The files couldn't be closed. A crash now leaves nothing that it couldn't leave before, and a fault of the disk has a cause.
pub record IsUnclosed {D : Type 0} {g : _} (conn : Held (FileStore D g)) (last : FileStore D g) (fault : KeepFault) : Type 0 where
  pub closed : IsClosed conn last
  pub known : (fault ≡ keep.Memory) ⊎ (fault ≡ keep.Disk)
  pub cause : fault ≡ keep.Disk → IsClean (view last) → ((view conn.store).is_open ≡ false) ⊎ MoreFaults (faults conn.store) (faults last)
