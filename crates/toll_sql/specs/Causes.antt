-- The cause of an error of the store.
use Rattle.std.specs.Prelude.{◌≡◌, ◌≤◌, ◌⊎◌, ◌+◌, ◌%◌, ◌^◌, ℕ, Bool, true, false, IsTrue}
use Rattle.toll_sql.specs.Common.{State, Error, SqliteFailure}
use Rattle.sqlite.specs.Disk.{MoreFaults}
use Rattle.sqlite.specs.declared.error.ErrorCode.TheVariants as code

-- whether the error is reported as a fault of the disk
abbrev pub is_disk_fault : Error → Bool
is_disk_fault (SqliteFailure code.SystemIoFailure) = true
is_disk_fault (SqliteFailure code.DatabaseCorrupt) = true
is_disk_fault (SqliteFailure code.DiskFull) = true
is_disk_fault (SqliteFailure code.Closed) = true
is_disk_fault _ = false

-- The disk failed or refused meanwhile, or the store had shut itself before.
abbrev pub Reason : State → State → Type 0
Reason old new = MoreFaults old.faults new.faults ⊎ (old.is_open ≡ false)

abbrev pub IsErrorCaused : State → State → Error → Type 0
IsErrorCaused old new e = IsTrue (is_disk_fault e) → Reason old new

-- Between the first state and the second the store met a cause of a fault of the disk.
abbrev pub HasCause : State → State → Type 0
HasCause old new = (old.faults ≤ new.faults) × Reason old new

-- A count of 64 bits went on by one.
abbrev pub CountsOneMore : ℕ → ℕ → Type 0
CountsOneMore old new = new ≡ (old + 1) % 2 ^ 64
