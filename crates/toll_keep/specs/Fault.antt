-- The names of faults, and whose rows met damage.
use Rattle.std.specs.Prelude.{ℕ, List, Option, Some, Result, Err, codes}
use Rattle.toll_base.specs.Bytes.{Bytes}
use Rattle.toll_keep.specs.declared.keep_fault.KeepFault.{KeepFault}
use Rattle.toll_keep.specs.declared.keep_fault.KeepFault.TheVariants.{Memory, Disk, Damaged, Closed}

-- the name of a fault
abbrev pub fault_word : KeepFault → List ℕ
fault_word Memory = codes "Memory"
fault_word Disk = codes "Disk"
fault_word Damaged = codes "Damaged"
fault_word Closed = codes "Closed"

-- the owner whose rows met damage, after a call for this owner's slice
abbrev pub damaged_owner_after : {X : Type 0} → Bytes → Result X KeepFault → Option Bytes → Option Bytes
damaged_owner_after owner (Err Damaged) before = Some owner
damaged_owner_after owner _ before = before
