-- The names of faults.
use Rattle.std.specs.Prelude.{codes, List, ◌∷◌, ◌++◌, Option, None, Some}
use Rattle.toll_base.specs.Bytes.{Bytes}
use Rattle.toll_files.specs.declared.office_fault.OfficeFault.{OfficeFault}
use Rattle.toll_files.specs.declared.office_fault.OfficeFault.TheVariants.{Locked, Memory, Disk, Damaged, NotOurs}
use Rattle.toll_files.specs.declared.fault_log.FaultNote.{FaultNote}
use Rattle.toll_files.specs.declared.fault_log.FaultNote.TheVariants.{Began, Ended}
use Rattle.toll_files.specs.declared.fault_log.ServingFault.{ServingFault}
use Rattle.toll_files.specs.declared.fault_log.ServingFault.TheVariants.{Office, Unavailable, PlantSocket, NoResources}

-- the name of a fault
abbrev pub office_fault_name : OfficeFault → Bytes
office_fault_name Locked = codes "Locked"
office_fault_name Memory = codes "Memory"
office_fault_name Disk = codes "Disk"
office_fault_name Damaged = codes "Damaged"
office_fault_name NotOurs = codes "NotOurs"

-- the word by which an operator knows a server's fault
abbrev pub serving_fault_name : ServingFault → Bytes
serving_fault_name (Office fault) = office_fault_name fault
serving_fault_name Unavailable = codes "Unavailable"
serving_fault_name PlantSocket = codes "Door"
serving_fault_name NoResources = codes "Room"

-- what an operator reads of it
abbrev pub fault_note_text : FaultNote → Bytes
fault_note_text (Ended fault) = codes "fault " ++ serving_fault_name fault ++ codes " ended"
fault_note_text (Began fault) = codes "fault " ++ serving_fault_name fault ++ codes " began"

-- the operator's lines, the latest first, after one more of a fault, if there is one
abbrev pub lines_with : (ServingFault → FaultNote) → Option ServingFault → List Bytes → List Bytes
lines_with note None lines = lines
lines_with note (Some fault) lines = fault_note_text (note fault) ∷ lines

-- the operator's lines after one fault gave way to another
abbrev pub lines_of_change : (was found : Option ServingFault) → List Bytes → List Bytes
lines_of_change was found lines = lines_with Began found (lines_with Ended was lines)

-- the line that reports a fault
abbrev pub fault_text : OfficeFault → Bytes
fault_text fault = codes "fault " ++ office_fault_name fault ++ codes "\n"
