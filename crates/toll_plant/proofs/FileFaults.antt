-- Why files are not imported.
use Rattle.std.proofs.Common.{◌≤◌, length}
use Rattle.toll_base.specs.Bytes.{Bytes}
use Rattle.toll_plant.specs.ImportFaults.{IsNoActualsOf, IsRefusedFor}
use Rattle.toll_plant.specs.declared.import_fault.ImportFault.{ImportFault}
use Rattle.toll_plant.specs.declared.import_fault.ImportFault.TheVariants.{Memory, TooLong, BadHeader}
use Rattle.toll_plant.specs.declared.importing.TheConstants.{MOST_FILE_BYTES}

-- The file is not too long, but its records couldn't be read.
pub refused_unread : (file : Bytes) (fault : ImportFault) → length file ≤ MOST_FILE_BYTES → IsNoActualsOf file fault → IsRefusedFor file fault
refused_unread file Memory bounded why = bounded
refused_unread file TooLong bounded why = absurd why
refused_unread file BadHeader bounded why = (bounded, why)
