-- Why a file of actuals is not imported.
use Rattle.std.specs.Prelude.{⊤, ◌<◌, ◌≤◌, length, Result, Ok, Err}
use Rattle.csv.specs.declared.error.ErrorKind.{ErrorKind}
use Rattle.csv.specs.declared.error.ErrorKind.TheVariants as csv
use Rattle.toll_base.specs.Bytes.{Bytes}
use Rattle.toll_plant.specs.Files.{HasHeader}
use Rattle.toll_plant.specs.declared.import_fault.ImportFault.{ImportFault}
use Rattle.toll_plant.specs.declared.import_fault.ImportFault.TheVariants.{Memory, TooLong, BadHeader}
use Rattle.toll_plant.specs.declared.importing.TheConstants.{MOST_FILE_BYTES}

-- There was no memory to read the file, or it hasn't the header.
abbrev pub IsNoActualsOf : Bytes → ImportFault → Type 0
IsNoActualsOf file Memory = Unit {0}
IsNoActualsOf file TooLong = ⊥
IsNoActualsOf file BadHeader = ¬ (HasHeader file)

-- The file is too long. Or it isn't, and there was no memory or it hasn't the header.
abbrev pub IsRefusedFor : Bytes → ImportFault → Type 0
IsRefusedFor file TooLong = MOST_FILE_BYTES < length file
IsRefusedFor file Memory = length file ≤ MOST_FILE_BYTES
IsRefusedFor file BadHeader = (length file ≤ MOST_FILE_BYTES) × ¬ (HasHeader file)

-- The file is not too long, and it has the header.
abbrev pub CanBeImported : Bytes → Type 0
CanBeImported file = (length file ≤ MOST_FILE_BYTES) × HasHeader file

-- The file was imported and could be, or it was refused for this fault.
abbrev pub IsImportedOrRefused : {X : Type 0} → Bytes → Result X ImportFault → Type 0
IsImportedOrRefused file (Ok report) = CanBeImported file
IsImportedOrRefused file (Err fault) = IsRefusedFor file fault

-- There was no memory, or the reader below failed. `csv` itself refused no record.
abbrev pub IsOfReader : ErrorKind → Type 0
IsOfReader csv.OutOfMemory = ⊤
IsOfReader (csv.Io why) = ⊤
IsOfReader (csv.UnequalLengths place expected found) = ⊥
IsOfReader (csv.Utf8 place why) = ⊥
IsOfReader (csv.Serialize text) = ⊥
IsOfReader (csv.Deserialize place why) = ⊥
