-- Files of actuals, as `csv` reads them.
use Rattle.std.specs.Prelude.{◌≡◌, ◌==◌, List, [], ◌∷◌, length, map, codes, Option, None, if◌then◌else◌}
use Rattle.csv.specs.Reading.{AreRecords, default_config, strip_bom}
use Rattle.csv.specs.declared.parser.State.TheVariants.{StartRecord}
use Rattle.toll_plant.specs.Common.{Bytes, PlantCmd}
use Rattle.toll_plant.specs.Table.{actual_line}
use Rattle.toll_plant.specs.Words.{command_with}

-- a record, as a list of its fields
abbrev pub Fields : Type 0
Fields = List Bytes

-- the first record of a file of actuals
abbrev pub header : Fields
header = codes "key" ∷ codes "owner" ∷ codes "order" ∷ codes "batch" ∷ codes "segment" ∷ codes "use" ∷ codes "material" ∷ codes "lot_owner" ∷ codes "lot" ∷ codes "sublot" ∷ codes "amount" ∷ codes "day" ∷ []

-- These are all records of the file, after a byte order mark if it begins with one.
abbrev pub HasRecords : Bytes → List Fields → Type 0
HasRecords file records = AreRecords default_config StartRecord (strip_bom file) records

-- The file has the header, and these records after it.
abbrev pub HasActuals : Bytes → List Fields → Type 0
HasActuals file records = HasRecords file (header ∷ records)

-- The file begins with the header.
abbrev pub HasHeader : Bytes → Type 0
HasHeader file = (records : List Fields) × HasActuals file records

-- the command of a record with these fields: that of the words of an actual, if there are as many fields as an actual has values
abbrev pub command_in : Fields → Option PlantCmd
command_in fields = if length fields == length actual_line.values then command_with actual_line fields else None

-- These are the commands of the records after the header, in order.
abbrev pub AreCommandsOf : Bytes → List (Option PlantCmd) → Type 0
AreCommandsOf file commands = (records : List Fields) × HasActuals file records × (commands ≡ map command_in records)
