-- What the program does over a keep, and the printout of it.
use Rattle.std.specs.Prelude.{Result}
use Rattle.toll_programs.specs.Common.{Bytes, PlantCmd, PlantReply, Meaning, ImportFault, ImportReport}
use Rattle.toll_desk.specs.Common.{IsValidCommand}
use Rattle.toll_desk.specs.OfficeSteps.{plant_steps}
use Rattle.toll_desk.specs.Steps.{IsKeepStep}
use Rattle.toll_desk.specs.Translations.{meaning_of_plant_reply}
use Rattle.toll_programs.specs.Imported.{IsImported}
use Rattle.toll_programs.specs.Outputs.{IsImportPrintout, IsReplyPrintout, Printout}

-- The command was done over the keep, and the printout reports its reply.
abbrev pub IsCommandDone : {K : Type 0} → Meaning K → K → K → PlantCmd → Printout → Type 0
IsCommandDone meaning old new command p =
    (reply : PlantReply) × (IsKeepStep meaning plant_steps old command (meaning_of_plant_reply reply) new × IsValidCommand command) × IsReplyPrintout reply p

-- The file was imported into the keep, and the printout reports the outcome.
abbrev pub IsImportDone : {K : Type 0} → Meaning K → K → K → Bytes → Printout → Type 0
IsImportDone meaning old new file p =
    (imported : Result ImportReport ImportFault) × IsImported meaning old new file imported × IsImportPrintout imported p
