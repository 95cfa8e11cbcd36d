-- The import of a file of actuals over a keep.
use Rattle.std.specs.Prelude.{◌≡◌, List, Result, IfOk, OnErr}
use Rattle.toll_programs.specs.Common.{Bytes, Meaning, ImportFault, ImportReport}
use Rattle.toll_plant.specs.Files.{Fields, HasActuals}
use Rattle.toll_plant.specs.ImportFaults.{IsImportedOrRefused}
use Rattle.toll_plant.specs.Imports.{AreRecordsServed, commands_in, outcomes_in}

-- The file's records had these outcomes one after another, up to a fault; or nothing acted, for this reason.
pub record IsImported {K : Type 0} (meaning : Meaning K) (old new : K) (file : Bytes) (imported : Result ImportReport ImportFault) : Type 0 where
  pub read : IsImportedOrRefused file imported
  pub err : OnErr imported (new ≡ old)
  pub served : IfOk imported (λ report. (records : List Fields) × HasActuals file records × AreRecordsServed meaning old (commands_in records) (outcomes_in report.lines.items) new)
