use Rattle.std.proofs.Common.{List, length}
use Rattle.toll_plant.specs.Files.{Fields, HasActuals}
use Rattle.toll_plant.specs.Imports.{commands_in}
use Rattle.toll_plant.proofs.ImportDone.{IsImportedSoFar}
use Rattle.toll_plant.proofs.importing.import_actuals.Given as goal

-- The records so far were served. The others are left, unless there was a fault.
abbrev pub invariant-loop-alloc : goal.invariant-loop-alloc
invariant-loop-alloc g l = (records : List Fields) × HasActuals l.fn.file records × IsImportedSoFar g.K.Keep.meaning l.fn.keep (commands_in records) l.keep l.import

abbrev pub decreases-loop-alloc : goal.decreases-loop-alloc
decreases-loop-alloc g l = length l.import.left
