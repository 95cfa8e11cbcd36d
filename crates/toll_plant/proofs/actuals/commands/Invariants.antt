-- The commands so far are those of the records so far.
use Rattle.std.proofs.Common.{◌≡◌, take, map}
use Rattle.csv.specs.Records.{fields_of}
use Rattle.toll_plant.specs.Files.{command_in}
use Rattle.toll_plant.proofs.actuals.commands.Given as goal

abbrev pub invariant-loop-row : goal.invariant-loop-row
invariant-loop-row l = l.commands.items ≡ map (λ r. command_in (fields_of r)) (take l.row-index l.records)
