-- The fields so far are the names so far.
use Rattle.std.proofs.Common.{◌≡◌, take}
use Rattle.csv.specs.Records.{fields_of}
use Rattle.toll_plant.specs.Files.{header}
use Rattle.toll_plant.proofs.actuals.is_header.Given as goal

abbrev pub invariant-loop-name : goal.invariant-loop-name
invariant-loop-name l = record {
  place : l.place ≡ l.name-index;
  same : take l.name-index (fields_of l.row) ≡ take l.name-index header;
}
