-- The fields so far, and those that are left, are those of the record.
use Rattle.std.proofs.Common.{◌≡◌, ◌++◌, drop, map}
use Rattle.csv.specs.Records.{fields_of}
use Rattle.toll_plant.proofs.records.fields.Given as goal

abbrev pub invariant-loop-field : goal.invariant-loop-field
invariant-loop-field l =
    record {
      same : l.field-iterator.row.now ≡ l.row;
      whole : map (λ f. f.now) l.fields.items ++ drop l.field-iterator.at (fields_of l.row) ≡ fields_of l.row;
    }
