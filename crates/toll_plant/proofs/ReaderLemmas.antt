-- A flexible reader refuses no record.
use Rattle.std.proofs.Common.{◌≡◌, ℕ, List, true, false, Option, Some, Result, Ok, Err}
use Rattle.std.specs.Prelude.{IfErr}
use Rattle.csv.specs.Reading.{ExplainsRead, RowStep, error_kind, is_flexible}
use Rattle.csv.specs.Records.{Row}
use Rattle.csv.specs.declared.error.Error.{Error}
use Rattle.csv.specs.declared.error.ErrorKind.{ErrorKind}
use Rattle.csv.specs.declared.error.ErrorKind.TheVariants as csv
use Rattle.csv.specs.declared.reader.Reader.{Reader}
use Rattle.toll_plant.specs.ImportFaults.{IsOfReader}

of_reader : {R : Type 0} (rem : R → Option (List ℕ)) (old new : Reader R) (why : ErrorKind) → is_flexible old ≡ true → ExplainsRead rem old new false why → IsOfReader why
of_reader rem old new csv.OutOfMemory flexible explained = tt
of_reader rem old new (csv.Io why) flexible explained = tt
of_reader rem old new (csv.UnequalLengths place expected found) flexible explained =
    let never : true ≡ false = cc (flexible, explained.0) in absurd (cc never)
of_reader rem old new (csv.Utf8 place why) flexible explained = absurd (cc explained.0)
of_reader rem old new (csv.Serialize text) flexible explained = absurd explained
of_reader rem old new (csv.Deserialize place why) flexible explained = absurd explained

pub no_refusal : {R : Type 0} (rem : R → Option (List ℕ)) (old new : Reader R) (left : ℕ) (row : Result Row Error) → is_flexible old ≡ true → RowStep rem old new left (Some row)
    → IfErr row (λ why. IsOfReader (error_kind why))
no_refusal rem old new left (Ok given) flexible step = tt
no_refusal rem old new left (Err why) flexible step = of_reader rem old new (error_kind why) flexible step
