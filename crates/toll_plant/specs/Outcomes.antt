-- The outcome of a record of a file of actuals.
use Rattle.std.specs.Prelude.{Bool, true, false, Result, Ok, Err}
use Rattle.toll_plant.specs.Common.{Verdict, Accepted, Repeated, Refused, KeepFault, Damaged, PlantAnswer, Judged, Shows}
use Rattle.toll_plant.specs.declared.outcome.Outcome.{Outcome}
use Rattle.toll_plant.specs.declared.outcome.Outcome.TheVariants as came

-- the outcome of an actual with this verdict
abbrev pub outcome_of_verdict : Verdict → Outcome
outcome_of_verdict Accepted = came.Accepted
outcome_of_verdict Repeated = came.Repeated
outcome_of_verdict (Refused why) = came.Refused why

-- the outcome of a record with this answer or fault
abbrev pub record_outcome : Result PlantAnswer KeepFault → Outcome
record_outcome (Ok (Judged verdict)) = outcome_of_verdict verdict
record_outcome (Ok (Shows text)) = came.Fault Damaged
record_outcome (Err fault) = came.Fault fault

-- the answer with this verdict, or the fault
abbrev pub judged_answer : Result Verdict KeepFault → Result PlantAnswer KeepFault
judged_answer (Ok verdict) = Ok (Judged verdict)
judged_answer (Err fault) = Err fault

-- whether the outcome is a fault, after which no record acts
abbrev pub is_fault_outcome : Outcome → Bool
is_fault_outcome (came.Fault fault) = true
is_fault_outcome _ = false

-- whether the record changed something
abbrev pub is_outcome_accepted : Outcome → Bool
is_outcome_accepted came.Accepted = true
is_outcome_accepted _ = false
