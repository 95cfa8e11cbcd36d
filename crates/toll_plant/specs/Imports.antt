-- The outcomes of the records of a file of actuals.
use Rattle.std.specs.Prelude.{◌≡◌, ◌≢◌, ◌+◌, ◌≤◌, ℕ, Bool, true, false, if◌then◌else◌, Option, Some, None, List, [], ◌∷◌, ◌++◌, flat_map, length, map, take, Result, Ok, Err, IfErr}
use Rattle.toll_plant.specs.Common.{AllByRecursion, list_any, Bytes, History, Verdict, IsLawful, Meaning, Content, KeepFault, Memory, Damaged, after_plant, IsValidCommand, PlantCmd}
use Rattle.toll_desk.specs.OfficeSteps.{IsPlantStep}
use Rattle.toll_desk.specs.Outcome.{HoldsFor}
use Rattle.toll_desk.specs.PlantStaged.{looks_at_two}
use Rattle.toll_desk.specs.Steps.{AreStepsFrom, Calls, IsKeepStep, StepKind}
use Rattle.toll_history.specs.Runs.{IsRun}
use Rattle.toll_plant.specs.Files.{Fields, HasActuals, command_in}
use Rattle.toll_plant.specs.Outcomes.{is_outcome_accepted, is_fault_outcome, judged_answer, record_outcome}
use Rattle.toll_plant.specs.declared.grouping.TheConstants.{GROUP_RECORDS}
use Rattle.toll_plant.specs.declared.outcome.Outcome.{Outcome}
use Rattle.toll_plant.specs.declared.outcome.Outcome.TheVariants.{BadRecord, Fault}
use Rattle.toll_plant.specs.declared.report.ImportLine.{ImportLine}
use Rattle.toll_plant.specs.declared.report.ImportReport.{ImportReport}

-- the commands of a file's records; None if a record gives no command
abbrev pub Commands : Type 0
Commands = List (Option PlantCmd)

-- the end of a group: its records have outcomes, or a fault ends the import
abbrev pub End : Type 0
End = Result (Unit {0}) KeepFault

-- the commands of these records; None if a record gives no command
abbrev pub commands_in : List Fields → Commands
commands_in records = map command_in records

-- the outcomes in these lines
abbrev pub outcomes_in : List ImportLine → List Outcome
outcomes_in lines = map (λ l. l.outcome) lines

-- The lines are numbered from this number on.
abbrev pub AreNumberedFrom : ℕ → List ImportLine → Type 0
AreNumberedFrom n [] = Unit {0}
AreNumberedFrom n (l ∷ lines) = (l.number ≡ n) × AreNumberedFrom (n + 1) lines

-- ---- over histories

-- Nothing follows an item that passes the test.
abbrev pub EndsAt : {X : Type 0} → (X → Bool) → List X → Type 0
EndsAt test [] = Unit {0}
EndsAt test (x ∷ xs) = (test x ≡ true → xs ≡ []) × EndsAt test xs

-- IsSo holds of the records that acted: all of these, or those up to the first fault.
pub record UpToFault (IsSo : Commands → Type 0) (commands : Commands) (outcomes : List Outcome) : Type 0 where
  pub acted : Commands
  pub rest : Commands
  pub all : acted ++ rest ≡ commands
  pub so : IsSo acted
  pub stops : EndsAt is_fault_outcome outcomes
  pub whole : list_any is_fault_outcome outcomes ≡ false → rest ≡ []

-- Over the old history, a record with this command has this outcome and leads to the new history. A command is a step of the plant, with a
-- verdict or a fault.
abbrev pub IsRecordStep : History → Option PlantCmd → Outcome → History → Type 0
IsRecordStep old None outcome new = (outcome ≡ BadRecord) × (new ≡ old)
IsRecordStep old (Some command) outcome new =
    (judged : Result Verdict KeepFault) × IsPlantStep old command (judged_answer judged) new × (outcome ≡ record_outcome (judged_answer judged))

-- Records with these commands have these outcomes one after another, up to a fault, and lead from the old history to the new one.
abbrev pub IsImport : History → Commands → List Outcome → History → Type 0
IsImport old commands outcomes new = UpToFault (λ acted. IsRun IsRecordStep old acted outcomes new) commands outcomes

-- the history after a record with this command that meets no fault
abbrev pub after_record : History → Option PlantCmd → History
after_record H None = H
after_record H (Some command) = after_plant H command

-- the history after records with these commands that meet no fault
abbrev pub after_records : History → Commands → History
after_records H [] = H
after_records H (command ∷ commands) = after_records (after_record H command) commands

-- A first part of the records leads to this history.
abbrev pub IsAfterFirst : History → Commands → History → Type 0
IsAfterFirst H commands G = (count : ℕ) × (G ≡ after_records H (take count commands))

-- ---- over a keep

-- From this history the records had these outcomes, and the keep holds what the import leaves.
pub record IsImportOf (holds : Content → Type 0) (H : History) (commands : Commands) (outcomes : List Outcome) : Type 0 where
  pub last : History
  pub imported : IsImport H commands outcomes last
  pub lawful : IsLawful last
  pub left : HoldsFor holds last

-- The record gives no command, or one whose changes can be staged.
abbrev pub CanBeStaged : Option PlantCmd → Type 0
CanBeStaged None = Unit {0}
CanBeStaged (Some command) = looks_at_two command ≡ true

-- The values of the record's command, if it gives one, are within their bounds.
abbrev pub HasValidValues : Option PlantCmd → Type 0
HasValidValues None = Unit {0}
HasValidValues (Some command) = IsValidCommand command

-- the outcome of the record that met a fault, if one did
abbrev pub last_outcome : End → List Outcome
last_outcome (Ok done) = []
last_outcome (Err fault) = Fault fault ∷ []

-- the outcomes before the first accepted record
abbrev pub before_accepted : List Outcome → List Outcome
before_accepted [] = []
before_accepted (o ∷ outcomes) = if is_outcome_accepted o then [] else o ∷ before_accepted outcomes

-- the outcomes if the changes of a group were not made: those before the first record that would have changed something, and the fault for
-- that record
abbrev pub refused_at : KeepFault → List Outcome → List Outcome
refused_at fault outcomes = before_accepted outcomes ++ Fault fault ∷ []

-- No record met a fault, except the last one if the group ended with that fault.
pub record EndWith (end : End) (reported : List Outcome) : Type 0 where
  pub calm : List Outcome
  pub calmly : list_any is_fault_outcome calm ≡ false
  pub said : reported ≡ calm ++ last_outcome end

-- The group may end like this after calls with this outcome. If all calls succeeded, there may have been no memory to decide a record.
abbrev pub IsEndAfter : Calls → End → Type 0
IsEndAfter None end = end ≡ Ok tt
IsEndAfter (Some (Ok done)) end = IfErr end (λ fault. fault ≡ Memory)
IsEndAfter (Some (Err fault)) end = end ≡ Err fault

-- The steps of groups of records. The records of a group are an import. A stop during the step leaves the rows from before, or those after a
-- first part of the records. Only an accepted record changes rows.
abbrev pub group_steps : StepKind Commands (List Outcome)
group_steps = record {
  step = IsImport;
  may_make = IsAfterFirst;
  calls = λ commands reported calls. (end : End) × EndWith end reported × IsEndAfter calls end;
  if_still = λ c commands reported P. list_any is_outcome_accepted reported ≡ false → P;
}

-- The records had these outcomes in groups for which Are holds, each no longer than a group may be. No group follows one that met a
-- fault. Without a fault, these records are left.
pub record InGroups (Are : List Commands → List (List Outcome) → Type 0) (commands : Commands) (outcomes : List Outcome) (left : Commands) : Type 0 where
  pub groups : List Commands
  pub reports : List (List Outcome)
  pub are : Are groups reports
  pub bounded : AllByRecursion (λ group. length group ≤ GROUP_RECORDS) groups
  pub stops : EndsAt (list_any is_fault_outcome) reports
  pub outcomes_are : flat_map (λ report. report) reports ≡ outcomes
  pub rest : Commands
  pub commands_are : flat_map (λ group. group) groups ++ rest ≡ commands
  pub whole : list_any is_fault_outcome outcomes ≡ false → rest ≡ left

module _ {K : Type 0} (meaning : Meaning K) where
  -- The records had these outcomes group by group, up to a fault, and changed the keep.
  abbrev pub AreRecordsServed : K → Commands → List Outcome → K → Type 0
  AreRecordsServed old commands reported new =
      InGroups (λ groups reports. IsRun (IsKeepStep meaning group_steps) old groups reports new) commands reported []

  -- From rows that were held, the records are steps of the office, group by group.
  abbrev pub AreRecordSteps : K → Content → History → Commands → List Outcome → K → Type 0
  AreRecordSteps old c H commands reported new =
      InGroups (λ groups reports. AreStepsFrom meaning IsImport IsAfterFirst old c H groups reports new) commands reported []

-- The outcome is no fault except Memory.
abbrev pub IsOpenOutcome : Outcome → Type 0
IsOpenOutcome outcome = (fault : KeepFault) → outcome ≡ Fault fault → fault ≡ Memory

-- The outcome reports no damage.
abbrev pub IsWholeOutcome : Outcome → Type 0
IsWholeOutcome outcome = outcome ≢ Fault Damaged

-- P holds of the commands of the file's records and of their outcomes.
abbrev pub OfRecords : Bytes → (Commands → List Outcome → Type 0) → ImportReport → Type 0
OfRecords file P report = (records : List Fields) × HasActuals file records × P (commands_in records) (outcomes_in report.lines.items)

-- The records of the file are steps one after another over the keep.
abbrev pub AreStepsOf : {K : Type 0} → Meaning K → K → K → Content → History → Bytes → ImportReport → Type 0
AreStepsOf meaning old new c H file = OfRecords file (λ commands outcomes. AreRecordSteps meaning old c H commands outcomes new)

-- IsSo holds of each line's outcome.
abbrev pub AllOutcomesAre : (Outcome → Type 0) → ImportReport → Type 0
AllOutcomesAre IsSo report = AllByRecursion IsSo (outcomes_in report.lines.items)
