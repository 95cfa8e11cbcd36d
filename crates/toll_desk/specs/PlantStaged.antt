-- Commands of the plant of which the changes are held back.
use Rattle.std.specs.Prelude.{◌≡◌, ◌++◌, ◌⊎◌, Bool, true, false, Option, Some, None, List, [], Result, Ok, Err, IfOk}
use Rattle.toll_desk.specs.Common.{Change, History, IsLawful, Refused, Verdict, Content, Meaning, OverContent, KeepFault, Memory, Judged, PlantCmd, PlantAnswer, recorded_command, concerned}
use Rattle.toll_answers.specs.declared.plant_cmd.PlantCmd.TheVariants as cmd
use Rattle.toll_desk.specs.Representing.{Represents}
use Rattle.toll_base.specs.Words.{is_some_where}
use Rattle.toll_keep.specs.StagedChanges.{IsOver, OverLaid, ReadsThrough}
use Rattle.toll_keep.specs.declared.staged_changes.StagedChanges.{StagedChanges}
use Rattle.toll_desk.specs.Translations.{is_answer_accepted, meaning_of_plant_reply}
use Rattle.toll_desk.specs.Clauses.{IsPlantPlanned}
use Rattle.toll_desk.specs.OfficeSteps.{IsPlantStep}
use Rattle.toll_desk.specs.Plans.{ChangesLeadTo}
use Rattle.toll_desk.specs.Reads.{AreBoth}
use Rattle.toll_desk.specs.Steps.{Calls, calls_of}
use Rattle.toll_desk.specs.Subjects.{is_shared}
use Rattle.toll_desk.specs.declared.deciding.Both.{Both}
use Rattle.toll_desk.specs.declared.plant_cmd.PlantReply.{PlantReply}
use Rattle.toll_desk.specs.declared.plan.Plan.{Plan}

-- it is decided over its owner's rows and HOUSE's, or couldn't be read
abbrev pub looks_at_two : PlantCmd → Bool
looks_at_two (cmd.Unread why) = true
looks_at_two q = is_some_where (λ c. is_shared c.action) (recorded_command q)

-- over any content that has these rows of the command's owner and of HOUSE, the plan is the command's
abbrev pub IsPlannedOn : Option Both → PlantCmd → Plan PlantReply → Type 0
IsPlannedOn both q plan = (c : Content) (H : History) → AreBoth c (concerned q) both → Represents c H → IsLawful H → IsPlantPlanned c H q plan

-- ---- what is held back

-- the changes of the plan are held back and its reply is given, or there was no memory for it and no more is held
abbrev pub IsStagedAs : (before after : StagedChanges) → Plan PlantReply → PlantReply → Type 0
IsStagedAs before after plan reply =
    ((meaning_of_plant_reply reply ≡ meaning_of_plant_reply plan.reply) × (after.changes.items ≡ before.changes.items ++ plan.changes.items))
    ⊎ ((meaning_of_plant_reply reply ≡ Err Memory) × (after.changes.items ≡ before.changes.items))

-- the reply is a verdict, or the fault that memory ran out
abbrev pub IsVerdictOrMemory : Result PlantAnswer KeepFault → Type 0
IsVerdictOrMemory (Ok reported) = (v : Verdict) × (reported ≡ Judged v)
IsVerdictOrMemory (Err fault) = fault ≡ Memory

-- ---- the step

-- the answer, or a fault: the rows couldn't be read, or memory ran out
abbrev pub staged_answer : Result PlantReply KeepFault → Result PlantAnswer KeepFault
staged_answer (Ok reply) = meaning_of_plant_reply reply
staged_answer (Err fault) = Err fault

-- A command that couldn't be read is refused, and the keep is not called. After any other the calls of the keep had this result.
abbrev pub StagedCalls : PlantCmd → Result PlantReply KeepFault → Calls → Type 0
StagedCalls (cmd.Unread why) result calls = (staged_answer result ≡ Ok (Judged (Refused why))) × (calls ≡ None)
StagedCalls _ result calls = calls ≡ calls_of result

-- The keep was read with the staged changes, and the calls had this outcome. If it was not called, nothing is different.
abbrev pub AfterReads : {K : Type 0} → Meaning K → (old new : K × StagedChanges) → Calls → Type 0
AfterReads meaning old new None = new ≡ old
AfterReads meaning old new (Some outcome) = ReadsThrough meaning old.0 new.0 old.1 outcome

-- From each lawful history that the content stands for there is a step of the plant, and the changes lead to the history after it.
abbrev pub IsStepWith : Content → PlantCmd → Result PlantAnswer KeepFault → List Change → Type 0
IsStepWith c command answer changes = (H : History) → Represents c H → IsLawful H
    → (G : History) × IsPlantStep H command answer G × IsLawful G × ChangesLeadTo c changes G

-- The command is one step over what a keep holds with the changes staged before it, and its own changes are staged behind them.
pub record IsPlantStaged {K : Type 0} (meaning : Meaning K) (old : K × StagedChanges) (command : PlantCmd)
    (result : Result PlantReply KeepFault) (new : K × StagedChanges) : Type 0 where
  pub outcome : Calls
  pub calls : StagedCalls command result outcome
  pub reads : AfterReads meaning old new outcome
  pub judged : IfOk result (λ reply. IsVerdictOrMemory (meaning_of_plant_reply reply))
  pub own : List Change
  pub held : new.1.changes.items ≡ old.1.changes.items ++ own
  -- Only an accepted command has changes.
  pub still : is_answer_accepted (staged_answer result) ≡ false → own ≡ []
  pub laid : OverContent meaning old.0 new.0 (λ c. IsOver c old.1 → IsOver c new.1)
  pub over : OverLaid meaning old.0 new.0 old.1 (λ c. IsStepWith c command (staged_answer result) own)
