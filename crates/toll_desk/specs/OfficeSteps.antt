-- The steps of the plant's commands and questions, and of owners' requests.
use Rattle.std.specs.Prelude.{◌≡◌, ◌⊎◌, false, None, Some, Result, Ok, Err}
use Rattle.toll_desk.specs.Common.{Bytes, Damaged, History, IsPlantAnswer, IsReply, Judged, KeepFault, OwnerReply, PlantAnswer, PlantCmd, Refused, Request, after_plant, after_reply}
use Rattle.toll_answers.specs.declared.plant_cmd.PlantCmd.TheVariants as cmd
use Rattle.toll_desk.specs.Clauses.{IfUnchanging, OverSlice}
use Rattle.toll_desk.specs.Steps.{Calls, IsAnsweredStep, StepKind, answered_steps, calls_of}
use Rattle.toll_desk.specs.Translations.{is_answer_accepted}

-- the plant's command or question is answered, or meets a fault
abbrev pub IsPlantStep : History → PlantCmd → Result PlantAnswer KeepFault → History → Type 0
IsPlantStep = IsAnsweredStep IsPlantAnswer after_plant

-- A command that couldn't be read is refused, and the keep is not called. A recall that finds a lot without a row is Damaged after calls that
-- all succeeded.
abbrev pub PlantCalls : PlantCmd → Result PlantAnswer KeepFault → Calls → Type 0
PlantCalls (cmd.Unread why) outcome calls = (outcome ≡ Ok (Judged (Refused why))) × (calls ≡ None)
PlantCalls (cmd.Recall lot) outcome calls = (calls ≡ calls_of outcome) ⊎ ((outcome ≡ Err Damaged) × (calls ≡ Some (Ok tt)))
PlantCalls _ outcome calls = calls ≡ calls_of outcome

-- Only an accepted command of the plant changes rows.
abbrev pub plant_steps : StepKind PlantCmd (Result PlantAnswer KeepFault)
plant_steps = answered_steps IsPlantAnswer after_plant PlantCalls (λ c command outcome P. is_answer_accepted outcome ≡ false → P)

-- the steps of requests that claim this owner with this key
abbrev pub owner_steps : (owner key : Bytes) → StepKind Request (Result OwnerReply KeepFault)
owner_steps owner key =
    answered_steps (IsReply owner key) (after_reply owner key) (λ request outcome calls. calls ≡ calls_of outcome) (λ c. IfUnchanging (OverSlice (c.rows owner)))
