-- Exit statuses.
use Rattle.std.specs.Prelude.{ℕ, Bool, true, false, List, if◌then◌else◌}
use Rattle.toll_programs.specs.Common.{list_any, PlantReply}
use Rattle.toll_desk.specs.declared.plant_cmd.PlantReply.TheVariants as plant
use Rattle.toll_plant.specs.Outcomes.{is_fault_outcome}
use Rattle.toll_plant.specs.declared.outcome.Outcome.{Outcome}
use Rattle.toll_plant.specs.declared.outcome.Outcome.TheVariants as came
use Rattle.toll_plant.specs.declared.report.ImportLine.{ImportLine}
use Rattle.toll_programs.specs.declared.scripts.ScriptEnd.{ScriptEnd}
use Rattle.toll_programs.specs.declared.scripts.ScriptEnd.TheVariants as script
use Rattle.toll_programs.specs.declared.status.Status.{Status}
use Rattle.toll_programs.specs.declared.status.Status.TheVariants.{Done, Refused, Usage, Failed}

-- the exit status's number
abbrev pub exit_code : Status → ℕ
exit_code Done = 0
exit_code Refused = 1
exit_code Usage = 2
exit_code Failed = 3

-- the status after a reply to the plant
abbrev pub status_after_reply : PlantReply → Status
status_after_reply (plant.Refused why) = Refused
status_after_reply (plant.Fault fault) = Failed
status_after_reply _ = Done

-- whether the record was refused or is bad
abbrev pub is_turned_away : Outcome → Bool
is_turned_away (came.Refused why) = true
is_turned_away came.BadRecord = true
is_turned_away _ = false

-- the status after an import with these lines: failed if one reports a fault, otherwise refused if one is refused or bad
abbrev pub status_after_lines : List ImportLine → Status
status_after_lines lines =
    if list_any (λ l. is_fault_outcome l.outcome) lines then Failed
    else (if list_any (λ l. is_turned_away l.outcome) lines then Refused else Done)

-- the status after a script
abbrev pub status_after_script : ScriptEnd → Status
status_after_script script.Done = Done
status_after_script (script.BadLine number) = Usage
status_after_script script.TooLong = Usage
status_after_script script.Memory = Failed
status_after_script script.ReadFault = Failed
status_after_script script.WriteFault = Failed
