-- The records of an imported file are events of a run.
use Rattle.std.proofs.Common.{◌≡◌, List, [], ◌∷◌, ◌++◌, Some, None, Ok, Err, refl, subst}
use Rattle.toll_service.proofs.Common.{PlantCmd, PlantReply, History, record_outcome, Outcome, Answer, Event}
use Rattle.toll_desk.specs.Translations.{meaning_of_plant_reply}
use Rattle.toll_desk.specs.OfficeSteps.{IsPlantStep}
use Rattle.toll_desk.specs.declared.plant_cmd.PlantReply.TheVariants as plant
use Rattle.toll_history.specs.Runs.{IsRun}
use Rattle.toll_plant.specs.Common.{Accepted, Repeated, Refused}
use Rattle.toll_plant.specs.Imports.{Commands, IsRecordStep}
use Rattle.toll_service.specs.Events.{AreRecordEvents}
use Rattle.toll_wire.specs.OfficeRuns.{IsStep}
use Rattle.toll_wire.specs.declared.event.Answer.TheVariants.{Plant as CommandReply}
use Rattle.toll_wire.specs.declared.event.Event.TheVariants.{Plant as Command}

-- Records that follow other records.
pub events_then : (acted later : Commands) (reported more : List Outcome) (events others : List Event) (answers behind : List Answer) → AreRecordEvents acted reported events answers → AreRecordEvents later more others behind
    → AreRecordEvents (acted ++ later) (reported ++ more) (events ++ others) (answers ++ behind)
events_then [] later [] more [] others [] behind first then = then
events_then (None ∷ acted) later (o ∷ reported) more events others answers behind (bad, rest) then = (bad, events_then acted later reported more events others answers behind rest then)
events_then (Some c ∷ acted) later (o ∷ reported) more (Command d ∷ events) others (CommandReply reply ∷ answers) behind (same, is, rest) then =
    (same, is, events_then acted later reported more events others answers behind rest then)
events_then acted later reported more events others answers behind first then = absurd first

-- A record with a command is a step of the office, and its outcome reports the reply.
record_event : (old new : History) (c : PlantCmd) (o : Outcome) → IsRecordStep old (Some c) o new → (reply : PlantReply) × (o ≡ record_outcome (meaning_of_plant_reply reply)) × IsPlantStep old c (meaning_of_plant_reply reply) new
record_event old new c o (Ok Accepted, step, is) = (plant.Accepted, is, step)
record_event old new c o (Ok Repeated, step, is) = (plant.Repeated, is, step)
record_event old new c o (Ok (Refused why), step, is) = (plant.Refused why, is, step)
record_event old new c o (Err fault, step, is) = (plant.Fault fault, is, step)

-- The events of records, as a run.
pub record RecordsRun (H last : History) (acted : Commands) (outcomes : List Outcome) : Type 0 where
  pub events : List Event
  pub answers : List Answer
  pub are : AreRecordEvents acted outcomes events answers
  pub run : IsRun IsStep H events answers last

pub records_run : (H last : History) (acted : Commands) (outcomes : List Outcome) → IsRun IsRecordStep H acted outcomes last → RecordsRun H last acted outcomes
records_run H last [] [] run = record { events = []; answers = []; are = tt; run = run }
records_run H last (None ∷ acted) (o ∷ outcomes) (middle, (bad, same), run) =
    let rest = records_run middle last acted outcomes run in
    record { events = rest.events; answers = rest.answers; are = (bad, rest.are); run = subst (λ F. IsRun IsStep F rest.events rest.answers last) same rest.run }
records_run H last (Some c ∷ acted) (o ∷ outcomes) (middle, step, run) =
    let (reply, is, one) = record_event H middle c o step in
    let rest = records_run middle last acted outcomes run in
    record { events = Command c ∷ rest.events; answers = CommandReply reply ∷ rest.answers; are = (refl, is, rest.are); run = (middle, one, rest.run) }
records_run H last acted outcomes run = absurd run
