-- The inputs of a server as events of the office.
use Rattle.std.specs.Prelude.{◌≡◌, ◌⊎◌, Bool, if◌then◌else◌, List, [], ◌∷◌, ◌++◌, drop, flat_map, map, take, Option, Some, None, Result, Ok, Err}
use Rattle.std.specs.List.{AllByRecursion, list_any}
use Rattle.toll_service.specs.Common.{Bytes, IsCall, Input, Request, Task, Turn, Listener, Owners, Plant, Poll, Ready, Pending, AreNumberedFrom, commands_in, outcomes_in, ImportState, ImportFault, ImportReport, IsImportPrintout, IsReplyPrintout, Printout, out_bytes, Answer, Event}
use Rattle.toll_desk.specs.Translations.{meaning_of_plant_reply}
use Rattle.toll_plant.specs.Files.{Fields, HasActuals}
use Rattle.toll_plant.specs.Imports.{Commands, UpToFault}
use Rattle.toll_plant.specs.Outcomes.{is_fault_outcome, record_outcome}
use Rattle.toll_plant.specs.declared.grouping.TheConstants.{GROUP_RECORDS}
use Rattle.toll_plant.specs.declared.outcome.Outcome.{Outcome}
use Rattle.toll_plant.specs.declared.outcome.Outcome.TheVariants.{BadRecord}
use Rattle.toll_service.specs.Listeners.{BeginsImport, IfRoom, ImportYields, IsResponseOf, usage_printout}
use Rattle.toll_service.specs.Requested.{Requested, RunCommand, ImportFile, UnknownWords, requested_by_call}
use Rattle.toll_wire.specs.declared.event.Answer.TheVariants.{Bytes as Reply, Plant as CommandReply}
use Rattle.toll_wire.specs.declared.event.Event.TheVariants.{Owner, Plant as Command}

-- Each record that gives a command is an event, and its outcome reports that event's answer. A record without a command is no event.
abbrev pub AreRecordEvents : Commands → List Outcome → List Event → List Answer → Type 0
AreRecordEvents [] [] [] [] = Unit {0}
AreRecordEvents (None ∷ records) (o ∷ outcomes) events answers = (o ≡ BadRecord) × AreRecordEvents records outcomes events answers
AreRecordEvents (Some c ∷ records) (o ∷ outcomes) (Command d ∷ events) (CommandReply reply ∷ answers) =
    (d ≡ c) × (o ≡ record_outcome (meaning_of_plant_reply reply)) × AreRecordEvents records outcomes events answers
AreRecordEvents _ _ _ _ = ⊥

-- The records that acted, up to the first fault, are these events.
abbrev pub AreActedEvents : Commands → List Outcome → List Event → List Answer → Type 0
AreActedEvents commands outcomes events answers = UpToFault (λ acted. AreRecordEvents acted outcomes events answers) commands outcomes

-- The events of an import are those of its records. A file that was not imported has none.
abbrev pub AreImportEvents : Bytes → Result ImportReport ImportFault → List Event → List Answer → Type 0
AreImportEvents file (Ok report) events answers =
    (records : List Fields) × HasActuals file records × AreNumberedFrom 1 report.lines.items
    × AreActedEvents (commands_in records) (outcomes_in report.lines.items) events answers
AreImportEvents file (Err fault) events answers = (events ≡ []) × (answers ≡ [])

-- The plant's request is these events, and the printout reports their answers.
abbrev pub IsPrintoutOf : Requested → List Event → List Answer → Printout → Type 0
IsPrintoutOf (RunCommand command) (Command c ∷ []) (CommandReply reply ∷ []) p = (c ≡ command) × IsReplyPrintout reply p
IsPrintoutOf (ImportFile file) events answers p = (imported : Result ImportReport ImportFault) × AreImportEvents file imported events answers × IsImportPrintout imported p
IsPrintoutOf (UnknownWords words) [] [] p = p ≡ usage_printout words
IsPrintoutOf _ _ _ p = ⊥

-- A frame of the plant asks for these events, and its response has what is printed of their answers, as far as there is memory.
pub record IsCallServed (requested reported : Bytes) (events : List Event) (answers : List Answer) : Type 0 where
  pub words : List Bytes
  pub file : Option Bytes
  pub asks : IsCall requested words file
  pub printout : Printout
  pub printed : IsPrintoutOf (requested_by_call words file) events answers printout
  pub tells : IfRoom (IsResponseOf reported) printout

-- A listener's bytes are these events, and the response reports their answers. Bytes without an event get an empty response.
abbrev pub AreEventsOf : Listener → (requested reported : Bytes) → List Event → List Answer → Type 0
AreEventsOf Owners requested reported (Owner bytes ∷ []) (Reply out ∷ []) = (bytes.items ≡ requested) × (reported ≡ out_bytes out)
AreEventsOf Owners requested reported [] [] = reported ≡ []
AreEventsOf Owners requested reported _ _ = ⊥
AreEventsOf Plant requested reported events answers = IsCallServed requested reported events answers ⊎ ((reported ≡ []) × (events ≡ []) × (answers ≡ []))

-- ---- turns

-- The records of an import's next group are these events. Their outcomes, which report the answers, are added to those before. The turn's
-- outcome is the import that is left, or its report.
pub record AreGroupEvents (was : ImportState) (poll : Poll ImportState) (events : List Event) (answers : List Answer) : Type 0 where
  pub now : ImportState
  pub reported : List Outcome
  pub are : AreActedEvents (take GROUP_RECORDS was.left) reported events answers
  pub said : outcomes_in now.lines ≡ outcomes_in was.lines ++ reported
  pub left : now.left ≡ (if list_any is_fault_outcome reported then [] else drop GROUP_RECORDS was.left)
  pub keep_usable : Bool
  pub comes : ImportYields now poll keep_usable

-- The input of a turn is these events, with these answers and this outcome. The beginning of an import is no event.
abbrev pub AreTurnEvents : Input ImportState → Poll ImportState → List Event → List Answer → Type 0
AreTurnEvents (Request listener requested) (Ready reported) events answers = AreEventsOf listener requested reported.items events answers
AreTurnEvents (Request Owners requested) (Pending import) events answers = ⊥
AreTurnEvents (Request Plant requested) (Pending import) events answers = BeginsImport requested import × (events ≡ []) × (answers ≡ [])
AreTurnEvents (Task import) poll events answers = AreGroupEvents import poll events answers

-- a turn, with its events and their answers
pub record ServedTurn : Type 0 where
  pub turn : Turn ImportState
  pub events : List Event
  pub answers : List Answer

-- the turns of these parts, and all of their events and answers, in order
abbrev pub turns_of : List ServedTurn → List (Turn ImportState)
turns_of parts = map (λ p. p.turn) parts

abbrev pub events_of : List ServedTurn → List Event
events_of parts = flat_map (λ p. p.events) parts

abbrev pub answers_of : List ServedTurn → List Answer
answers_of parts = flat_map (λ p. p.answers) parts

-- Each turn is its events with their answers.
abbrev pub AreServedTurns : List ServedTurn → Type 0
AreServedTurns parts = AllByRecursion (λ p. AreTurnEvents p.turn.input p.turn.poll p.events p.answers) parts

-- These turns, one after another, are these events with these answers.
pub record AreAllEventsOf (turns : List (Turn ImportState)) (events : List Event) (answers : List Answer) : Type 0 where
  pub parts : List ServedTurn
  pub are : AreServedTurns parts
  pub turns_are : turns_of parts ≡ turns
  pub events_are : events_of parts ≡ events
  pub answers_are : answers_of parts ≡ answers
