-- What is answered at the two listeners of a server, over a keep.
use Rattle.std.specs.Prelude.{◌≡◌, ◌≢◌, ◌⊎◌, ◌==◌, ℕ, Bool, true, false, not, List, [], Option, Ok, Err, Contains}
use Rattle.std.specs.Global.{Vec}
use Rattle.toll_service.specs.Common.{Bytes, Meaning, IsCall, IsResponse, outcomes_in, Listener, Owners, Plant, Poll, Ready, Pending, AreNumberedFrom, IsResumed, IsBegun, ImportState, ImportFault, ImportReport, exit_code, IsImportPrintout, Printout, Failed, Usage, out_bytes}
use Rattle.toll_keep.specs.declared.keep_fault.KeepFault.{KeepFault}
use Rattle.toll_keep.specs.declared.keep_fault.KeepFault.TheVariants.{Memory}
use Rattle.toll_plant.specs.ImportFaults.{IsRefusedFor}
use Rattle.toll_plant.specs.Table.{command_lines}
use Rattle.toll_plant.specs.Usages.{usage_text}
use Rattle.toll_plant.specs.declared.outcome.Outcome.TheVariants.{Fault}
use Rattle.toll_plant.specs.declared.report.ImportLine.{ImportLine}
use Rattle.toll_programs.specs.Done.{IsCommandDone}
use Rattle.toll_programs.specs.Outputs.{IsStoppedImportPrintout, on_error, refused_file}
use Rattle.toll_programs.specs.Printing.{fault_line}
use Rattle.toll_service.specs.Unwritten.{unwritten}
use Rattle.toll_service.specs.Requested.{Requested, RunCommand, ImportFile, UnknownWords, requested_by_call}
use Rattle.toll_wire.specs.Steps.{IsAnswered, IsFaultMet}
use Rattle.toll_wire.specs.declared.outgoing.Out.{Out}
use Rattle.toll_wire.specs.declared.outgoing.Out.TheVariants.{Text, Unavailable}

-- ---- what is printed

-- the usage of these words' command, or of all commands
abbrev pub usage_printout : List Bytes → Printout
usage_printout words = on_error Usage (usage_text command_lines words)

-- The frame carries this printout.
abbrev pub IsResponseOf : (reported : Bytes) → Printout → Type 0
IsResponseOf reported p = IsResponse reported p.status p.output p.error

-- The frame carries this printout, which is that of a failure.
abbrev pub IsFailureResponse : Printout → (reported : Bytes) → Type 0
IsFailureResponse p reported = IsResponseOf reported p × (p.status ≡ exit_code Failed)

-- The frame carries this printout, and the keep stays usable unless the status is that of a failure.
abbrev pub IsFrameResponse : (keep_usable : Bool) → Printout → (reported : Bytes) → Type 0
IsFrameResponse keep_usable p reported = IsResponseOf reported p × (keep_usable ≡ not (p.status == exit_code Failed))

-- IsSo holds of the printout. If there is no memory for so much, it holds of what is left of it when the program can write nothing.
abbrev pub IfRoom : (Printout → Type 0) → Printout → Type 0
IfRoom IsSo p = IsSo p ⊎ IsSo (unwritten p)

abbrev pub IsFrameResponseIfRoom : (keep_usable : Bool) → Printout → (reported : Bytes) → Type 0
IsFrameResponseIfRoom keep_usable p reported = IfRoom (λ left. IsFrameResponse keep_usable left reported) p

-- The turn ends with a response for which IsSo holds, and leaves no import.
abbrev pub IsReadyWith : Poll ImportState → (Bytes → Type 0) → Type 0
IsReadyWith (Ready reported) IsSo = IsSo reported.items
IsReadyWith (Pending import) IsSo = ⊥

-- The response to the plant reports this fault of the keep, and nothing else.
abbrev pub ReportsFault : KeepFault → Poll ImportState → Type 0
ReportsFault fault poll = IsReadyWith poll (λ reported. IsResponse reported (exit_code Failed) [] (fault_line fault))

-- ---- an import

-- The import of a file begins, or the response reports why it doesn't.
abbrev pub BeginsOrRefuses : (file : Bytes) → Poll ImportState → (keep_usable : Bool) → Type 0
BeginsOrRefuses file (Pending import) keep_usable = IsBegun file import × (keep_usable ≡ true)
BeginsOrRefuses file (Ready reported) keep_usable = (fault : ImportFault) × IsRefusedFor file fault × IsFrameResponseIfRoom keep_usable (refused_file fault) reported.items

-- The frame asks for the import of a file, and all of its records are left.
pub record BeginsImport (requested : Bytes) (import : ImportState) : Type 0 where
  pub words : List Bytes
  pub sent : Option Bytes
  pub asks : IsCall requested words sent
  pub file : Bytes
  pub wants : requested_by_call words sent ≡ ImportFile file
  pub begun : IsBegun file import

-- The response is the report of an import with these lines. The keep stays usable unless the status is that of a failure.
pub record IsReportResponse (lines : List ImportLine) (reported : Bytes) (keep_usable : Bool) : Type 0 where
  pub report : ImportReport
  pub its : report.lines.items ≡ lines
  pub numbered : AreNumberedFrom 1 lines
  pub printout : Printout
  pub printed : IsImportPrintout (Ok report) printout
  pub telling : IsFrameResponseIfRoom keep_usable printout reported

-- The response reports the outcomes of the records so far and why no more act, with the exit status of a failure.
abbrev pub IsImportAborted : List ImportLine → (why reported : Bytes) → (keep_usable : Bool) → Type 0
IsImportAborted lines why reported keep_usable = (p : Printout) × IsStoppedImportPrintout lines why p × IsFrameResponseIfRoom keep_usable p reported

-- If records are left, the import goes on; otherwise its report is the response.
abbrev pub ImportYields : ImportState → Poll ImportState → (keep_usable : Bool) → Type 0
ImportYields import (Pending task) keep_usable = (import.left ≢ []) × (task ≡ import) × (keep_usable ≡ true)
ImportYields import (Ready reported) keep_usable = (import.left ≡ []) × IsReportResponse import.lines reported.items keep_usable

-- ---- the two listeners

-- whether the reply has a text: each reply but 503 has one
abbrev pub has_text : Out → Bool
has_text (Text text) = true
has_text Unavailable = false

-- The bytes ask nothing of the office: they are no frame, or a frame that was cut.
abbrev pub HasNoCall : Bytes → Type 0
HasNoCall requested = (words : List Bytes) (file : Option Bytes) → ¬ (IsCall requested words file)

module _ {K : Type 0} (meaning : Meaning K) (old new : K) where
  -- The request was answered over the keep, and the response is that whole answer. The keep stays usable unless the reply is 503.
  pub record IsOwnerServed (requested reported : Bytes) (keep_usable : Bool) : Type 0 where
    -- the request, as an event has it
    pub request : Vec ℕ
    pub same : request.items ≡ requested
    pub out : Out
    pub answered : IsAnswered meaning old new requested out
    pub tells : reported ≡ out_bytes out
    pub goes : keep_usable ≡ has_text out

  -- The request of the plant was done, once and nothing else, and the printout reports it. For an import, the printout only reports why
  -- there is none.
  abbrev pub IsRequestedDone : Requested → Printout → Type 0
  IsRequestedDone (RunCommand command) p = IsCommandDone meaning old new command p
  IsRequestedDone (ImportFile file) p = (new ≡ old) × ((fault : ImportFault) × IsRefusedFor file fault × IsImportPrintout (Err fault) p)
  IsRequestedDone (UnknownWords words) p = (new ≡ old) × (p ≡ usage_printout words)

  -- The request in the frame was done. The response has what the program would have printed, with its exit status.
  pub record IsFrameServed (requested reported : Bytes) (keep_usable : Bool) : Type 0 where
    pub words : List Bytes
    pub file : Option Bytes
    pub asks : IsCall requested words file
    pub printout : Printout
    pub done : IsRequestedDone (requested_by_call words file) printout
    pub telling : IsFrameResponseIfRoom keep_usable printout reported

  -- The input at the listener was answered over the keep, or an import begins. Bytes that ask nothing of the plant's listener do nothing
  -- and get an empty response.
  abbrev pub IsInputServed : Listener → (requested : Bytes) → Poll ImportState → (keep_usable : Bool) → Type 0
  IsInputServed Owners requested (Ready reported) keep_usable = IsOwnerServed requested reported.items keep_usable
  IsInputServed Owners requested (Pending import) keep_usable = ⊥
  IsInputServed Plant requested (Ready reported) keep_usable =
      IsFrameServed requested reported.items keep_usable ⊎ (HasNoCall requested × (new ≡ old) × (reported.items ≡ []) × (keep_usable ≡ true))
  IsInputServed Plant requested (Pending import) keep_usable = BeginsImport requested import × (new ≡ old) × (keep_usable ≡ true)

  -- The same; or there was no memory, nothing was done, and the response is empty.
  abbrev pub IsServedIfRoom : Listener → (requested : Bytes) → Poll ImportState → Type 0
  IsServedIfRoom listener requested poll = ((keep_usable : Bool) × IsInputServed listener requested poll keep_usable) ⊎ ((new ≡ old) × IsReadyWith poll (λ reported. reported ≡ []))

  -- A turn met this fault. For an owner that is a fault of a call of the keep, or a lack of memory; for the plant it is the fault that its
  -- response reports, or a lack of memory.
  abbrev pub IsTurnFault : Listener → Poll ImportState → KeepFault → Type 0
  IsTurnFault Owners poll fault = IsFaultMet meaning old new fault
  IsTurnFault Plant poll fault = (fault ≡ Memory) ⊎ ReportsFault fault poll

  -- A record of the import met this fault, or there was no memory.
  abbrev pub IsImportFault : ImportState → KeepFault → Type 0
  IsImportFault was fault = (fault ≡ Memory)
      ⊎ ((now : ImportState) × IsResumed meaning old new was now × Contains (outcomes_in now.lines) (Fault fault))

  -- The import went on over the keep, with this outcome.
  pub record ImportResumed (was : ImportState) (poll : Poll ImportState) (keep_usable : Bool) : Type 0 where
    pub now : ImportState
    pub resumed : IsResumed meaning old new was now
    pub comes : ImportYields now poll keep_usable
