-- The outcome of a turn of the plant, which has a printout if there is memory for it.
use Rattle.std.proofs.Common.{◌≡◌, ◌⊎◌, Bool, List, [], Contains, Option, None, Some, Ok, refl, sym, subst, inl, inr}
use Rattle.std.specs.Prelude.{IfSome}
use Rattle.toll_keep.specs.declared.keep_fault.KeepFault.{KeepFault}
use Rattle.toll_keep.specs.declared.keep_fault.KeepFault.TheVariants.{Memory}
use Rattle.toll_plant.specs.declared.outcome.Outcome.TheVariants.{Fault}
use Rattle.toll_service.proofs.Common.{Bytes, Meaning, IsCall, AreNumberedFrom, outcomes_in, ImportLine, IsImportPrintout, Printout, Plant, Poll, Ready, Pending, ImportState}
use Rattle.toll_plant.specs.ImportStates.{IsResumed}
use Rattle.toll_plant.specs.declared.report.ImportReport.{ImportReport}
use Rattle.toll_programs.specs.Outputs.{IsMetByImport, IsStoppedImportPrintout, on_error, refused_file}
use Rattle.toll_programs.specs.Printing.{fault_line}
use Rattle.toll_programs.specs.declared.status.Status.TheVariants.{Failed}
use Rattle.toll_service.specs.Listeners.{BeginsOrRefuses, ImportYields, IsRequestedDone, IsImportAborted, IsImportFault, IsReadyWith, IsInputServed, IsFailureResponse, IsFrameResponseIfRoom, IsTurnFault}
use Rattle.toll_service.specs.Requested.{ImportFile, requested_by_call}

-- A frame was answered.
pub plant_turn : {K : Type 0} (meaning : Meaning K) (old new : K) (requested : Bytes) (poll : Poll ImportState) (keep_usable : Bool) (words : List Bytes) (file : Option Bytes) (p : Printout)
    → IsCall requested words file → IsRequestedDone meaning old new (requested_by_call words file) p → IsReadyWith poll (IsFrameResponseIfRoom keep_usable p) → IsInputServed meaning old new Plant requested poll keep_usable
plant_turn meaning old new requested (Ready reported) keep_usable words file p asks done telling =
    inl (record { words = words; file = file; asks = asks; printout = p; done = done; telling = telling })
plant_turn meaning old new requested (Pending import) keep_usable words file p asks done never = absurd never

-- An import begins, or the response reports why there is none.
pub import_turn : {K : Type 0} (meaning : Meaning K) (keep : K) (requested : Bytes) (poll : Poll ImportState) (keep_usable : Bool) (words : List Bytes) (sent : Option Bytes) (file : Bytes)
    → IsCall requested words sent → requested_by_call words sent ≡ ImportFile file → BeginsOrRefuses file poll keep_usable → IsInputServed meaning keep keep Plant requested poll keep_usable
import_turn meaning keep requested (Ready reported) keep_usable words sent file asks wants (fault, why, telling) =
    let done : IsRequestedDone meaning keep keep (ImportFile file) (refused_file fault) = (refl, (fault, why, refl)) in
    plant_turn meaning keep keep requested (Ready reported) keep_usable words sent (refused_file fault) asks
    (subst (λ wanted. IsRequestedDone meaning keep keep wanted (refused_file fault)) (sym wants) done) telling
import_turn meaning keep requested (Pending import) keep_usable words sent file asks wants begins =
    (record { words = words; sent = sent; asks = asks; file = file; wants = wants; begun = begins.0 }, refl, begins.1)

-- An import is over, and the response is its report.
pub report_turn : (now : ImportState) (poll : Poll ImportState) (keep_usable : Bool) (report : ImportReport) (p : Printout) → now.left ≡ [] → report.lines.items ≡ now.lines
    → AreNumberedFrom 1 report.lines.items → IsImportPrintout (Ok report) p → IsReadyWith poll (IsFrameResponseIfRoom keep_usable p) → ImportYields now poll keep_usable
report_turn now (Ready reported) keep_usable report p none its numbered printed telling =
    (none, record { report = report; its = its; numbered = subst (AreNumberedFrom 1) its numbered; printout = p; printed = printed; telling = telling })
report_turn now (Pending import) keep_usable report p none its numbered printed never = absurd never

-- An import was aborted.
pub turn_aborted : (lines : List ImportLine) (why : Bytes) (poll : Poll ImportState) (keep_usable : Bool) (p : Printout) → IsStoppedImportPrintout lines why p
    → IsReadyWith poll (IsFrameResponseIfRoom keep_usable p) → IsReadyWith poll (λ reported. IsImportAborted lines why reported keep_usable)
turn_aborted lines why (Ready reported) keep_usable p stopped telling = (p, stopped, telling)
turn_aborted lines why (Pending import) keep_usable p stopped never = absurd never

-- the fault of a turn: there was no memory for the response; or it is that of the output, whose failure is reported
abbrev IsMetBy : Option KeepFault → Poll ImportState → Printout → KeepFault → Type 0
IsMetBy noted poll p fault = (fault ≡ Memory) ⊎ ((noted ≡ Some fault) × IsReadyWith poll (IsFailureResponse p))

-- The response reports the fault of a command.
pub turn_met : {K : Type 0} (meaning : Meaning K) (old new : K) (poll : Poll ImportState) (p : Printout) (noted met : Option KeepFault)
    → IfSome noted (λ fault. p ≡ on_error Failed (fault_line fault)) → IfSome met (IsMetBy noted poll p) → IfSome met (IsTurnFault meaning old new Plant poll)
turn_met meaning old new poll p noted None shown none = tt
turn_met meaning old new poll p noted (Some fault) shown (inl memory) = inl memory
turn_met meaning old new (Ready reported) p noted (Some fault) shown (inr (is, ready)) =
    let its = subst (λ n. IfSome n (λ fault. p ≡ on_error Failed (fault_line fault))) is shown in
    inr (subst (λ q. IsReadyWith (Ready reported) (IsFailureResponse q)) its ready).0
turn_met meaning old new (Pending import) p noted (Some fault) shown (inr (is, never)) = absurd never

-- A record of an import met its fault.
pub import_met : {K : Type 0} (meaning : Meaning K) (old new : K) (was now : ImportState) (report : ImportReport) (poll : Poll ImportState) (p : Printout)
    (noted met : Option KeepFault) → IsResumed meaning old new was now → report.lines.items ≡ now.lines → IfSome noted (IsMetByImport (Ok report))
    → IfSome met (IsMetBy noted poll p) → IfSome met (IsImportFault meaning old new was)
import_met meaning old new was now report poll p noted None resumed its reports none = tt
import_met meaning old new was now report poll p noted (Some fault) resumed its reports (inl memory) = inl memory
import_met meaning old new was now report poll p noted (Some fault) resumed its reports (inr (is, ready)) =
    elim (subst (λ n. IfSome n (IsMetByImport (Ok report))) is reports) [
      | inl memory ↦ inl memory
      | inr there ↦ inr (now, resumed, subst (λ lines. Contains (outcomes_in lines) (Fault fault)) its there)
    ]
