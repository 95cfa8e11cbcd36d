-- What the program prints of a command, a question or an import, and its exit status.
use Rattle.std.specs.Prelude.{◌≡◌, ◌⊎◌, ℕ, List, [], Contains, Result, Ok, Err, codes}
use Rattle.std.specs.Cow.{cow_slice_items}
use Rattle.toll_programs.specs.Common.{Bytes, PlantReply, ImportFault, Memory, TooLong, BadHeader, ImportReport}
use Rattle.toll_desk.specs.declared.plant_cmd.PlantReply.TheVariants as plant
use Rattle.toll_keep.specs.declared.keep_fault.KeepFault.{KeepFault}
use Rattle.toll_keep.specs.declared.keep_fault.KeepFault.TheVariants.{Memory as NoMemory}
use Rattle.toll_plant.specs.ImportTexts.{import_text}
use Rattle.toll_plant.specs.Imports.{outcomes_in}
use Rattle.toll_plant.specs.declared.outcome.Outcome.TheVariants as came
use Rattle.toll_plant.specs.declared.report.ImportLine.{ImportLine}
use Rattle.toll_programs.specs.Printing.{plant_reply_text, refusal_line}
use Rattle.toll_programs.specs.Statuses.{status_after_lines, status_after_reply, exit_code}
use Rattle.toll_programs.specs.declared.output.Output.{Output}
use Rattle.toll_programs.specs.declared.status.Status.{Status}
use Rattle.toll_programs.specs.declared.status.Status.TheVariants.{Refused, Usage, Failed}
use Rattle.toll_protocol.specs.declared.frames.response.Response.{Response}

-- a printout: an exit status, and the texts for standard output and standard error
pub record Printout : Type 0 where
  pub status : ℕ
  pub output : Bytes
  pub error : Bytes

-- the printout of what the program prints, or of what a server sent
abbrev pub printout_of : Output → Printout
printout_of o = record { status = exit_code o.status; output = cow_slice_items o.stdout; error = cow_slice_items o.stderr }

abbrev pub printout_in : Response → Printout
printout_in r = record { status = r.status; output = r.output.now; error = r.error.now }

-- a text on standard output, and one on standard error
abbrev pub on_output : Status → Bytes → Printout
on_output status text = record { status = exit_code status; output = text; error = [] }

abbrev pub on_error : Status → Bytes → Printout
on_error status text = record { status = exit_code status; output = []; error = text }

-- the text that reports a lack of memory
abbrev pub no_memory : Bytes
no_memory = codes "fault Memory\n"

-- The printout is the text, or reports that there was no memory for it.
abbrev pub IsShownIfRoom : Status → Bytes → Printout → Type 0
IsShownIfRoom status text p = (p ≡ on_output status text) ⊎ (p ≡ on_error Failed no_memory)

-- The printout of a reply to the plant. A fault is a failure; of the other replies, only a refusal's line takes memory.
abbrev pub IsReplyPrintout : PlantReply → Printout → Type 0
IsReplyPrintout (plant.Fault fault) p = p ≡ on_error Failed (plant_reply_text (plant.Fault fault))
IsReplyPrintout (plant.Refused why) p = IsShownIfRoom Refused (refusal_line why) p
IsReplyPrintout reply p = p ≡ on_output (status_after_reply reply) (plant_reply_text reply)

-- the printout that reports why a file was not imported
abbrev pub refused_file : ImportFault → Printout
refused_file Memory = on_error Failed no_memory
refused_file TooLong = on_error Usage (codes "too long\n")
refused_file BadHeader = on_error Usage (codes "bad header\n")

-- The printout is the text of the import, or reports why the file was not imported.
abbrev pub IsImportPrintout : Result ImportReport ImportFault → Printout → Type 0
IsImportPrintout (Ok report) p = IsShownIfRoom (status_after_lines report.lines.items) (import_text report.lines.items) p
IsImportPrintout (Err fault) p = p ≡ refused_file fault

-- A record of the import met the fault, or there was no memory.
abbrev pub IsMetByImport : Result ImportReport ImportFault → KeepFault → Type 0
IsMetByImport (Ok report) fault = (fault ≡ NoMemory) ⊎ Contains (outcomes_in report.lines.items) (came.Fault fault)
IsMetByImport (Err why) fault = fault ≡ NoMemory

-- The printout has the outcomes of the records so far, if there is memory for them, and why no more act. Its status is that of a failure.
pub record IsStoppedImportPrintout (lines : List ImportLine) (why : Bytes) (p : Printout) : Type 0 where
  pub status : p.status ≡ exit_code Failed
  pub output : (p.output ≡ import_text lines) ⊎ (p.output ≡ [])
  pub error : p.error ≡ why
