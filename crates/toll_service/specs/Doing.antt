-- Work over an office that is opened for it.
use Rattle.std.specs.Prelude.{◌≡◌, ◌⊎◌, ℕ, List, [], ◌∷◌, Option, None, Some, codes}
use Rattle.toll_files.specs.Faults.{fault_text}
use Rattle.toll_files.specs.declared.office_fault.OfficeFault.{OfficeFault}
use Rattle.toll_plant.specs.Table.{command_lines}
use Rattle.toll_plant.specs.Usages.{usage_text}
use Rattle.toll_plant.specs.Words.{command_of_words}
use Rattle.toll_programs.specs.Done.{IsCommandDone, IsImportDone}
use Rattle.toll_programs.specs.Outputs.{Printout, no_memory, on_error}
use Rattle.toll_programs.specs.ServerCalls.{Connections, IsServerAsked, IsUntried}
use Rattle.toll_programs.specs.StreamOutput.{IsPrinted, IsSomePrinted, IsWrittenOrFailed, IsNothingWritten, Streams}
use Rattle.toll_protocol.specs.Frames.{frame}
use Rattle.toll_protocol.specs.PlantMessages.{call_text}
use Rattle.toll_service.specs.Common.{Bytes, Meaning, PlantCmd, exit_code, Failed, Usage}
use Rattle.toll_service.specs.declared.operation.Operation.{Operation}
use Rattle.toll_service.specs.declared.operation.Operation.TheVariants.{Command, Import}
use Rattle.toll_service.specs.Openings.{IsOneOpened, IsOneRefused, IsSomeRefused, IsNoneOpened, Openings}
use Rattle.toll_wire.specs.Steps.{IsAnswered}
use Rattle.toll_wire.specs.declared.outgoing.Out.{Out}
use Rattle.toll_wire.specs.declared.outgoing.Out.TheVariants.{Unavailable}

-- The usage is written to standard error, and the exit status is that of unknown words; or writing failed. Standard output is empty.
abbrev pub IsUsageShown : List Bytes → Streams → ℕ → Type 0
IsUsageShown words s status = IsWrittenOrFailed s.error (usage_text command_lines words) (exit_code Usage) status × IsNothingWritten s.output

-- No office was opened because of a fault, which is printed.
abbrev pub IsRefusalPrinted : (before behind : Option Openings) → Streams → ℕ → Type 0
IsRefusalPrinted before behind s status = (fault : OfficeFault) × IsPrinted s (on_error Failed (fault_text fault)) status × IsOneRefused fault before behind

-- The work was done over a keep that was opened like this.
pub record IsDoneOver {K : Type 0} (is_opened : K → Type 0) (Done : K → K → Type 0) : Type 0 where
  pub first : K
  pub last : K
  pub opened : is_opened first
  pub done : Done first last

-- The operation was done over the keep, and the printout reports it.
abbrev pub IsOperationDone : {K : Type 0} → Meaning K → Operation → K → K → Printout → Type 0
IsOperationDone meaning (Command command) old new p = IsCommandDone meaning old new command.now p
IsOperationDone meaning (Import file) old new p = IsImportDone meaning old new file.now p

-- A server took the words and their file, and its answer is printed. Or none took them: an office was refused, and the reason printed; or
-- one was opened, the work done and its result printed.
abbrev pub IsDoneByServerOrHere : {K S : Type 0} → (is_opened : K → Type 0) → (before behind : Option Openings) → Connections S → List Bytes → Option Bytes → (Done : K → K → Printout → Type 0) → Streams → ℕ → Type 0
IsDoneByServerOrHere is_opened before behind c words file Done s status =
    (IsServerAsked c (frame (call_text words file)) s (Some status) × IsNoneOpened before behind)
    ⊎ ((unused : Streams) × IsServerAsked c (frame (call_text words file)) unused None
    × (IsRefusalPrinted before behind s status
    ⊎ (IsSomePrinted (λ p. IsDoneOver is_opened (λ first last. Done first last p)) s status × IsOneOpened before behind)))

-- The request was answered over the office that was opened; or none was opened, and the reply is 503.
abbrev pub IsRequestOver : {K : Type 0} → Meaning K → (K → Type 0) → (before behind : Option Openings) → Bytes → Out → Type 0
IsRequestOver meaning is_opened before behind request reported =
    (IsDoneOver is_opened (λ first last. IsAnswered meaning first last request reported) × IsOneOpened before behind) ⊎ ((reported ≡ Unavailable) × IsSomeRefused before behind)

module _ {K S : Type 0} (meaning : Meaning K) (is_opened : K → Type 0) (before behind : Option Openings) (c : Connections S) where
  -- The import of a file, by a server or here.
  abbrev pub IsFileOver : Bytes → Streams → ℕ → Type 0
  IsFileOver file = IsDoneByServerOrHere is_opened before behind c (codes "import" ∷ []) (Some file) (λ first last. IsImportDone meaning first last file)

  -- Words that are no command print the usage, and nothing is asked. A command is done by a server or here.
  abbrev pub IsAskedFor : List Bytes → Option PlantCmd → Streams → ℕ → Type 0
  IsAskedFor words None s status = IsUsageShown words s status × IsNoneOpened before behind × IsUntried c
  IsAskedFor words (Some command) s status = IsDoneByServerOrHere is_opened before behind c words None (λ first last. IsCommandDone meaning first last command) s status

  -- The same for these words, unless there was no memory to read them, which is reported.
  abbrev pub AreWordsOver : List Bytes → Streams → ℕ → Type 0
  AreWordsOver words s status =
      IsAskedFor words (command_of_words words) s status ⊎ (IsPrinted s (on_error Failed no_memory) status × IsNoneOpened before behind × IsUntried c)
