-- What the program writes to its streams, and its exit status.
use Rattle.std.specs.Prelude.{◌≡◌, ◌<◌, ◌⊎◌, ◌++◌, ℕ, Bool, [], Option, codes, decimal, length, take}
use Rattle.toll_programs.specs.Common.{Appends, Bytes, HasFailed}
use Rattle.toll_protocol.specs.declared.streams.sink.Sink as sink
use Rattle.toll_programs.specs.Outputs.{Printout, no_memory}
use Rattle.toll_programs.specs.Statuses.{status_after_script, exit_code}
use Rattle.toll_programs.specs.declared.scripts.ScriptEnd.{ScriptEnd}
use Rattle.toll_programs.specs.declared.scripts.ScriptEnd.TheVariants as script
use Rattle.toll_programs.specs.declared.status.Status.{Status}
use Rattle.toll_programs.specs.declared.status.Status.TheVariants.{Failed}

-- ---- one stream

-- what a stream holds before and after, and whether a write to it has failed
pub record Stream : Type 0 where
  pub held : Option Bytes
  pub now_held : Option Bytes
  pub failed : Option Bool
  pub now_failed : Option Bool

-- a sink before and after
abbrev pub stream_of : {W : Type 0} → sink.Ghosts W → W → W → Stream
stream_of g old new = record { held = g.held old; now_held = g.held new; failed = g.has_failed old; now_failed = g.has_failed new }

-- Nothing was written.
abbrev pub IsNothingWritten : Stream → Type 0
IsNothingWritten s = (s.now_held ≡ s.held) × (s.now_failed ≡ s.failed)

-- All of the text was written.
abbrev pub IsWritten : Stream → Bytes → Type 0
IsWritten s text = Appends s.held s.now_held text

-- A write failed, and only the first part of the text was written.
abbrev pub IsCut : Stream → Bytes → Type 0
IsCut s text = (n : ℕ) × (n < length text) × Appends s.held s.now_held (take n text) × HasFailed s.failed s.now_failed

-- The text was written and the exit status is the wanted one; or a write failed and the status is that of a failure.
abbrev pub IsWrittenOrFailed : Stream → Bytes → (wanted : ℕ) → ℕ → Type 0
IsWrittenOrFailed s text wanted status = (IsWritten s text × (status ≡ wanted)) ⊎ (IsCut s text × (status ≡ exit_code Failed))

-- The text was written or a write failed, and the exit status is the wanted one in both cases.
abbrev pub IsWarned : Stream → Bytes → Status → ℕ → Type 0
IsWarned s text wanted status = (IsWritten s text ⊎ IsCut s text) × (status ≡ exit_code wanted)

-- ---- the two streams

pub record Streams : Type 0 where
  pub output : Stream
  pub error : Stream

-- two sinks before and after
abbrev pub streams_of : {W E : Type 0} → sink.Ghosts W → sink.Ghosts E → (output now_output : W) → (error now_error : E) → Streams
streams_of w e output now_output error now_error = record { output = stream_of w output now_output; error = stream_of e error now_error }

-- The printout was written with its exit status, or the output was cut and the status is that of a failure. An error text that is cut
-- doesn't change the status. An empty text touches no stream.
pub record IsPrinted (s : Streams) (p : Printout) (status : ℕ) : Type 0 where
  pub output : IsWrittenOrFailed s.output p.output p.status status
  pub error : IsWritten s.error p.error ⊎ IsCut s.error p.error
  pub no_output : p.output ≡ [] → IsNothingWritten s.output
  pub no_error : p.error ≡ [] → IsNothingWritten s.error

-- Some printout was printed of which IsSo holds.
abbrev pub IsSomePrinted : (Printout → Type 0) → Streams → ℕ → Type 0
IsSomePrinted IsSo s status = (p : Printout) × IsSo p × IsPrinted s p status

-- The text went to standard error, and nothing to standard output.
abbrev pub IsFailing : Streams → Bytes → Status → ℕ → Type 0
IsFailing s text wanted status = IsWarned s.error text wanted status × IsNothingWritten s.output

-- ---- a script

-- the line that reports why a script ended
abbrev pub end_line : ScriptEnd → Bytes
end_line script.Done = []
end_line (script.BadLine number) = codes "bad line " ++ decimal number ++ codes "\n"
end_line script.TooLong = codes "too long\n"
end_line script.Memory = no_memory
end_line script.ReadFault = codes "fault Read\n"
end_line script.WriteFault = codes "fault Write\n"

-- Nothing is reported of a script that is done; otherwise why it ended. The exit status is that of the end.
abbrev pub IsEndReported : Stream → ScriptEnd → ℕ → Type 0
IsEndReported s script.Done status = IsNothingWritten s × (status ≡ exit_code (status_after_script script.Done))
IsEndReported s end status = IsWarned s (end_line end) (status_after_script end) status
