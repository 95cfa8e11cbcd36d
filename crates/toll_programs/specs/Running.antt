-- The outcome of a script.
use Rattle.std.specs.Prelude.{◌≡◌, ◌≢◌, ◌⊎◌, ◌<◌, ℕ, IsTrue, Bool, true, false, List, length, take, Option}
use Rattle.toll_programs.specs.Common.{Appends, Bytes, Meaning, HasFailed, NoneFailed, Answer, Event}
use Rattle.toll_desk.specs.Reads.{Over}
use Rattle.toll_protocol.specs.declared.streams.sink.Sink as sink
use Rattle.toll_protocol.specs.declared.streams.source.Source as source
use Rattle.toll_wire.specs.OfficeRuns.{AreServed, IsRunOf}
use Rattle.toll_programs.specs.ScriptEvents.{script_events_of}
use Rattle.toll_programs.specs.Inputs.{IsTooLong, IsWholeInput}
use Rattle.toll_programs.specs.Printing.{printed}
use Rattle.toll_programs.specs.Script.{IsScriptOf, IsFirstBad, NoneBad, StopsForMemory, script_lines}
use Rattle.toll_programs.specs.declared.scripts.ScriptEnd.{ScriptEnd}
use Rattle.toll_programs.specs.declared.scripts.ScriptEnd.TheVariants.{Done, BadLine, TooLong, Memory, ReadFault, WriteFault}

-- The events had these answers one after another, over this keep. If the keep is honest so far and held a content that represents a lawful
-- history, they are a run from that history, and the keep holds what the run leaves.
pub record RanOver {K : Type 0} (meaning : Meaning K) (old new : K) (events : List Event) (answers : List Answer) : Type 0 where
  pub served : AreServed meaning old events answers new
  pub run : Over meaning old new (λ c H. IsRunOf (meaning.holds new) H events answers)

-- The input's events, in order, had these answers, and Ran holds of them.
pub record RunsInput (Ran : List Event → List Answer → Type 0) (input : Bytes) (answers : List Answer) : Type 0 where
  pub events : List Event
  pub requested : IsScriptOf input (script_events_of events)
  pub ran : Ran events answers

-- A script was read from one stream and run, and the lines of its answers were written to another.
pub record IsInputRun (Ran : List Event → List Answer → Type 0) (unread rest held now_held : Option Bytes) : Type 0 where
  pub input : Bytes
  pub whole : IsWholeInput unread rest input
  pub answers : List Answer
  pub runs : RunsInput Ran input answers
  pub written : Appends held now_held (printed answers)

-- The same, but only the first part of the lines was written.
pub record IsCutShort (Ran : List Event → List Answer → Type 0) (unread rest held now_held : Option Bytes) : Type 0 where
  pub input : Bytes
  pub whole : IsWholeInput unread rest input
  pub answers : List Answer
  pub runs : RunsInput Ran input answers
  pub count : ℕ
  pub short : count < length (printed answers)
  pub written : Appends held now_held (take count (printed answers))

-- A script was read from a stream and run.
pub record IsReadAndRun (Ran : List Event → List Answer → Type 0) (unread rest : Option Bytes) : Type 0 where
  pub input : Bytes
  pub whole : IsWholeInput unread rest input
  pub answers : List Answer
  pub runs : RunsInput Ran input answers

-- A script was read from a stream, and then there was no memory. Either it was needed for a line with no bad line before it, or for the
-- answers, and no line is bad.
pub record LacksMemory (unread rest : Option Bytes) : Type 0 where
  pub input : Bytes
  pub whole : IsWholeInput unread rest input
  pub lacks : StopsForMemory input ⊎ NoneBad (script_lines input)

-- The line with this number is the first bad line of the script.
pub record HasBadLine (unread rest : Option Bytes) (number : ℕ) : Type 0 where
  pub input : Bytes
  pub whole : IsWholeInput unread rest input
  pub bad : IsFirstBad input number

-- whether nothing was written
abbrev pub is_silent : ScriptEnd → Bool
is_silent Done = false
is_silent WriteFault = false
is_silent _ = true

-- whether nothing ran
abbrev pub ended_before_running : ScriptEnd → Bool
ended_before_running Done = false
ended_before_running WriteFault = false
ended_before_running Memory = false
ended_before_running _ = true

-- The outcome of a script that was run over a keep.
pub record IsScriptRun {R W K : Type 0} (from : source.Ghosts R) (to : sink.Ghosts W) (meaning : Meaning K) (reader rest : R) (writer written : W) (old new : K) (end : ScriptEnd) : Type 0 where
  pub done : end ≡ Done → IsInputRun (RanOver meaning old new) (from.unread reader) (from.unread rest) (to.held writer) (to.held written)
  pub cut_short : end ≡ WriteFault → IsCutShort (RanOver meaning old new) (from.unread reader) (from.unread rest) (to.held writer) (to.held written)
  -- If memory was short, nothing was read; or nothing ran, and no line is bad that can be seen to be bad without memory; or all of it ran.
  pub memory : end ≡ Memory → ((new ≡ old) × ((rest ≡ reader) ⊎ LacksMemory (from.unread reader) (from.unread rest))) ⊎ IsReadAndRun (RanOver meaning old new) (from.unread reader) (from.unread rest)
  pub honest : meaning.is_honest new → meaning.is_honest old
  pub bad_line : (number : ℕ) → end ≡ BadLine number → HasBadLine (from.unread reader) (from.unread rest) number
  pub too_long : end ≡ TooLong → IsTooLong (from.unread reader) (from.unread rest)
  -- A read fault means that a read failed. At every other end no read failed.
  pub read_fault : end ≡ ReadFault → HasFailed (from.has_failed reader) (from.has_failed rest)
  pub no_read_fault : end ≢ ReadFault → NoneFailed (from.has_failed reader) (from.has_failed rest)
  pub write_fault : end ≡ WriteFault → HasFailed (to.has_failed writer) (to.has_failed written)
  -- Nothing is written, and nothing runs, except at the ends that say so.
  pub silent : IsTrue (is_silent end) → written ≡ writer
  pub idle : IsTrue (ended_before_running end) → new ≡ old
