-- The states of batches, and which command leads from which to which.
use Rattle.std.specs.Prelude.{Bool, true, false, Option, Some, None, unwrap_or, List, [], ◌∷◌, find, codes}
use Rattle.toll_base.specs.Bytes.{Bytes, same_bytes}
use Rattle.toll_base.specs.declared.state.State.{State}
use Rattle.toll_base.specs.declared.state.State.TheVariants.{Idle, Running, Pausing, Paused, Holding, Held, Restarting, Stopping, Stopped, Aborting, Aborted, Complete}
use Rattle.toll_base.specs.declared.state_command.StateCommand.{StateCommand}
use Rattle.toll_base.specs.declared.state_command.StateCommand.TheVariants.{Done, Start, Stop, Hold, Restart, Abort, Reset, Pause, Resume}

-- the state that the command leads to, where it leads anywhere
abbrev pub next_state : State → StateCommand → Option State
next_state Idle Start = Some Running
next_state Running Done = Some Complete
next_state Running Stop = Some Stopping
next_state Running Hold = Some Holding
next_state Running Abort = Some Aborting
next_state Running Pause = Some Pausing
next_state Pausing Done = Some Paused
next_state Pausing Stop = Some Stopping
next_state Pausing Hold = Some Holding
next_state Pausing Abort = Some Aborting
next_state Paused Stop = Some Stopping
next_state Paused Hold = Some Holding
next_state Paused Abort = Some Aborting
next_state Paused Resume = Some Running
next_state Holding Done = Some Held
next_state Holding Stop = Some Stopping
next_state Holding Abort = Some Aborting
next_state Held Stop = Some Stopping
next_state Held Restart = Some Restarting
next_state Held Abort = Some Aborting
next_state Restarting Done = Some Running
next_state Restarting Stop = Some Stopping
next_state Restarting Hold = Some Holding
next_state Restarting Abort = Some Aborting
next_state Stopping Done = Some Stopped
next_state Stopping Abort = Some Aborting
next_state Stopped Abort = Some Aborting
next_state Stopped Reset = Some Idle
next_state Aborting Done = Some Aborted
next_state Aborted Reset = Some Idle
next_state Complete Reset = Some Idle
next_state _ _ = None

-- the state after the command, which stays where the command leads nowhere
abbrev pub followed : State → StateCommand → State
followed state command = unwrap_or (next_state state command) state

-- a batch in this state may be closed
abbrev pub may_close : State → Bool
may_close Idle = true
may_close Complete = true
may_close Stopped = true
may_close Aborted = true
may_close _ = false

abbrev pub is_idle : State → Bool
is_idle Idle = true
is_idle _ = false

-- ---- words

abbrev pub word_of_state : State → Bytes
word_of_state Idle = codes "idle"
word_of_state Running = codes "running"
word_of_state Pausing = codes "pausing"
word_of_state Paused = codes "paused"
word_of_state Holding = codes "holding"
word_of_state Held = codes "held"
word_of_state Restarting = codes "restarting"
word_of_state Stopping = codes "stopping"
word_of_state Stopped = codes "stopped"
word_of_state Aborting = codes "aborting"
word_of_state Aborted = codes "aborted"
word_of_state Complete = codes "complete"

abbrev pub word_of_command : StateCommand → Bytes
word_of_command Done = codes "done"
word_of_command Start = codes "start"
word_of_command Stop = codes "stop"
word_of_command Hold = codes "hold"
word_of_command Restart = codes "restart"
word_of_command Abort = codes "abort"
word_of_command Reset = codes "reset"
word_of_command Pause = codes "pause"
word_of_command Resume = codes "resume"

abbrev pub commands : List StateCommand
commands = Done ∷ Start ∷ Stop ∷ Hold ∷ Restart ∷ Abort ∷ Reset ∷ Pause ∷ Resume ∷ []

-- the command with this word
abbrev pub read_command : Bytes → Option StateCommand
read_command bytes = find (λ command. same_bytes bytes (word_of_command command)) commands
