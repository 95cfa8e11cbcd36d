-- The state of a connection: reading, queued, working on a task, or writing its reply.
use Rattle.std.specs.Prelude.{ℕ, Bool, true, false, Option, None, Some, option_and_then, if◌then◌else◌}
use Rattle.toll_protocol.specs.declared.streams.response_writer.ResponseWriter.{ResponseWriter}
use Rattle.toll_server.specs.declared.poll.Poll.{Poll}
use Rattle.toll_server.specs.declared.poll.Poll.TheVariants.{Ready, Pending}
use Rattle.toll_server.specs.declared.connection_state.ConnectionState.{ConnectionState}
use Rattle.toll_server.specs.declared.connection_state.ConnectionState.TheVariants.{Reading, Queued, Working, Writing}
use Rattle.toll_server.specs.declared.ticket.Ticket.{Ticket}

-- the task that a turn of the service leaves, if it leaves one
abbrev pub pending_task : {T : Type 0} → Poll T → Option T
pending_task (Ready text) = None
pending_task (Pending task) = Some task

module _ {T P : Type 0} where
  -- the outcome of the service's last turn for a connection, if it had one
  abbrev pub last_poll : ConnectionState T P → Option (Poll T)
  last_poll Reading = None
  last_poll (Queued ticket) = None
  last_poll (Working ticket task) = Some (Pending task)
  last_poll (Writing reply) = Some (Ready reply.bytes)

  -- whether the connection's request isn't whole
  abbrev pub is_reading : ConnectionState T P → Bool
  is_reading Reading = true
  is_reading (Queued ticket) = false
  is_reading (Working ticket task) = false
  is_reading (Writing reply) = false

  -- the task that the service has left for the connection
  abbrev pub task_of : ConnectionState T P → Option T
  task_of state = option_and_then pending_task (last_poll state)

  -- the reply that the connection is sent
  abbrev pub reply_in_state : ConnectionState T P → Option ResponseWriter
  reply_in_state Reading = None
  reply_in_state (Queued ticket) = None
  reply_in_state (Working ticket task) = None
  reply_in_state (Writing reply) = Some reply

  -- its place in the queue for the service
  abbrev pub ticket_of : ConnectionState T P → Option (Ticket P)
  ticket_of Reading = None
  ticket_of (Queued ticket) = Some ticket
  ticket_of (Working ticket task) = Some ticket
  ticket_of (Writing reply) = None

-- After a turn, a connection with a reply has no place in the queue; one with a task left joins the queue's end again.
abbrev pub ticket_after : {T P : Type 0} → Poll T → ℕ → Ticket P → Option (Ticket P)
ticket_after (Ready text) event_count ticket = None
ticket_after (Pending task) event_count ticket = Some (record { party = ticket.party; queued = event_count; since = event_count })

-- If the ticket belongs to this party, its wait begins anew.
abbrev pub ticket_behind : {P : Type 0} → (P → P → Bool) → P → ℕ → Ticket P → Ticket P
ticket_behind same party event_count t = if same party t.party then record { party = t.party; queued = t.queued; since = event_count } else t

abbrev pub state_behind : {T P : Type 0} → (P → P → Bool) → P → ℕ → ConnectionState T P → ConnectionState T P
state_behind same party event_count Reading = Reading
state_behind same party event_count (Queued ticket) = Queued (ticket_behind same party event_count ticket)
state_behind same party event_count (Working ticket task) = Working (ticket_behind same party event_count ticket) task
state_behind same party event_count (Writing reply) = Writing reply
