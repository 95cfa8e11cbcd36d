-- One step of a connection.
use Rattle.std.specs.Prelude.{◌≡◌, ◌≢◌, ◌↔◌, ◌⊎◌, ◌+◌, ◌-◌, ◌^◌, ℕ, min, List, [], ◌++◌, length, Option, Some, None, IsSome, option_map}
use Rattle.std.specs.Io.KnownBytes.{Appends, Consumes, IsAtEnd}
use Rattle.toll_protocol.specs.Streams.{NoneBlocked, OneBlocked, bytes_between}
use Rattle.toll_protocol.specs.declared.streams.response_writer.ResponseWriter.{ResponseWriter}
use Rattle.toll_protocol.specs.declared.streams.sink.Sink as sink
use Rattle.toll_protocol.specs.declared.streams.source.Source as source
use Rattle.toll_server.specs.RequestBuffers.{IsComplete, bytes_received, listener_of}
use Rattle.toll_server.specs.Queues.{Waiting, newly}
use Rattle.toll_server.specs.ConnectionStates.{reply_in_state, ticket_of}
use Rattle.toll_server.specs.declared.request_buffer.RequestBuffer.{RequestBuffer}
use Rattle.toll_server.specs.declared.listener.Listener.{Listener}
use Rattle.toll_server.specs.declared.connection.Connection.{Connection}
use Rattle.toll_server.specs.declared.connection.TheConstants.{MOST_MILLISECONDS}
use Rattle.toll_server.specs.declared.poll.Poll.{Poll}
use Rattle.toll_server.specs.declared.connection_state.ConnectionState.{ConnectionState}
use Rattle.toll_server.specs.declared.connection_state.ConnectionState.TheVariants.{Reading, Queued, Working, Writing}
use Rattle.toll_server.specs.declared.step_result.StepResult.{StepResult}
use Rattle.toll_server.specs.declared.step_result.StepResult.TheVariants.{Waits, Joins, Answered, Failed}
use Rattle.toll_server.specs.declared.ticket.Ticket.{Ticket}

-- all bytes of the reply, if there is one
abbrev pub reply_bytes : Option ResponseWriter → Option (List ℕ)
reply_bytes reply = option_map (λ r. r.bytes.items) reply

-- how many bytes of the reply were written
abbrev pub written_of : Option ResponseWriter → ℕ
written_of None = 0
written_of (Some r) = r.written

-- the bytes of the reply from one place to another, if there is a reply
abbrev pub reply_part : Option (List ℕ) → ℕ → ℕ → List ℕ
reply_part None begun done = []
reply_part (Some text) begun done = bytes_between begun done text

-- The stream was given the next bytes of the reply, those after the ones written before, and no others.
abbrev pub WritesNextBytes : Option (List ℕ) → Option (List ℕ) → Option ResponseWriter → Option ResponseWriter → Type 0
WritesNextBytes held now_held was now = Appends held now_held (reply_part (reply_bytes now) (written_of was) (written_of now))

-- All of the reply was written.
abbrev pub IsWhollyWritten : Option ResponseWriter → Type 0
IsWhollyWritten None = ⊥
IsWhollyWritten (Some r) = r.written ≡ length r.bytes.items

module _ {O T P : Type 0} (answers : O → Listener → List ℕ → Poll T → O → Type 0) (resumes : O → T → Poll T → O → Type 0) where
  -- The service answers the whole request of a queued connection, or goes on with the task of a working one.
  abbrev pub AnswersOrResumes : ConnectionState T P → RequestBuffer → Poll T → O → O → Type 0
  AnswersOrResumes Reading request poll old new = ⊥
  AnswersOrResumes (Queued ticket) request poll old new = answers old (listener_of request) (bytes_received request) poll new
  AnswersOrResumes (Working ticket task) request poll old new = resumes old task poll new
  AnswersOrResumes (Writing reply) request poll old new = ⊥

-- The request grew by what the stream gave. Once it was handed to the service it was complete, or the stream had ended.
pub record Received (unread now_unread : Option (List ℕ)) (was now : RequestBuffer) (IsHanded : Type 0) : Type 0 where
  pub given : List ℕ
  pub rest : Option (List ℕ)
  pub consumed : Consumes unread rest given
  pub behind : bytes_received now ≡ bytes_received was ++ given
  pub same_listener : listener_of now ≡ listener_of was
  pub early : ¬ IsHanded → (now_unread ≡ rest) × ¬ (IsComplete now)
  pub whole : IsHanded → IsComplete now ⊎ IsAtEnd rest

-- the place in the queue of a connection with this request and this ticket
abbrev pub waiting_with : {P : Type 0} → RequestBuffer → Ticket P → Waiting P
waiting_with request t = record { party = t.party; listener = listener_of request; request = bytes_received request; queued = t.queued; since = t.since }

-- the number of events after a step: one more if a request became whole
abbrev pub event_count_after : StepResult → ℕ → ℕ
event_count_after Waits event_count = event_count
event_count_after Joins event_count = event_count + 1
event_count_after Answered event_count = event_count
event_count_after Failed event_count = event_count

module _ {S T P : Type 0} where
  -- the connection after its request or its task was handed over
  abbrev pub handed_over : Connection S T P → Connection S T P
  handed_over old = record { stream = old.stream; request = old.request; state = Reading; deadline = old.deadline }

  -- its place in the queue, with its request
  abbrev pub waiting_of : Connection S T P → Option (Waiting P)
  waiting_of connection = option_map (waiting_with connection.request) (ticket_of connection.state)

  -- A connection that was reading read from its stream, and is queued once its request is whole.
  abbrev pub ReceivesRequest : (S → Option (List ℕ)) → Connection S T P → Connection S T P → Type 0
  ReceivesRequest unread old new =
      old.state ≡ Reading → Received (unread old.stream) (unread new.stream) old.request new.request (IsSome (ticket_of new.state))

  -- A connection that is still reading met exactly one read that would have waited.
  abbrev pub IsReadBlocked : (S → Option ℕ) → Connection S T P → Connection S T P → Type 0
  IsReadBlocked reads old new = new.state ≡ Reading → OneBlocked (reads old.stream) (reads new.stream)

  -- No read of a connection that was reading would have waited.
  abbrev pub ReadsWithoutWaiting : (S → Option ℕ) → Connection S T P → Connection S T P → Type 0
  ReadsWithoutWaiting reads old new = old.state ≡ Reading → NoneBlocked (reads old.stream) (reads new.stream)

  -- A connection that had sent its request keeps it, and isn't read from.
  abbrev pub KeepsRequest : Connection S T P → Connection S T P → Type 0
  KeepsRequest old new = old.state ≢ Reading → (new.request ≡ old.request) × (new.state ≢ Reading)

  -- A connection whose request became whole joined the queue; any other keeps its place.
  abbrev pub JoinsAs : (Listener → List ℕ → P → Type 0) → ℕ → Connection S T P → Connection S T P → StepResult → Type 0
  JoinsAs is_by event_count old new Joins =
      (waiting_of old ≡ None)
      × ((party : P) × is_by (listener_of new.request) (bytes_received new.request) party × (waiting_of new ≡ Some (newly party (listener_of new.request) (bytes_received new.request) event_count)))
  JoinsAs is_by event_count old new Waits = waiting_of new ≡ waiting_of old
  JoinsAs is_by event_count old new Answered = (waiting_of new ≡ None) × (waiting_of old ≡ None)
  JoinsAs is_by event_count old new Failed = (waiting_of new ≡ None) × (waiting_of old ≡ None)

  -- The stream was given the next bytes of the reply. The step is Answered if and only if all of them were written. If the connection waits
  -- for its stream, exactly one write would have waited, and otherwise none. A queued connection stays unchanged.
  pub record Writes (to : sink.Ghosts S) (old new : Connection S T P) (step : StepResult) : Type 0 where
    pub wrote : WritesNextBytes (to.held old.stream) (to.held new.stream) (reply_in_state old.state) (reply_in_state new.state)
    pub given : step ≡ Answered ↔ IsWhollyWritten (reply_in_state new.state)
    pub blocked : step ≡ Waits → IsSome (reply_in_state new.state) → OneBlocked (to.blocked old.stream) (to.blocked new.stream)
    pub through : step ≢ Waits → IsSome (reply_in_state old.state) → NoneBlocked (to.blocked old.stream) (to.blocked new.stream)

  -- A connection advanced as far as its stream allows: what it was given and what it read, and where it waits. A request that became whole
  -- joins. It fails only if no read would have waited.
  pub record Advances (from : source.Ghosts S) (to : sink.Ghosts S) (old new : Connection S T P) (step : StepResult) : Type 0 where
    pub hears : ReceivesRequest from.unread old new
    pub whole : old.state ≡ Reading → IsSome (ticket_of new.state) → step ≡ Joins
    pub writes : Writes to old new step
    pub waits : step ≡ Waits → IsReadBlocked from.blocked old new
    pub fails : step ≡ Failed → ReadsWithoutWaiting from.blocked old new
    pub idle : IsSome (ticket_of old.state) → (new ≡ old) × (step ≡ Waits)
    pub request : KeepsRequest old new
    pub deadline : new.deadline ≡ old.deadline

-- the deadline of a connection whose time begins at this moment
abbrev pub deadline_from : ℕ → ℕ
deadline_from now = min (now + MOST_MILLISECONDS) (2 ^ 64 - 1)

-- The deadline of a reply begins when there is a reply; no other deadline changes.
abbrev pub deadline_after : Option ResponseWriter → Option ResponseWriter → ℕ → ℕ → ℕ
deadline_after None None deadline now = deadline
deadline_after None (Some r) deadline now = deadline_from now
deadline_after (Some was) reply deadline now = deadline
