-- What becomes of a whole request: it joins the queue and is handed over once, or its connection is closed.
use Rattle.std.specs.Prelude.{◌≡◌, ◌==◌, ◌⊎◌, ℕ, Bool, List, [], ◌∷◌, ◌++◌, ⊤, Option, None, Some, IfSome, slice_set, if◌then◌else◌}
use Rattle.slab.specs.Slab.{Slab, get}
use Rattle.toll_protocol.specs.declared.streams.sink.Sink as sink
use Rattle.toll_protocol.specs.declared.streams.source.Source as source
use Rattle.toll_server.specs.Connections.{IsShed}
use Rattle.toll_server.specs.Queues.{Joining, Joins, QueueEvent, Takes, Waiting, queue_of, tasks_of}
use Rattle.toll_server.specs.RequestBuffers.{IsComplete, bytes_received, listener_of}
use Rattle.toll_server.specs.Runs.{Input, Request, Task}
use Rattle.toll_server.specs.ServerEvents.{Advances as Heard, IsServerRun, Server, ServerEvent}
use Rattle.toll_server.specs.Steps.{Advances}
use Rattle.toll_server.specs.declared.connection.Connection.{Connection}
use Rattle.toll_server.specs.declared.connection_state.ConnectionState.TheVariants.{Reading}
use Rattle.toll_server.specs.declared.listener.Listener.{Listener}
use Rattle.toll_server.specs.declared.step_result.StepResult.{StepResult}

-- a request: its listener and its bytes
abbrev pub Asked : Type 0
Asked = Listener × List ℕ

-- the request that a turn handed over, if it was no task
abbrev pub request_in : {T : Type 0} → Input T → List Asked
request_in (Request listener request) = (listener, request) ∷ []
request_in (Task task) = []

module _ {T P : Type 0} where
  -- the requests with which the connection with this key joined the queue, newest first
  abbrev pub joined_at : ℕ → List (QueueEvent T P) → List Asked
  joined_at key [] = []
  joined_at key (Joins whose listener request party ∷ before) = if key == whose then (listener, request) ∷ joined_at key before else joined_at key before
  joined_at key (Takes turn ∷ before) = joined_at key before

  -- the requests that turns of the connection with this key handed over, newest first
  abbrev pub handed_at : ℕ → List (QueueEvent T P) → List Asked
  handed_at key [] = []
  handed_at key (Joins whose listener request party ∷ before) = handed_at key before
  handed_at key (Takes turn ∷ before) = if key == turn.whose then request_in turn.input ++ handed_at key before else handed_at key before

  -- the request that waits for its first turn, if one does
  abbrev pub unhanded : Option (Waiting P) → Option T → List Asked
  unhanded None left = []
  unhanded (Some w) None = (w.listener, w.request) ∷ []
  unhanded (Some w) (Some task) = []

-- Each request that joined the queue was handed over in exactly one turn of its connection, in order, or waits for its first turn.
abbrev pub AreHandedOnce : {T P : Type 0} → (P → P → Bool) → List (QueueEvent T P) → Type 0
AreHandedOnce same history = (key : ℕ) → joined_at key history ≡ unhanded (queue_of same history key) (tasks_of history key) ++ handed_at key history

-- The connection joined the queue with its request.
abbrev pub JoinsWith : {S T P : Type 0} → Option (Joining P) → Connection S T P → Type 0
JoinsWith None connection = ⊥
JoinsWith (Some j) connection = (j.listener ≡ listener_of connection.request) × (j.request ≡ bytes_received connection.request)

module _ {S T P : Type 0} (same : P → P → Bool) (from : source.Ghosts S) (to : sink.Ghosts S) (most : ℕ) where
  -- What the connection with this key received made its request whole: it joined the queue with it, or was closed because its party had its
  -- share of the queue.
  abbrev pub JoinsIfWhole : ℕ → Option (Joining P) → Slab (Connection S T P) → Slab (Connection S T P) → Type 0
  JoinsIfWhole whose joined old new = IfSome (get old whose) (λ connection. connection.state ≡ Reading → (later : Connection S T P) × (step : StepResult) × Advances from to connection later step
      × (IsComplete later.request → JoinsWith joined later ⊎ (IsShed same most (slice_set old.slots whose None) later step × (get new whose ≡ None))))

  abbrev pub IsWholeJoined : ServerEvent S T P → Server S T P → Server S T P → Type 0
  IsWholeJoined (Heard whose joined) old new = JoinsIfWhole whose joined old.slots new.slots
  IsWholeJoined _ old new = ⊤

  -- In each step of the run a request that became whole joined the queue, or its connection was closed so.
  abbrev pub AreWholeJoined : (first : Server S T P) (events : List (ServerEvent S T P)) (last : Server S T P) → IsServerRun same from to most first events last → Type 0
  AreWholeJoined first [] last run = ⊤
  AreWholeJoined first (event ∷ before) last run = AreWholeJoined first before run.0 run.1 × IsWholeJoined event run.0 last
