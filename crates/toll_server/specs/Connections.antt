-- The open connections, by their keys.
use Rattle.std.specs.Prelude.{◌≡◌, ◌≢◌, ◌≤◌, ◌<◌, ◌+◌, ◌-◌, ◌*◌, ◌^◌, ◌⊎◌, ◌||◌, ◌&&◌, ℕ, Bool, true, false, count_by, max, List, [], ◌∷◌, min, Option, None, Some, IfSome, IsSome, ⊤, is_some, is_none, nat_lt, not, length, slice_set, option_and_then, option_map, option_to_list, if◌then◌else◌}
use Rattle.slab.specs.Slab.{SameValues, Slab, Updates, get, slab_len}
use Rattle.toll_protocol.specs.declared.streams.sink.Sink as sink
use Rattle.toll_protocol.specs.declared.streams.source.Source as source
use Rattle.toll_server.specs.RequestBuffers.{bytes_received, listener_of}
use Rattle.toll_server.specs.Networks.{Arrival, ShowsTime, Tallies, Tally}
use Rattle.toll_server.specs.Queues.{IsNext, IsWhatWaits, Joining, Queue, Waiting, is_of, newly, queue_with}
use Rattle.toll_server.specs.Runs.{Tasks, Turn}
use Rattle.toll_server.specs.ConnectionStates.{is_reading, last_poll, reply_in_state, state_behind, task_of, ticket_after, ticket_of}
use Rattle.toll_server.specs.Steps.{Advances, Writes, deadline_after, deadline_from, handed_over, waiting_of}
use Rattle.toll_server.specs.declared.filter.Filter.{Filter}
use Rattle.toll_server.specs.declared.filter.Filter.TheVariants.{Reading, ReadingAt, Submitted, Queued, Timed, Owners}
use Rattle.toll_server.specs.declared.listener.Listener.{Listener}
use Rattle.toll_server.specs.declared.listener.Listener.TheVariants.{Owners as ForOwners, Plant as ForPlant}
use Rattle.toll_server.specs.declared.connections.AcceptState.{AcceptState}
use Rattle.toll_server.specs.declared.connections.TheConstants.{PAUSE_MILLISECONDS, PLACES_FOR_EACH}
use Rattle.toll_server.specs.declared.expiry.TheConstants.{PLANT_RESERVE}
use Rattle.toll_server.specs.declared.connections.AcceptState.TheVariants.{Open, Backlogged, Paused}
use Rattle.toll_server.specs.declared.connection.Connection.{Connection}
use Rattle.toll_server.specs.declared.expiry.Earliest.{Earliest}
use Rattle.toll_server.specs.declared.expiry.Next.{Next}
use Rattle.toll_server.specs.declared.expiry.Wait.{Wait}
use Rattle.toll_server.specs.declared.connection_state.ConnectionState.TheVariants.{Reading as ReadingState}
use Rattle.toll_server.specs.declared.step_result.StepResult.{StepResult}
use Rattle.toll_server.specs.declared.ticket.Ticket.{Ticket}
use Rattle.toll_server.specs.declared.step_result.StepResult.TheVariants.{Waits, Joins, Answered, Failed}

-- The wait may last this long; None means without an end.
abbrev pub IsWithinLimit : Option ℕ → ℕ → Type 0
IsWithinLimit None spare = ⊥
IsWithinLimit (Some most) spare = most ≤ spare

abbrev pub same_listener : Listener → Listener → Bool
same_listener ForOwners ForOwners = true
same_listener ForOwners ForPlant = false
same_listener ForPlant ForOwners = false
same_listener ForPlant ForPlant = true

-- how many connections may have sent their requests when one at this listener joins them, if so many may be open at once: the plant's
-- reserve is kept from owners
abbrev pub most_submitted : ℕ → Listener → ℕ
most_submitted most ForOwners = max (most - PLANT_RESERVE) 1
most_submitted most ForPlant = most

module _ {S T P : Type 0} where
  abbrev pub IsIncluded : Filter → Connection S T P → Type 0
  IsIncluded Reading connection = connection.state ≡ ReadingState
  IsIncluded (ReadingAt listener) connection = (connection.state ≡ ReadingState) × (listener_of connection.request ≡ listener)
  IsIncluded Submitted connection = connection.state ≢ ReadingState
  IsIncluded Queued connection = IsSome (ticket_of connection.state)
  IsIncluded Timed connection = ¬ (IsSome (ticket_of connection.state))
  IsIncluded Owners connection = listener_of connection.request ≡ ForOwners

  -- whether the filter includes the connection
  abbrev pub is_included : Filter → Connection S T P → Bool
  is_included Reading connection = is_reading connection.state
  is_included (ReadingAt listener) connection = is_reading connection.state && same_listener (listener_of connection.request) listener
  is_included Submitted connection = not (is_reading connection.state)
  is_included Queued connection = is_some (ticket_of connection.state)
  is_included Timed connection = is_none (ticket_of connection.state)
  is_included Owners connection = same_listener (listener_of connection.request) ForOwners

  abbrev pub is_included_at : Filter → Option (Connection S T P) → Bool
  is_included_at filter None = false
  is_included_at filter (Some connection) = is_included filter connection

  -- how many connections the filter includes
  abbrev pub number_of : Filter → List (Option (Connection S T P)) → ℕ
  number_of filter slots = count_by (is_included_at filter) slots

  -- whether this connection is the party's, and waits for a turn
  abbrev pub is_place_of : (P → P → Bool) → P → Option (Connection S T P) → Bool
  is_place_of same party slot = is_of same party (option_and_then waiting_of slot)

  -- how many places in the queue the party has
  abbrev pub places_of : (P → P → Bool) → P → List (Option (Connection S T P)) → ℕ
  places_of same party slots = count_by (is_place_of same party) slots

  -- The party of this place has its share of the queue already: so many places for each connection that may still send a request.
  abbrev pub IsOverShare : (P → P → Bool) → ℕ → List (Option (Connection S T P)) → Option (Waiting P) → Type 0
  IsOverShare same most others None = ⊥
  IsOverShare same most others (Some w) = PLACES_FOR_EACH * (most_submitted most w.listener - number_of Submitted others) ≤ places_of same w.party others

  -- The connection is closed though its request is whole: beside these others, its party has its share of the queue already.
  abbrev pub IsShed : (P → P → Bool) → ℕ → List (Option (Connection S T P)) → Connection S T P → StepResult → Type 0
  IsShed same most others connection step = (step ≡ Joins) × IsOverShare same most others (waiting_of connection)

  -- No connection that the filter includes has a deadline before this one.
  abbrev pub HaveTime : Filter → Slab (Connection S T P) → ℕ → Type 0
  HaveTime filter connections deadline = (key : ℕ) → IfSome (get connections key) (λ connection. IsIncluded filter connection → deadline ≤ connection.deadline)

  abbrev pub NoneIncluded : Filter → Slab (Connection S T P) → Type 0
  NoneIncluded filter connections = (key : ℕ) → IfSome (get connections key) (λ connection. ¬ (IsIncluded filter connection))

  -- The filter includes the connection with this key, its deadline is this one, and none that the filter includes has an earlier one.
  pub record IsEarliest (filter : Filter) (connections : Slab (Connection S T P)) (key deadline : ℕ) : Type 0 where
    pub connection : Connection S T P
    pub there : get connections key ≡ Some connection
    pub among_them : IsIncluded filter connection
    pub its : connection.deadline ≡ deadline
    pub first : HaveTime filter connections deadline

  -- how long a wait may last for this connection: not at all if the connection is queued
  abbrev pub spare_of : ℕ → Connection S T P → ℕ
  spare_of now connection = if is_some (ticket_of connection.state) then 0 else connection.deadline - now

  -- A wait of at most this many milliseconds ends before any connection's deadline. A wait without an end needs that there is no
  -- connection.
  abbrev pub IsInTime : Option ℕ → ℕ → Slab (Connection S T P) → Type 0
  IsInTime most now connections = (key : ℕ) → IfSome (get connections key) (λ connection. IsWithinLimit most (spare_of now connection))

  -- The wait lasts until the earliest deadline of a connection that isn't queued; or some connection is queued, and the wait takes no time.
  abbrev pub IsDueTo : Slab (Connection S T P) → ℕ → ℕ → Type 0
  IsDueTo connections now most =
      ((key : ℕ) × (deadline : ℕ) × IsEarliest Timed connections key deadline × (most ≡ deadline - now))
      ⊎ ((key : ℕ) × (deadline : ℕ) × IsEarliest Queued connections key deadline × (most ≡ 0))

  -- the listener whose connections are closed first, of those that are reading: the plant's if more than its reserve are, and otherwise the
  -- owners'
  abbrev pub evicted_first : List (Option (Connection S T P)) → Listener
  evicted_first slots = if nat_lt PLANT_RESERVE (number_of (ReadingAt ForPlant) slots) then ForPlant else ForOwners

  -- Of the connections that the filter includes one is closed: those of the listener that goes first, or all if none of that is reading.
  abbrev pub GoesFirst : Slab (Connection S T P) → Filter → Type 0
  GoesFirst connections filter = (filter ≡ ReadingAt (evicted_first connections.slots))
      ⊎ (NoneIncluded (ReadingAt (evicted_first connections.slots)) connections × (filter ≡ Reading))

  -- The connection with this key has been reading longest, of those that go first.
  abbrev pub IsEvicted : Slab (Connection S T P) → ℕ → ℕ → Type 0
  IsEvicted connections key deadline = (filter : Filter) × GoesFirst connections filter × IsEarliest filter connections key deadline

  -- The connection that has been reading longest, of those that go first, is closed.
  pub record EvictsReader (old new : Slab (Connection S T P)) : Type 0 where
    pub key : ℕ
    pub deadline : ℕ
    pub goes : IsEvicted old key deadline
    pub out : Updates old new key None
    pub one_less : slab_len new + 1 ≡ slab_len old

  -- That connection is closed, if any is reading. Otherwise none is.
  abbrev pub EvictsOldest : Slab (Connection S T P) → Slab (Connection S T P) → Type 0
  EvictsOldest old new = (NoneIncluded Reading old × SameValues old new × (slab_len new ≡ slab_len old)) ⊎ EvictsReader old new

  -- Nothing changes, or that connection is closed.
  abbrev pub MayEvict : Slab (Connection S T P) → Slab (Connection S T P) → Type 0
  MayEvict old new = (new ≡ old) ⊎ EvictsReader old new

  -- Connections that are queued or have a reply stay unchanged.
  abbrev pub KeepsSubmitted : Slab (Connection S T P) → Slab (Connection S T P) → Type 0
  KeepsSubmitted old new = (key : ℕ) → IfSome (get old key) (λ connection. connection.state ≢ ReadingState → get new key ≡ Some connection)

  -- Each connection was there before, unchanged.
  abbrev pub NoneNew : Slab (Connection S T P) → Slab (Connection S T P) → Type 0
  NoneNew old new = (key : ℕ) → IfSome (get new key) (λ connection. get old key ≡ Some connection)

  -- No connection is reading any more, and all others are unchanged.
  abbrev pub ClosesReaders : Slab (Connection S T P) → Slab (Connection S T P) → Type 0
  ClosesReaders old new = NoneIncluded Reading new × KeepsSubmitted old new × NoneNew old new

  -- No further owner is to be accepted and none is connected, and all connections that are reading are closed; or an owner is still to come
  -- or is connected, and nothing changes.
  abbrev pub WindsDown : ℕ → Slab (Connection S T P) → Slab (Connection S T P) → Type 0
  WindsDown left old new = ((left ≡ 0) × NoneIncluded Owners old × ClosesReaders old new)
      ⊎ ((new ≡ old) × ((0 < left) ⊎ ((key : ℕ) × (deadline : ℕ) × IsEarliest Owners old key deadline)))

  -- the task that the service has left for each connection, by its key
  abbrev pub tasks_in : Slab (Connection S T P) → Tasks T
  tasks_in connections key = option_and_then (λ connection. task_of connection.state) (get connections key)

  -- Each connection keeps its task, and no other has one.
  abbrev pub KeepsTasks : Slab (Connection S T P) → Slab (Connection S T P) → Type 0
  KeepsTasks old new = (key : ℕ) → tasks_in new key ≡ tasks_in old key

  -- the queued connections, by their keys
  abbrev pub queue_in : Slab (Connection S T P) → Queue P
  queue_in connections key = option_and_then waiting_of (get connections key)

  -- Each queued connection keeps its place, and no other joins.
  abbrev pub KeepsQueue : Slab (Connection S T P) → Slab (Connection S T P) → Type 0
  KeepsQueue old new = (key : ℕ) → queue_in new key ≡ queue_in old key

  abbrev pub NobodyWaits : Slab (Connection S T P) → Type 0
  NobodyWaits connections = (key : ℕ) → queue_in connections key ≡ None

  -- If the connection is of the party that has the turn, its wait begins anew.
  abbrev pub connection_behind : (P → P → Bool) → P → ℕ → Connection S T P → Connection S T P
  connection_behind same party event_count connection = record { stream = connection.stream; request = connection.request; state = state_behind same party event_count connection.state; deadline = connection.deadline }

  -- The request of the connection with this key became whole and joined the queue, and all others keep their places; or nothing joined the
  -- queue.
  abbrev pub JoinsAt : ℕ → Option (Joining P) → ℕ → Slab (Connection S T P) → Slab (Connection S T P) → Type 0
  JoinsAt key None event_count old new = KeepsQueue old new
  JoinsAt key (Some j) event_count old new = (j.whose ≡ key) × (queue_in old key ≡ None)
      × ((whose : ℕ) → queue_in new whose ≡ queue_with (queue_in old) key (newly j.party j.listener j.request event_count) whose)

  -- The connection with this key joined the queue, for a party that the request is of, and so there is one event more; or it didn't.
  abbrev pub MayJoin : (Listener → List ℕ → P → Type 0) → ℕ → ℕ → ℕ → Slab (Connection S T P) → Slab (Connection S T P) → Type 0
  MayJoin is_by key event_count later old new = (joined : Option (Joining P)) × JoinsAt key joined event_count old new
      × (later ≡ event_count + length (option_to_list joined)) × IfSome joined (λ j. is_by j.listener j.request j.party)

  -- The connection was just accepted: it is reading, and nothing of its request was received.
  abbrev pub IsNewcomer : Listener → S → ℕ → Connection S T P → Type 0
  IsNewcomer listener stream now connection =
      (connection.stream ≡ stream) × (bytes_received connection.request ≡ []) × (listener_of connection.request ≡ listener) × (connection.state ≡ ReadingState) × (connection.deadline ≡ deadline_from now)

  -- The accepted connection is stored under its key, which no connection had. If it is one more than may be open, one that is reading is
  -- closed.
  pub record AddsConnection (most now : ℕ) (came : Arrival S) (old new : Slab (Connection S T P)) : Type 0 where
    pub connection : Connection S T P
    pub newcomer : IsNewcomer came.listener came.stream now connection
    pub vacant : get old came.key ≡ None
    pub «with» : Slab (Connection S T P)
    pub added : Updates old «with» came.key (Some connection)
    pub one_more : slab_len «with» ≡ slab_len old + 1
    pub shed : ((slab_len «with» ≤ most) × (new ≡ «with»)) ⊎ ((most < slab_len «with») × EvictsOldest «with» new)

  -- A connection came, and has the slab's next key.
  abbrev pub AddsNext : ℕ → ℕ → Listener → S → Slab (Connection S T P) → Slab (Connection S T P) → Type 0
  AddsNext most now listener stream old new = AddsConnection most now (record { key = old.vacant_key; listener = listener; stream = stream }) old new

  -- The same for each of these connections, one after another; the list has the newest first.
  abbrev pub AddsAll : ℕ → ℕ → List (Arrival S) → Slab (Connection S T P) → Slab (Connection S T P) → Type 0
  AddsAll most now [] old new = new ≡ old
  AddsAll most now (came ∷ before) old new = (middle : Slab (Connection S T P)) × AddsAll most now before old middle × AddsConnection most now came middle new

  -- There were no resources for one more connection. If connections were just accepted, accepting goes on after those were read. Otherwise
  -- one that is reading is closed and accepting goes on then; if none is reading, accepting pauses.
  abbrev pub MakesRoom : ℕ → ℕ → Slab (Connection S T P) → Slab (Connection S T P) → AcceptState → Type 0
  MakesRoom count now old new state =
      ((0 < count) × (new ≡ old) × (state ≡ Backlogged))
      ⊎ ((count ≡ 0) × NoneIncluded Reading old × (new ≡ old) × (state ≡ Paused (min (now + PAUSE_MILLISECONDS) (2 ^ 64 - 1))))
      ⊎ ((count ≡ 0) × EvictsReader old new × (state ≡ Backlogged))

  -- A connection stays after a step in which it waits or joins the queue.
  abbrev pub stays_after : StepResult → Connection S T P → Option (Connection S T P)
  stays_after Waits connection = Some connection
  stays_after Joins connection = Some connection
  stays_after Answered connection = None
  stays_after Failed connection = None

  -- If the connection with this key was there and still is, P holds of it before and after.
  abbrev pub IfStays : ℕ → Slab (Connection S T P) → Slab (Connection S T P) → (Connection S T P → Connection S T P → Type 0) → Type 0
  IfStays key old new P = IfSome (get old key) (λ connection. IfSome (get new key) (λ later. P connection later))

  -- The deadline of a reply begins when there is a reply; no other deadline changes.
  abbrev pub KeepsTime : ℕ → Connection S T P → Connection S T P → Type 0
  KeepsTime now connection later = later.deadline ≡ deadline_after (reply_in_state connection.state) (reply_in_state later.state) connection.deadline now

  -- Connections whose deadline is over are closed, and all others are unchanged. A queued connection has no deadline.
  abbrev pub unless_expired : ℕ → Option (Connection S T P) → Option (Connection S T P)
  unless_expired now None = None
  unless_expired now (Some connection) = if is_some (ticket_of connection.state) || nat_lt now connection.deadline then Some connection else None

  abbrev pub ClosesExpired : ℕ → Slab (Connection S T P) → Slab (Connection S T P) → Type 0
  ClosesExpired now old new = (key : ℕ) → get new key ≡ unless_expired now (get old key)

  -- No connection with another key changed, was added or was closed.
  abbrev pub OnlyAt : ℕ → Slab (Connection S T P) → Slab (Connection S T P) → Type 0
  OnlyAt key old new = (other : ℕ) → other ≢ key → get new other ≡ get old other

  -- It stays if it waits, unless it is shed, and is closed otherwise.
  abbrev pub StaysOrGoes : (P → P → Bool) → ℕ → List (Option (Connection S T P)) → Connection S T P → StepResult → Option (Connection S T P) → Type 0
  StaysOrGoes same most others later step slot =
      (¬ (IsShed same most others later step) × (slot ≡ stays_after step later)) ⊎ (IsShed same most others later step × (slot ≡ None))

  -- The connection with this key advanced as far as its stream allows, and no other did. It stays or goes, as there are these others.
  pub record Hears (same : P → P → Bool) (most : ℕ) (from : source.Ghosts S) (to : sink.Ghosts S) (key : ℕ) (old new : Slab (Connection S T P)) : Type 0 where
    pub went_on : IfSome (get old key) (λ connection. (later : Connection S T P) × (step : StepResult) × Advances from to connection later step
        × StaysOrGoes same most (slice_set old.slots key None) later step (get new key))
    pub nobody : get old key ≡ None → get new key ≡ None
    pub others : OnlyAt key old new

  -- There is a connection, and its deadline is over.
  abbrev pub IsExpired : ℕ → Option (Connection S T P) → Type 0
  IsExpired now None = ⊥
  IsExpired now (Some connection) = ¬ (IsSome (ticket_of connection.state)) × (connection.deadline ≤ now)

  -- One turn of the service. It was of the connection that had waited longest, which handed over its request or its task once. That
  -- connection has the turn's outcome. It is closed if its reply was written, or couldn't be, and no other is: those of its party begin to
  -- wait anew.
  pub record TakesTurn (same : P → P → Bool) (to : sink.Ghosts S) (event_count : ℕ) (turn : Turn T) (old new : Slab (Connection S T P)) : Type 0 where
    pub next : IsNext (queue_in old) turn.whose
    pub input : IsWhatWaits (queue_in old turn.whose) (tasks_in old turn.whose) turn.input
    pub connection : Connection S T P
    pub ticket : Ticket P
    pub later : Connection S T P
    pub step : StepResult
    pub there : get old turn.whose ≡ Some connection
    pub queued : ticket_of connection.state ≡ Some ticket
    pub request : later.request ≡ connection.request
    pub reported : last_poll later.state ≡ Some turn.poll
    pub place : ticket_of later.state ≡ ticket_after turn.poll event_count ticket
    pub pending : IsSome (ticket_of later.state) → step ≡ Waits
    pub writes : Writes to (handed_over connection) later step
    pub stays : get new turn.whose ≡ stays_after step later
    pub others : (other : ℕ) → other ≢ turn.whose → get new other ≡ option_map (connection_behind same ticket.party event_count) (get old other)

  -- The deadline of a reply begins at a millisecond that the clock shows, and no other deadline changes. If no connection is queued, the
  -- clock isn't read.
  abbrev pub TimesReply : Slab (Connection S T P) → Slab (Connection S T P) → Option (Tally S) → Option (Tally S) → Type 0
  TimesReply old new was is =
      (now : ℕ) × ((NobodyWaits old × (is ≡ was)) ⊎ Tallies (ShowsTime now) was is) × ((key : ℕ) → IfStays key old new (KeepsTime now))

-- Connections may be accepted again then.
abbrev pub IsDueAt : AcceptState → ℕ → ℕ → Type 0
IsDueAt Open now most = ⊥
IsDueAt Backlogged now most = most ≡ 0
IsDueAt (Paused deadline) now most = most ≡ deadline - now

-- The time is before the other one, if there is another.
abbrev pub IsBefore : ℕ → Option Earliest → Type 0
IsBefore deadline None = ⊤
IsBefore deadline (Some first) = deadline < first.deadline

-- since when the connection waits, and when it joined the queue
abbrev pub wait_in : {P : Type 0} → Waiting P → Wait
wait_in w = record { since = w.since; queued = w.queued }

-- This wait is longer than the other one, if there is another.
abbrev pub IsLonger : Wait → Option Next → Type 0
IsLonger wait None = ⊤
IsLonger wait (Some next) = (wait.since < next.wait.since) ⊎ ((wait.since ≡ next.wait.since) × (wait.queued < next.wait.queued))
