-- What a server does, event after event.
use Rattle.std.specs.Prelude.{◌≡◌, ◌+◌, ◌++◌, ℕ, Bool, List, [], ◌∷◌, length, Option, None, Some, IfSome, filter_map, option_to_list}
use Rattle.slab.specs.Slab.{Slab, get}
use Rattle.toll_protocol.specs.declared.streams.sink.Sink as sink
use Rattle.toll_protocol.specs.declared.streams.source.Source as source
use Rattle.toll_server.specs.Connections.{AddsConnection, ClosesExpired, ClosesReaders, Hears, JoinsAt, KeepsTasks, MayEvict, NobodyWaits, NoneIncluded, TakesTurn}
use Rattle.toll_server.specs.Networks.{Arrival, Tallies, Tally, Wake, owners_at}
use Rattle.toll_server.specs.Queues.{Joining, Joins, QueueEvent, Serves, Takes as Turned}
use Rattle.toll_server.specs.Runs.{Turn}
use Rattle.toll_server.specs.declared.connection.Connection.{Connection}
use Rattle.toll_server.specs.declared.connections.Connections.{Connections}
use Rattle.toll_server.specs.declared.filter.Filter.TheVariants.{Owners}
use Rattle.toll_server.specs.declared.listener.Listener.{Listener}
use Rattle.toll_server.specs.declared.poll.Poll.{Poll}

-- the stage of a round: connections are accepted; those with these keys are still to advance, after a wait that was over at this millisecond;
-- the service is to take a turn
pub data Stage : Type 0 where
  Accepting : Stage
  Hearing : (keys : List ℕ) → (at : ℕ) → Stage
  Serving : Stage

-- an event: a connection was accepted, at a millisecond, and one too many is evicted; one was accepted for which there was no memory, and one
-- may be evicted; the network had no resources for one with this key, and one may be evicted; no owner is left, and those that are reading are
-- closed; a wait was over; the one with this key was ready and advanced, and its request may have become whole; those whose deadlines were over
-- at this millisecond are closed; the service took a turn, or none waited for one
pub data ServerEvent (S T P : Type 0) : Type 0 where
  Comes : (came : Arrival S) → (at : ℕ) → ServerEvent S T P
  IsLost : (came : Arrival S) → ServerEvent S T P
  IsShort : (key : ℕ) → ServerEvent S T P
  Ends : ServerEvent S T P
  Waits : (wake : Wake) → ServerEvent S T P
  Advances : (whose : ℕ) → (joined : Option (Joining P)) → ServerEvent S T P
  Expires : (at : ℕ) → ServerEvent S T P
  Takes : (turn : Option (Turn T)) → ServerEvent S T P

-- a server: its open connections, the number of requests that became whole and of turns so far, and of owners that are still to be accepted
pub record Server (S T P : Type 0) : Type 0 where
  pub slots : Slab (Connection S T P)
  pub event_count : ℕ
  pub owners_left : ℕ
  pub stage : Stage

module _ {S T P : Type 0} where
  abbrev pub server_at : Connections S T P → Stage → Server S T P
  server_at connections stage = record { slots = connections.slots; event_count = connections.event_count; owners_left = connections.owners_left; stage = stage }

  abbrev pub arrival_in : ServerEvent S T P → Option (Arrival S)
  arrival_in (Comes came at) = Some came
  arrival_in (IsLost came) = Some came
  arrival_in _ = None

  abbrev pub shortage_in : ServerEvent S T P → Option ℕ
  shortage_in (IsShort key) = Some key
  shortage_in _ = None

  abbrev pub wake_in : ServerEvent S T P → Option Wake
  wake_in (Waits wake) = Some wake
  wake_in _ = None

  abbrev pub advanced_in : ServerEvent S T P → Option ℕ
  advanced_in (Advances whose joined) = Some whose
  advanced_in _ = None

  abbrev pub joined_in : ServerEvent S T P → Option (Joining P)
  joined_in (Advances whose joined) = joined
  joined_in _ = None

  abbrev pub expired_in : ServerEvent S T P → Option ℕ
  expired_in (Expires at) = Some at
  expired_in _ = None

  abbrev pub queue_event : ServerEvent S T P → Option (QueueEvent T P)
  queue_event (Advances whose (Some j)) = Some (Joins j.whose j.listener j.request j.party)
  queue_event (Takes (Some turn)) = Some (Turned turn)
  queue_event _ = None

  -- what the events do to the queue
  abbrev pub queue_events : List (ServerEvent S T P) → List (QueueEvent T P)
  queue_events = filter_map queue_event

  -- how many owners' connections the event accepts
  abbrev pub owners_in : ServerEvent S T P → ℕ
  owners_in (Comes came at) = owners_at came.listener
  owners_in (IsLost came) = owners_at came.listener
  owners_in _ = 0

  -- The event leads from the one stage to the other: after each wait all that are ready advance, one after another.
  abbrev pub Passes : ServerEvent S T P → Stage → Stage → Type 0
  Passes (Waits wake) old new = (old ≡ Accepting) × (new ≡ Hearing wake.ready wake.at)
  Passes (Advances whose joined) old new = (keys : List ℕ) × (at : ℕ) × (old ≡ Hearing (whose ∷ keys) at) × (new ≡ Hearing keys at)
  Passes (Expires at) old new = (old ≡ Hearing [] at) × (new ≡ Serving)
  Passes (Takes turn) old new = (old ≡ Serving) × (new ≡ Accepting)
  Passes _ old new = (old ≡ Accepting) × (new ≡ Accepting)

  -- The network's tally agrees with these events: it has all connections that were accepted,
  -- each time that it had no resources, and all waits, and each ready connection advanced.
  pub record Agrees (first : Server S T P) (events : List (ServerEvent S T P)) (last : Server S T P) (t u : Tally S) : Type 0 where
    pub owners : u.owners + last.owners_left ≡ t.owners + first.owners_left
    pub accepted : u.arrivals ≡ filter_map arrival_in events ++ t.arrivals
    pub short : u.shortages ≡ filter_map shortage_in events ++ t.shortages
    pub waited : u.wakes ≡ filter_map wake_in events ++ t.wakes
    pub none_missed : t.unheard ≡ [] → (u.unheard ≡ []) × (u.missed ≡ t.missed)

  -- No connection is open yet, and this number of owners is to be accepted.
  pub record IsNew (count : ℕ) (server : Server S T P) : Type 0 where
    pub none : (key : ℕ) → get server.slots key ≡ None
    pub event_count : server.event_count ≡ 0
    pub owners_left : server.owners_left ≡ count
    pub stage : server.stage ≡ Accepting

module _ {S T P : Type 0} (same : P → P → Bool) (from : source.Ghosts S) (to : sink.Ghosts S) (most : ℕ) where
  -- what the event does to the open connections
  abbrev pub Changes : ServerEvent S T P → Server S T P → Slab (Connection S T P) → Type 0
  Changes (Comes came at) old new = AddsConnection most at came old.slots new
  Changes (IsLost came) old new = (full : Slab (Connection S T P)) × (full.slots ≡ old.slots.slots) × MayEvict full new
  Changes (IsShort key) old new = MayEvict old.slots new
  Changes Ends old new = (old.owners_left ≡ 0) × NoneIncluded Owners old.slots × ClosesReaders old.slots new
  Changes (Waits wake) old new = new ≡ old.slots
  Changes (Advances whose joined) old new =
      Hears same most from to whose old.slots new × KeepsTasks old.slots new × JoinsAt whose joined old.event_count old.slots new
  Changes (Expires at) old new = ClosesExpired at old.slots new
  Changes (Takes None) old new = NobodyWaits old.slots × (new ≡ old.slots)
  Changes (Takes (Some turn)) old new = TakesTurn same to old.event_count turn old.slots new

  pub record IsStep (event : ServerEvent S T P) (old new : Server S T P) : Type 0 where
    pub stage : Passes event old.stage new.stage
    pub owners : new.owners_left + owners_in event ≡ old.owners_left
    pub event_count : new.event_count ≡ old.event_count + length (option_to_list (queue_event event))
    pub slots : Changes event old new.slots

  -- These events, newest first, lead from the one server to the other.
  abbrev pub IsServerRun : Server S T P → List (ServerEvent S T P) → Server S T P → Type 0
  IsServerRun old [] new = new ≡ old
  IsServerRun old (event ∷ before) new = (middle : Server S T P) × IsServerRun old before middle × IsStep event middle new

  -- The same, over a network. Calls of it that failed are no events.
  pub record HasRun (old new : Server S T P) (was is : Option (Tally S)) : Type 0 where
    pub events : List (ServerEvent S T P)
    pub run : IsServerRun old events new
    pub net : Tallies (Agrees old events new) was is

  -- A new server, which admits so many connections, served by these events alone, and the service did nothing but what the events have it do.
  -- Each round was ended. Once it is over, no connection is open.
  pub record IsServed {O : Type 0} (is_by : Listener → List ℕ → P → Type 0) (answers : O → Listener → List ℕ → Poll T → O → Type 0)
      (resumes : O → T → Poll T → O → Type 0) (limit : Option ℕ) (count : ℕ) (IsOver : Type 0) (old new : O) (was is : Option (Tally S)) : Type 0 where
    pub admits : IfSome limit (λ m. most ≡ m)
    pub first : Server S T P
    pub fresh : IsNew count first
    pub last : Server S T P
    pub rests : last.stage ≡ Accepting
    pub ran : HasRun first last was is
    pub served : Serves is_by answers resumes old (queue_events ran.events) new
    pub over : IsOver → (key : ℕ) → get last.slots key ≡ None
