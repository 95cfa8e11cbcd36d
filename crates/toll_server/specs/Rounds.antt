-- Rounds of serving. In each, one wait ends, the ready connections are read, and the service takes a turn.
use Rattle.std.specs.Prelude.{◌≡◌, ◌≤◌, ◌+◌, ◌-◌, ◌++◌, ◌⊎◌, ℕ, Bool, List, [], ◌∷◌, length, map, flat_map, filter_map, reverse, All, Option, IfSome}
use Rattle.std.specs.List.{Contains}
use Rattle.std.specs.Io.KnownBytes.{Consumes}
use Rattle.toll_protocol.specs.declared.streams.sink.Sink as sink
use Rattle.toll_protocol.specs.declared.streams.source.Source as source
use Rattle.toll_server.specs.Connections.{IsDueAt, IsDueTo, IsInTime}
use Rattle.toll_server.specs.Networks.{Arrival, ListensFor, Tallies, Tally, Wake}
use Rattle.toll_server.specs.Queues.{AreInTurn, Joining, NoneTwice, Serves}
use Rattle.toll_server.specs.ServerEvents.{Accepting, Ends, HasRun, Hearing, IsNew, IsServerRun, IsStep, Server, ServerEvent, Serving, Takes, Waits, advanced_in, arrival_in, expired_in, joined_in, queue_events, server_at, shortage_in, wake_in}
use Rattle.toll_server.specs.Runs.{Turn}
use Rattle.toll_server.specs.WholeRequests.{AreHandedOnce, AreWholeJoined}
use Rattle.toll_server.specs.declared.connections.Connections.{Connections}
use Rattle.toll_server.specs.declared.listener.Listener.{Listener}
use Rattle.toll_server.specs.declared.network.TheConstants.{MOST_READY}
use Rattle.toll_server.specs.declared.poll.Poll.{Poll}

-- At each wait the network listened as before while owners were still to be accepted, and didn't listen once none was. The same holds now.
pub record ListensTill {S : Type 0} (count : ℕ) (t u : Tally S) : Type 0 where
  pub wakes : List Wake
  pub waited : u.wakes ≡ wakes ++ t.wakes
  pub meanwhile : All (λ w. ListensFor (t.owners + count - w.owners) t.is_listening w.is_listening) wakes
  pub now : ListensFor (t.owners + count - u.owners) t.is_listening u.is_listening

-- An accepted connection sent this request: it has this key and this listener, and its stream began with these bytes.
pub record IsSentBySome {S P : Type 0} (unread : S → Option (List ℕ)) (arrivals : List (Arrival S)) (j : Joining P) : Type 0 where
  pub came : Arrival S
  pub among : Contains arrivals came
  pub key : came.key ≡ j.whose
  pub listener : came.listener ≡ j.listener
  pub rest : Option (List ℕ)
  pub begins : Consumes (unread came.stream) rest j.request

-- Each turn was of the connection that had waited longest, and no party had two while another one waited. Each request that joined was handed
-- over once, or waits for its first turn, and it came from an accepted connection. After each wait those advanced that were ready then, and those were closed whose deadlines were over when it ended. The end
-- began only once no owner was left.
pub record AreRounds {S T P : Type 0} (same : P → P → Bool) (is_by : Listener → List ℕ → P → Type 0) (unread : S → Option (List ℕ)) (events : List (ServerEvent S T P)) (left : ℕ) : Type 0 where
  pub in_turn : AreInTurn same is_by (queue_events events)
  pub none_twice : NoneTwice same (queue_events events)
  pub handed : AreHandedOnce same (queue_events events)
  pub requested : All (IsSentBySome unread (filter_map arrival_in events)) (filter_map joined_in events)
  pub advanced : filter_map advanced_in events ≡ flat_map (λ wake. reverse wake.ready) (filter_map wake_in events)
  pub expired : filter_map expired_in events ≡ map (λ wake. wake.at) (filter_map wake_in events)
  pub ended : Contains events Ends → left ≡ 0

module _ {S T P O : Type 0} (same : P → P → Bool) (is_by : Listener → List ℕ → P → Type 0) (answers : O → Listener → List ℕ → Poll T → O → Type 0)
    (resumes : O → T → Poll T → O → Type 0) (from : source.Ghosts S) (to : sink.Ghosts S) where
  -- If a new server served by these events, they are rounds. In each of them a request that became whole joined the queue, or its
  -- connection was closed because its party had its share.
  abbrev pub IsServedInRounds : List (ServerEvent S T P) → Type 0
  IsServedInRounds events = (most count : ℕ) (first last : Server S T P) (old new : O) → IsNew count first → (run : IsServerRun same from to most first events last) → last.stage ≡ Accepting
      → Serves is_by answers resumes old (queue_events events) new → AreRounds same is_by from.unread events last.owners_left × AreWholeJoined same from to most first events last run

  -- The one server became the other by events over a network, and the service did nothing but what these events have it do.
  abbrev pub ServesFrom : ℕ → Server S T P → Server S T P → O → O → Option (Tally S) → Option (Tally S) → Type 0
  ServesFrom most first last old new was is = (ran : HasRun same from to most first last was is) × Serves is_by answers resumes old (queue_events ran.events) new

  -- Every ready connection advanced, one after another, and no other.
  pub record HasHeard (old new : Connections S T P) (was is : Option (Tally S)) : Type 0 where
    pub keys : List ℕ
    pub events : List (ServerEvent S T P)
    pub run : (at : ℕ) → IsServerRun same from to old.most_open (server_at old (Hearing keys at)) events (server_at new (Hearing [] at))
    pub served : (service : O) → Serves is_by answers resumes service (queue_events events) service
    pub alone : (filter_map arrival_in events ≡ []) × (filter_map wake_in events ≡ []) × (filter_map shortage_in events ≡ [])
    pub all : Tallies (λ t u. length t.unheard ≤ MOST_READY → (keys ≡ t.unheard) × (u ≡ record t { unheard = [] })) was is

  -- One wait: it ended before any connection's deadline, and not before the first thing that there may be to do. Then every ready
  -- connection advanced, and those whose deadline was over were closed, and no others.
  pub record HasWaited (now : ℕ) (old new : Connections S T P) (was is : Option (Tally S)) : Type 0 where
    pub wake : Wake
    pub at : wake.at ≡ now
    pub began : ℕ
    pub in_time : IsInTime wake.limit began old.slots
    pub due : IfSome wake.limit (λ most. IsDueAt old.accept_state began most ⊎ IsDueTo old.slots began most)
    pub events : List (ServerEvent S T P)
    pub run : IsServerRun same from to old.most_open (server_at old Accepting) events (server_at new Serving)
    pub served : (service : O) → Serves is_by answers resumes service (queue_events events) service
    pub alone : (filter_map arrival_in events ≡ []) × (filter_map wake_in events ≡ wake ∷ []) × (filter_map shortage_in events ≡ [])
    pub known : Tallies (λ t u. (t.clock ≤ began) × (began ≤ now) × (wake.owners ≡ t.owners) × (wake.is_listening ≡ t.is_listening)
        × (u ≡ record t { waits = t.waits + 1; wakes = wake ∷ t.wakes; unheard = []; missed = t.missed + length t.unheard; clock = now })) was is

  -- The service took a turn for the connection that has waited longest, or no connection is queued.
  abbrev pub TakesNext : Connections S T P → Connections S T P → O → O → Type 0
  TakesNext old new was is = (turn : Option (Turn T)) × IsStep same from to old.most_open (Takes turn) (server_at old Serving) (server_at new Accepting)
      × Serves is_by answers resumes was (queue_events {S = S} (Takes turn ∷ [])) is
