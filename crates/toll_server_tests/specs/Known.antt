-- A network to which one owner connects, with a known tally.
use Rattle.std.specs.Prelude.{◌≡◌, ℕ, Bool, true, false, All, List, [], ◌∷◌, ◌++◌, map, reverse, Option, None, Some}
use Rattle.toll_server.specs.Networks.{Arrival, Backlog, MayWait, NoneWaits, Tally, Wake}
use Rattle.toll_server.specs.Runs.{Input, Request, TakesTurns, Task, Turn}
use Rattle.toll_server.specs.declared.listener.Listener.{Listener}
use Rattle.toll_server.specs.declared.listener.Listener.TheVariants.{Owners}
use Rattle.toll_server.specs.declared.poll.Poll.{Poll}

-- the tally of a network that has done nothing yet
abbrev pub new_tally : {S : Type 0} → Tally S
new_tally = record {
  owners = 0;
  accepts = 0;
  waits = 0;
  failed = false;
  arrivals = [];
  shortages = [];
  wakes = [];
  unheard = [];
  missed = 0;
  backlog = MayWait;
  is_listening = true;
  clock = 0;
}

-- the owner, if it was accepted: its key, and its stream
abbrev pub arrivals_of : {S : Type 0} → S → Option ℕ → List (Arrival S)
arrivals_of stream None = []
arrivals_of stream (Some key) = record { key = key; listener = Owners; stream = stream } ∷ []

-- how many owners were accepted
abbrev pub count_of_owners : Option ℕ → ℕ
count_of_owners None = 0
count_of_owners (Some key) = 1

-- the key, if there is one
abbrev pub known_keys : Option ℕ → List ℕ
known_keys None = []
known_keys (Some key) = key ∷ []

-- whether the latest call reported that no connection waits at the listeners
abbrev pub backlog_of : Bool → Backlog
backlog_of true = NoneWaits
backlog_of false = MayWait

-- a wait: its limit and its end, the key of the owner if it was accepted, and whether the network listened
abbrev pub wake_of : (Option ℕ × ℕ) × (Option ℕ × Bool) → Wake
wake_of w = record { limit = w.0.0; at = w.0.1; ready = known_keys w.1.0; owners = count_of_owners w.1.0; is_listening = w.1.1 }

-- the waits, the newest first
abbrev pub wakes_of : List ((Option ℕ × ℕ) × (Option ℕ × Bool)) → List Wake
wakes_of waits = map wake_of (reverse waits)

-- The owner with this key sent this request: it is the beginning of these bytes.
abbrev pub IsSentByOwner : Option ℕ → List ℕ → ℕ → Listener → List ℕ → Type 0
IsSentByOwner owner bytes key listener request = (owner ≡ Some key) × (listener ≡ Owners) × ((rest : List ℕ) × (bytes ≡ request ++ rest))

module _ {T : Type 0} where
  -- The service got a request of the owner with this key, or continued a task for that owner.
  abbrev pub IsForOwner : Option ℕ → List ℕ → ℕ → Input T → Type 0
  IsForOwner owner bytes key (Request listener request) = IsSentByOwner owner bytes key listener request
  IsForOwner owner bytes key (Task task) = owner ≡ Some key

  -- The service changed by turns for that owner alone.
  abbrev pub ServesOwner : {O : Type 0} → (O → Listener → List ℕ → Poll T → O → Type 0) → (O → T → Poll T → O → Type 0) → Option ℕ → List ℕ → O → O → Type 0
  ServesOwner answers resumes owner bytes old new =
      (turns : List (Turn T)) × TakesTurns answers resumes old turns new × All (λ turn. IsForOwner owner bytes turn.whose turn.input) turns
