-- The queue for the service, and whose turn is next: a function of the events so far, newest first.
use Rattle.std.specs.Prelude.{◌≡◌, ◌==◌, ◌<◌, ◌⊎◌, ℕ, Bool, false, List, [], ◌∷◌, ◌++◌, length, ⊤, Option, None, Some, IfSome, IsTrue, option_map, option_and_then, if◌then◌else◌}
use Rattle.toll_server.specs.Runs.{Input, IsServiceRun, Request, Task, Tasks, Turn, Yields, after_turn, no_tasks}
use Rattle.toll_server.specs.declared.listener.Listener.{Listener}
use Rattle.toll_server.specs.declared.poll.Poll.{Poll}
use Rattle.toll_server.specs.declared.poll.Poll.TheVariants.{Ready, Pending}

-- a request that became whole: its connection's key, its listener, its bytes, and its party
pub record Joining (P : Type 0) : Type 0 where
  pub whose : ℕ
  pub listener : Listener
  pub request : List ℕ
  pub party : P

-- an event: a connection's request became whole and joins the queue, with its listener and party; or the service takes a turn
pub data QueueEvent (T P : Type 0) : Type 0 where
  Joins : (whose : ℕ) → (listener : Listener) → (request : List ℕ) → (party : P) → QueueEvent T P
  Takes : (turn : Turn T) → QueueEvent T P

-- a place in the queue: the party, its listener and its request, the number of events before it joined the queue, and the number before its
-- wait began
pub record Waiting (P : Type 0) : Type 0 where
  pub party : P
  pub listener : Listener
  pub request : List ℕ
  pub queued : ℕ
  pub since : ℕ

-- the queued connections, by their keys
abbrev pub Queue : Type 0 → Type 0
Queue P = ℕ → Option (Waiting P)

module _ {P : Type 0} where
  -- Its wait began before the other's; or both waits began together, and it joined the queue first.
  abbrev pub HasWaitedLonger : Waiting P → Waiting P → Type 0
  HasWaitedLonger v w = (v.since < w.since) ⊎ ((v.since ≡ w.since) × (v.queued < w.queued))

  -- This connection is queued, and none has waited longer.
  pub record IsNext (queue : Queue P) (whose : ℕ) : Type 0 where
    pub waiting : Waiting P
    pub there : queue whose ≡ Some waiting
    pub longest : (other : ℕ) → IfSome (queue other) (λ w. ¬ (HasWaitedLonger w waiting))

  -- a place in the queue after its turn: with a reply it is gone; with a task left it joins the queue anew
  abbrev pub waits_on : {T : Type 0} → Poll T → ℕ → Waiting P → Option (Waiting P)
  waits_on (Ready text) event_count w = None
  waits_on (Pending task) event_count w = Some (record { party = w.party; listener = w.listener; request = w.request; queued = event_count; since = event_count })

-- The turn hands over the connection's task if it has one, and otherwise the request with which it is queued.
abbrev pub IsWhatWaits : {T P : Type 0} → Option (Waiting P) → Option T → Input T → Type 0
IsWhatWaits None left input = ⊥
IsWhatWaits (Some w) None input = input ≡ Request w.listener w.request
IsWhatWaits (Some w) (Some task) input = input ≡ Task task

module _ {T P : Type 0} where
  -- the turns that were taken, the oldest first
  abbrev pub turns_taken : List (QueueEvent T P) → List (Turn T)
  turns_taken [] = []
  turns_taken (Joins whose listener request party ∷ before) = turns_taken before
  turns_taken (Takes turn ∷ before) = turns_taken before ++ turn ∷ []

  -- the task that each connection has left after these events
  abbrev pub tasks_of : List (QueueEvent T P) → Tasks T
  tasks_of [] = no_tasks
  tasks_of (Joins whose listener request party ∷ before) = tasks_of before
  tasks_of (Takes turn ∷ before) = after_turn (tasks_of before) turn

-- The service named the party of each request, and took each turn; it did nothing else.
abbrev pub Serves : {O T P : Type 0} → (Listener → List ℕ → P → Type 0) → (O → Listener → List ℕ → Poll T → O → Type 0) → (O → T → Poll T → O → Type 0)
    → O → List (QueueEvent T P) → O → Type 0
Serves is_by answers resumes old [] new = new ≡ old
Serves is_by answers resumes old (Joins whose listener request party ∷ before) new = is_by listener request party × Serves is_by answers resumes old before new
Serves {O} is_by answers resumes old (Takes turn ∷ before) new =
    (middle : O) × Serves is_by answers resumes old before middle × Yields answers resumes middle turn.input turn.poll new

module _ {P : Type 0} (same : P → P → Bool) where
  -- whether the place in the queue belongs to this party
  abbrev pub is_of : P → Option (Waiting P) → Bool
  is_of party None = false
  is_of party (Some w) = same party w.party

  -- Some connection of this party is queued.
  abbrev pub PartyWaits : P → Queue P → Type 0
  PartyWaits party queue = (whose : ℕ) × IsTrue (is_of party (queue whose))

  -- If the place belongs to the party that has the turn, its wait begins anew.
  abbrev pub queued_behind : Option (Waiting P) → ℕ → Waiting P → Waiting P
  queued_behind None event_count w = w
  queued_behind (Some served) event_count w =
      if same served.party w.party then record { party = w.party; listener = w.listener; request = w.request; queued = w.queued; since = event_count } else w

  -- the queue after a turn
  abbrev pub queue_after : {T : Type 0} → Queue P → Turn T → ℕ → Queue P
  queue_after queue turn event_count whose =
      if whose == turn.whose then option_and_then (waits_on turn.poll event_count) (queue whose) else option_map (queued_behind (queue turn.whose) event_count) (queue whose)

-- the queue after a request joined it
abbrev pub queue_with : {P : Type 0} → Queue P → ℕ → Waiting P → Queue P
queue_with queue joins waiting whose = if whose == joins then Some waiting else queue whose

-- a place in the queue for a new request, whose wait begins now
abbrev pub newly : {P : Type 0} → P → Listener → List ℕ → ℕ → Waiting P
newly party listener request event_count = record { party = party; listener = listener; request = request; queued = event_count; since = event_count }

module _ {T P : Type 0} (same : P → P → Bool) where
  -- the queue after these events
  abbrev pub queue_of : List (QueueEvent T P) → Queue P
  queue_of [] whose = None
  queue_of (Joins joins listener request party ∷ before) whose = queue_with (queue_of before) joins (newly party listener request (length before)) whose
  queue_of (Takes turn ∷ before) whose = queue_after same (queue_of before) turn (length before) whose

  -- Each request belongs to the party named with it, and its connection wasn't queued yet. Each turn was of the connection that had waited
  -- longest, and handed over what that connection was queued with.
  abbrev pub AreInTurn : (Listener → List ℕ → P → Type 0) → List (QueueEvent T P) → Type 0
  AreInTurn is_by [] = ⊤
  AreInTurn is_by (Joins whose listener request party ∷ before) = is_by listener request party × (queue_of before whose ≡ None) × AreInTurn is_by before
  AreInTurn is_by (Takes turn ∷ before) =
      IsNext (queue_of before) turn.whose × IsWhatWaits (queue_of before turn.whose) (tasks_of before turn.whose) turn.input × AreInTurn is_by before

  -- The first party had a turn while a connection of the second was queued, and the second has had no turn since.
  abbrev pub IsPassedOver : P → P → List (QueueEvent T P) → Type 0
  IsPassedOver first second [] = ⊥
  IsPassedOver first second (Joins whose listener request party ∷ before) = IsPassedOver first second before
  IsPassedOver first second (Takes turn ∷ before) =
      ¬ (IsTrue (is_of same second (queue_of before turn.whose)))
      × ((IsTrue (is_of same first (queue_of before turn.whose)) × PartyWaits same second (queue_of before)) ⊎ IsPassedOver first second before)

  -- No party had two turns while another party was queued.
  abbrev pub NoneTwice : List (QueueEvent T P) → Type 0
  NoneTwice [] = ⊤
  NoneTwice (Joins whose listener request party ∷ before) = NoneTwice before
  NoneTwice (Takes turn ∷ before) =
      ((first second : P) → IsTrue (is_of same first (queue_of before turn.whose)) → ¬ (IsPassedOver first second before)) × NoneTwice before

  -- This is the history of events: their number, the queue and the tasks follow from it, and each turn was taken in order.
  pub record IsHistory (is_by : Listener → List ℕ → P → Type 0) (history : List (QueueEvent T P)) (event_count : ℕ) (queue : Queue P) (left : Tasks T) : Type 0 where
    pub moment_is : event_count ≡ length history
    pub waits : (whose : ℕ) → queue whose ≡ queue_of history whose
    pub tasks : (whose : ℕ) → left whose ≡ tasks_of history whose
    pub in_turn : AreInTurn is_by history

  -- The service changed by these turns alone, each taken in order, and no party had two while another party was queued.
  pub record IsServedInTurn {O : Type 0} (is_by : Listener → List ℕ → P → Type 0) (answers : O → Listener → List ℕ → Poll T → O → Type 0) (resumes : O → T → Poll T → O → Type 0) (old new : O) : Type 0 where
    pub history : List (QueueEvent T P)
    pub left : Tasks T
    pub run : IsServiceRun answers resumes old new no_tasks left
    pub its : run.turns ≡ turns_taken history
    pub in_turn : AreInTurn is_by history
    pub none_twice : NoneTwice history
