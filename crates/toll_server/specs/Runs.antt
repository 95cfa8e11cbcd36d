-- Turns of the service, one after another.
use Rattle.std.specs.Prelude.{◌≡◌, ◌==◌, ℕ, List, [], ◌∷◌, ⊤, Option, None, Some, if◌then◌else◌}
use Rattle.toll_server.specs.ConnectionStates.{pending_task}
use Rattle.toll_server.specs.declared.listener.Listener.{Listener}
use Rattle.toll_server.specs.declared.poll.Poll.{Poll}

-- what a turn hands to the service: a request, with its listener, or a task that the service left
pub data Input (T : Type 0) : Type 0 where
  Request : (listener : Listener) → (request : List ℕ) → Input T
  Task : (task : T) → Input T

-- a turn of the service: its connection, by a number; what was handed to it; and the outcome
pub record Turn (T : Type 0) : Type 0 where
  pub whose : ℕ
  pub input : Input T
  pub poll : Poll T

-- the task that each connection has left
abbrev pub Tasks : Type 0 → Type 0
Tasks T = ℕ → Option T

module _ {T : Type 0} where
  -- No connection has a task left.
  abbrev pub no_tasks : Tasks T
  no_tasks whose = None

  -- the tasks left after a turn
  abbrev pub after_turn : Tasks T → Turn T → Tasks T
  after_turn left turn whose = if whose == turn.whose then pending_task turn.poll else left whose

  -- the tasks left after these turns, one after another
  abbrev pub after_turns : Tasks T → List (Turn T) → Tasks T
  after_turns left [] = left
  after_turns left (turn ∷ turns) = after_turns (after_turn left turn) turns

  -- A connection without a task hands over a request; one with a task hands over that task.
  abbrev pub IsOwnInput : Option T → Input T → Type 0
  IsOwnInput left (Request listener request) = left ≡ None
  IsOwnInput left (Task task) = left ≡ Some task

  -- Each turn hands over what the turns before it left: each task once, for the connection that it was left for.
  abbrev pub AreOwn : Tasks T → List (Turn T) → Type 0
  AreOwn left [] = ⊤
  AreOwn left (turn ∷ turns) = IsOwnInput (left turn.whose) turn.input × AreOwn (after_turn left turn) turns

module _ {O T : Type 0} (answers : O → Listener → List ℕ → Poll T → O → Type 0) (resumes : O → T → Poll T → O → Type 0) where
  -- The input has this outcome, and leaves this service.
  abbrev pub Yields : O → Input T → Poll T → O → Type 0
  Yields old (Request listener request) poll new = answers old listener request poll new
  Yields old (Task task) poll new = resumes old task poll new

  -- Each turn acts on the service that the turns before it left.
  abbrev pub TakesTurns : O → List (Turn T) → O → Type 0
  TakesTurns old [] new = new ≡ old
  TakesTurns old (turn ∷ turns) new = (middle : O) × Yields old turn.input turn.poll middle × TakesTurns middle turns new

  -- The service changed by these turns alone, and the tasks left follow from them.
  pub record IsServiceRun (old new : O) (left now_left : Tasks T) : Type 0 where
    pub turns : List (Turn T)
    pub runs : TakesTurns old turns new
    pub own : AreOwn left turns
    pub rest : (whose : ℕ) → after_turns left turns whose ≡ now_left whose

  -- The same, beginning without tasks. Once everything is over, no task is left.
  abbrev pub IsWholeRun : O → O → Type 0 → Type 0
  IsWholeRun old new IsOver = (left : Tasks T) × IsServiceRun old new no_tasks left × (IsOver → (whose : ℕ) → left whose ≡ None)
