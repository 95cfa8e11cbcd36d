-- What a server does to a keep.
use Rattle.std.specs.Prelude.{◌≡◌, ℕ, Bool, List, None}
use Rattle.toll_service.specs.Common.{Bytes, Meaning, AreOwn, TakesTurns, Turn, after_turns, no_tasks, Listener, Poll, ImportState, Answer, Event}
use Rattle.toll_desk.specs.Reads.{Over}
use Rattle.toll_plant.specs.Common.{History}
use Rattle.toll_keep.specs.Content.{Content}
use Rattle.toll_service.specs.Listeners.{ImportResumed, IsServedIfRoom}
use Rattle.toll_service.specs.Events.{AreAllEventsOf}
use Rattle.toll_wire.specs.OfficeRuns.{IsRunOf}

-- There are events and answers for which Are holds. They are a run from this history, to one that the keep holds.
pub record IsRunAs (holds : Content → Type 0) (H : History) (Are : List Event → List Answer → Type 0) : Type 0 where
  pub events : List Event
  pub answers : List Answer
  pub are : Are events answers
  pub run : IsRunOf holds H events answers

module _ {K : Type 0} (meaning : Meaning K) where
  -- An office answers inputs over its keep.
  abbrev pub AnswersOver : {O : Type 0} → (O → K) → O → Listener → Bytes → Poll ImportState → O → Type 0
  AnswersOver keep old listener requested poll new = IsServedIfRoom meaning (keep old) (keep new) listener requested poll

  -- An office goes on with an import over its keep.
  abbrev pub ResumesOver : {O : Type 0} → (O → K) → O → ImportState → Poll ImportState → O → Type 0
  ResumesOver keep old import poll new = (keep_usable : Bool) × ImportResumed meaning (keep old) (keep new) import poll keep_usable

  -- These turns changed the one office into the other.
  abbrev pub RunsOver : {O : Type 0} → (O → K) → O → List (Turn ImportState) → O → Type 0
  RunsOver keep = TakesTurns (AnswersOver keep) (ResumesOver keep)

  -- From each lawful history that the keep stood for, the turns are events with their answers. They are a run, to a history that the keep
  -- stands for afterwards.
  abbrev pub WereServed : K → K → List (Turn ImportState) → Type 0
  WereServed old new turns = Over meaning old new (λ c H. IsRunAs (meaning.holds new) H (AreAllEventsOf turns))

  -- If these turns over its keep changed the one office into the other, they were a run.
  abbrev pub IsRunWhereAnswered : {O : Type 0} → (O → K) → O → O → List (Turn ImportState) → Type 0
  IsRunWhereAnswered keep old new turns = RunsOver keep old turns new → WereServed (keep old) (keep new) turns

  -- The keep changed by turns alone. Each import was continued for the client that began it, and once everything is over, none is left.
  pub record HasServed (old new : K) (IsOver : Type 0) : Type 0 where
    pub turns : List (Turn ImportState)
    pub runs : RunsOver (λ keep. keep) old turns new
    pub own : AreOwn no_tasks turns
    pub over : IsOver → (whose : ℕ) → after_turns no_tasks turns whose ≡ None
    pub were : WereServed old new turns
