-- Steps of the office over a keep, and runs of them.
use Rattle.std.specs.Prelude.{◌≡◌, ◌≢◌, ◌⊎◌, List, [], ◌∷◌, Option, Some, None, Result, Ok, Err}
use Rattle.toll_desk.specs.Common.{CallEffect, Content, ContentKeepsRules, Damaged, History, IsLawful, IsSpared, KeepFault, Meaning, Memory, OverContent, Settles}
use Rattle.toll_desk.specs.Outcome.{LeavesOr}
use Rattle.toll_desk.specs.Reads.{Over}
use Rattle.toll_desk.specs.Representing.{Represents}
use Rattle.toll_history.specs.Runs.{IsRun}

-- a keep, a content that it holds, and a history that this stands for
pub record OfficeState (K : Type 0) : Type 0 where
  pub keep : K
  pub content : Content
  pub history : History

abbrev pub state_at : {K : Type 0} → K → Content → History → OfficeState K
state_at k c H = record { keep = k; content = c; history = H }

-- `Step` says which answer an event may get over a history, and which history it leads to; `MayMake` what an event may make of a history
module _ {K E A : Type 0} (meaning : Meaning K) (Step : History → E → A → History → Type 0) (MayMake : History → E → History → Type 0) where
  -- The event gets the answer in one step of the history, and the rows after it are held. A stop during the step leaves the rows from before,
  -- or rows that the event makes of them. A stop after it leaves the rows after it, unless the store met a cause of Disk.
  pub record IsOfficeStep (old : OfficeState K) (event : E) (answer : A) (new : OfficeState K) : Type 0 where
    pub step : Step old.history event answer new.history
    pub lawful : IsLawful new.history
    pub held : meaning.holds new.keep new.content
    pub stands : Represents new.content new.history
    pub crash : meaning.is_store_open old.keep → (G : History) × MayMake old.history event G × LeavesOr (meaning.leaves new.keep) old.content G
    pub settled : meaning.is_store_open old.keep → meaning.leaves new.keep (new.content ∷ []) ⊎ meaning.has_cause old.keep new.keep

  -- From this content and history there is such a step.
  abbrev pub IsStepFrom : K → Content → History → E → A → K → Type 0
  IsStepFrom old c H event answer new = (d : Content) × (G : History) × IsOfficeStep (state_at old c H) event answer (state_at new d G)

  -- From this content and history there are such steps, one after another.
  abbrev pub AreStepsFrom : K → Content → History → List E → List A → K → Type 0
  AreStepsFrom old c H events answers new = (d : Content) × (G : History) × IsRun IsOfficeStep (state_at old c H) events answers (state_at new d G)

-- ---- one step over a keep, whatever it holds

-- the outcome of the calls of a keep; `None` if it was not called
abbrev pub Calls : Type 0
Calls = Option (Result (Unit {0}) KeepFault)

-- calls that give this result, whatever the value
abbrev pub calls_of : {X : Type 0} → Result X KeepFault → Calls
calls_of (Ok x) = Some (Ok tt)
calls_of (Err fault) = Some (Err fault)

-- The keep is as after a call with this outcome. It is the same if it was not called.
abbrev pub AfterCalls : {K : Type 0} → Meaning K → (old new : K) → Calls → Type 0
AfterCalls meaning old new None = new ≡ old
AfterCalls meaning old new (Some outcome) = CallEffect meaning old new outcome

-- The effect of the calls that one step makes, whatever rows the keep has.
pub record StoreEffect {K : Type 0} (meaning : Meaning K) (old new : K) (calls : Calls) : Type 0 where
  -- A keep that is honest now was honest before.
  pub honest : meaning.is_honest new → meaning.is_honest old
  pub goes : AfterCalls meaning old new calls
  -- After the step an open store stays open and a stop leaves what is held, or there was a cause of Disk.
  pub settles : Settles meaning old new
  -- After Memory nothing has changed.
  pub spared : calls ≡ Some (Err Memory) → IsSpared meaning old new
  -- Rows that keep the rules never give Damaged.
  pub whole : OverContent meaning old new (λ c. ContentKeepsRules c → calls ≢ Some (Err Damaged))

-- The steps for one kind of events and their answers.
pub record StepKind (E A : Type 0) : Type 1 where
  -- the event may get the answer over the first history, and leads to the second
  pub step : History → E → A → History → Type 0
  -- what an event may make of a history
  pub may_make : History → E → History → Type 0
  -- the outcome of the calls of the keep, if the event gets this answer
  pub calls : E → A → Calls → Type 0
  -- this is so if the event changes no row of the content
  pub if_still : Content → E → A → Type 0 → Type 0

-- The event gets the answer in one step from whatever the keep holds.
pub record IsKeepStep {K E A : Type 0} (meaning : Meaning K) (kind : StepKind E A) (old : K) (event : E) (answer : A) (new : K) : Type 0 where
  pub outcome : Calls
  pub calls : kind.calls event answer outcome
  pub store : StoreEffect meaning old new outcome
  -- What is held stays, whatever rows there are.
  pub still : OverContent meaning old new (λ c. kind.if_still c event answer (meaning.holds new c))
  -- Over a lawful history the answer and the rows are those of the step.
  pub over : Over meaning old new (λ c H. IsStepFrom meaning kind.step kind.may_make old c H event answer new)

-- ---- events that are answered, or meet a fault

module _ {E X : Type 0} (Answers : History → E → X → Type 0) (after : History → E → History) where
  -- The answer is right and the history grows by the event; or there was a fault, and the history stays.
  abbrev pub IsAnsweredStep : History → E → Result X KeepFault → History → Type 0
  IsAnsweredStep old event (Ok answer) new = Answers old event answer × (new ≡ after old event)
  IsAnsweredStep old event (Err fault) new = new ≡ old

  -- such steps, none of which reports damage
  abbrev pub answered_steps : (calls : E → Result X KeepFault → Calls → Type 0) → (if_still : Content → E → Result X KeepFault → Type 0 → Type 0)
      → StepKind E (Result X KeepFault)
  answered_steps calls if_still = record {
    step = λ old event outcome new. (outcome ≢ Err Damaged) × IsAnsweredStep old event outcome new;
    may_make = λ old event new. new ≡ after old event;
    calls = calls;
    if_still = if_still;
  }
