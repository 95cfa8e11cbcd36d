-- Events of the office, one after another, are a run.
use Rattle.std.proofs.Common.{◌≡◌, false, List, [], ◌∷◌, Err, refl, sym, subst, ap, ◌∙◌, inl, inr, ℕ}
use Rattle.toll_wire.proofs.Common.{Vec, AllByRecursion, false≢true, History, Meaning, Content, CallEffect, KeepFault, Memory, Disk, Damaged, Closed, PlantCmd, meaning_of_plant_reply, AfterCalls, Calls, IsStepFrom, state_at, Event, Answer, Text, Unavailable, Saying, Says, IsSayingStep, saying_steps, PlantCalls, plant_steps, IsStep, MayMake, IsEventServed, AreServed, AreSteps, IsOpenAnswer, IsRunOf, run_back}
use Rattle.toll_answers.specs.declared.plant_cmd.PlantCmd.TheVariants as cmd
use Rattle.toll_desk.specs.Reads.{Over}
use Rattle.toll_keep.specs.CallEffects.{Keeps}
use Rattle.toll_desk.proofs.StepLemmas.{history_run, stands_after, step_as, steps_from}
use Rattle.toll_wire.specs.declared.event.Event.TheVariants.{Owner, Plant as Command}
use Rattle.toll_wire.specs.declared.event.Answer.TheVariants.{Bytes as Reply, Plant as CommandReply}
use Rattle.toll_wire.specs.declared.outgoing.Out.{Out}
use Rattle.toll_wire.proofs.Private.{run_of}
use Rattle.toll_wire.proofs.Served.{keeps_still, still_from}

module _ {K : Type 0} (meaning : Meaning K) where
  -- a keep that is honest now has always been so
  pub event_honest : (old new : K) (e : Event) (a : Answer) → IsEventServed meaning old e a new → meaning.is_honest new → meaning.is_honest old
  event_honest old new (Owner bytes) (Reply out) (inl answered) = answered.2.store.honest
  event_honest old new (Owner bytes) (Reply out) (inr unread) = subst meaning.is_honest unread.1
  event_honest old new (Command command) (CommandReply reply) served = served.0.store.honest
  event_honest old new (Owner bytes) (CommandReply reply) served = absurd served
  event_honest old new (Command command) (Reply out) served = absurd served

  pub events_honest : (old new : K) (events : List Event) (answers : List Answer) → AreServed meaning old events answers new → meaning.is_honest new
      → meaning.is_honest old
  events_honest old new events answers served now = run_back (IsEventServed meaning) meaning.is_honest event_honest old new events answers served now

  module _ (settled : (k : K) (c : Content) → meaning.is_honest k → meaning.is_store_open k → meaning.holds k c → meaning.leaves k (c ∷ [])) where
    -- ---- one event is a step

    -- the step of what the bytes say is one of the request
    request_step : (bytes : Vec ℕ) (s : Saying) → Says bytes.items s → (out : Out) (H G : History) → IsSayingStep H s out G
        → IsStep H (Owner bytes) (Reply out) G
    request_step bytes s says (Text text) H G (reported, made) = (s, says, reported, made)
    request_step bytes s says Unavailable H G step = step

    pub event_step : (old new : K) (e : Event) (a : Answer) → IsEventServed meaning old e a new
        → Over meaning old new (λ c H. IsStepFrom meaning IsStep MayMake old c H e a new)
    event_step old new (Owner bytes) (Reply out) (inl (s, says, step)) now c H held stands lawful =
        step_as meaning saying_steps.step saying_steps.may_make IsStep MayMake old new c H s out (Owner bytes) (Reply out)
        (request_step bytes s says out H) (λ G makes. inl (s, says, makes)) (step.over now c H held stands lawful)
    event_step old new (Owner bytes) (Reply out) (inr (unread, same)) now c H held stands lawful =
        let keeps = subst (λ k. Keeps meaning old k) (sym same) (keeps_still meaning settled old (subst meaning.is_honest same now)) in
        still_from meaning IsStep MayMake old new c H stands lawful keeps held (Owner bytes) (Reply out) (subst (λ out. IsStep H (Owner bytes) (Reply out) H) (sym unread) refl) H (inr refl)
    event_step old new (Command command) (CommandReply reply) served now c H held stands lawful =
        step_as meaning plant_steps.step plant_steps.may_make IsStep MayMake old new c H command (meaning_of_plant_reply reply) (Command command) (CommandReply reply)
        (λ G step. step.1) (λ G makes. makes) (served.0.over now c H held stands lawful)
    event_step old new (Owner bytes) (CommandReply reply) served now c H held stands lawful = absurd served
    event_step old new (Command command) (Reply out) served now c H held stands lawful = absurd served

    -- ---- events in order

    pub events_steps : (old new : K) (events : List Event) (answers : List Answer) → AreServed meaning old events answers new
        → Over meaning old new (λ c H. AreSteps meaning old c H events answers new)
    events_steps old new events answers served now c H held stands lawful =
        steps_from meaning IsStep MayMake (IsEventServed meaning) event_honest event_step old new events answers served now c H held stands lawful

    pub events_run : (old new : K) (events : List Event) (answers : List Answer) → AreServed meaning old events answers new
        → Over meaning old new (λ c H. IsRunOf (meaning.holds new) H events answers)
    events_run old new events answers served now c H held stands lawful =
        let (d, G, steps) = events_steps old new events answers served now c H held stands lawful in
        let last = stands_after meaning IsStep MayMake (state_at old c H) (state_at new d G) events answers steps (record { held = held; stands = stands; lawful = lawful }) in
        let run = history_run meaning IsStep MayMake (state_at old c H) (state_at new d G) events answers steps in
        run_of (meaning.holds new) H G events answers run last.lawful (record { content = d; held = last.held; stands = last.stands })

    -- ---- over a keep that never closes

    module _ (never_closes : (k : K) → meaning.is_closed k ≡ false) where
      -- a fault of a call that went so is want of memory
      run_memory_alone : {X : Type 0} (old new : K) (fault : KeepFault) → CallEffect {X = X} meaning old new (Err fault) → fault ≡ Memory
      run_memory_alone old new Memory goes = refl
      run_memory_alone old new Disk goes = absurd (false≢true (sym (never_closes new) ∙ goes.closes))
      run_memory_alone old new Damaged goes = absurd (false≢true (sym (never_closes new) ∙ goes.closes))
      run_memory_alone old new Closed goes = absurd (false≢true (sym (never_closes new) ∙ goes.closes))

      fault_alone : (old new : K) (command : PlantCmd) (fault : KeepFault) (calls : Calls) → PlantCalls command (Err fault) calls
          → AfterCalls meaning old new calls → ¬ (fault ≡ Damaged) → fault ≡ Memory
      fault_alone old new (cmd.Unread why) fault calls is goes whole = let refused = is.0 in absurd (cc refused)
      fault_alone old new (cmd.Recall lot) fault calls (inl is) goes whole = run_memory_alone {X = Unit {0}} old new fault (subst (AfterCalls meaning old new) is goes)
      fault_alone old new (cmd.Recall lot) fault calls (inr damaged) goes whole = let is : fault ≡ Damaged = (cc damaged.0) in absurd (whole is)
      fault_alone old new _ fault calls is goes whole = run_memory_alone {X = Unit {0}} old new fault (subst (AfterCalls meaning old new) is goes)

      open_event : (old new : K) (e : Event) (a : Answer) → IsEventServed meaning old e a new → Over meaning old new (λ c H. IsOpenAnswer a)
      open_event old new (Owner bytes) (Reply out) served now c H held stands lawful = tt
      open_event old new (Command command) (CommandReply reply) served now c H held stands lawful = λ fault is.
          fault_alone old new command fault served.0.outcome (subst (λ r. PlantCalls command r served.0.outcome) is served.0.calls) served.0.store.goes
          (λ damaged. (served.0.over now c H held stands lawful).2.step.0 (is ∙ ap (λ f. Err f) damaged))
      open_event old new (Owner bytes) (CommandReply reply) served now c H held stands lawful = absurd served
      open_event old new (Command command) (Reply out) served now c H held stands lawful = absurd served

      pub events_open : (old new : K) (events : List Event) (answers : List Answer) → AreServed meaning old events answers new
          → Over meaning old new (λ c H. AllByRecursion IsOpenAnswer answers)
      events_open old new [] [] served now c H held stands lawful = tt
      events_open old new (e ∷ events) (a ∷ answers) served now c H held stands lawful =
          let middle = served.0 in
          let then = events_honest middle new events answers served.2 now in
          let (d, G, step) = event_step old middle e a served.1 then c H held stands lawful in
          (open_event old middle e a served.1 then c H held stands lawful, events_open middle new events answers served.2 now d G step.held step.stands step.lawful)
      events_open old new [] (a ∷ answers) served now c H held stands lawful = absurd served
      events_open old new (e ∷ events) [] served now c H held stands lawful = absurd served
