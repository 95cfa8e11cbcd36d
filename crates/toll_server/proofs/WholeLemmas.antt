-- What becomes of whole requests.
use Rattle.std.proofs.Common.{◌≡◌, ◌∙◌, ◌==◌, ◌++◌, ℕ, inl, inr, List, [], ◌∷◌, length, Bool, true, false, Option, None, Some, ap, refl, subst, sym}
use Rattle.std.specs.Prelude.{◌⊎◌, IsSome, option_and_then, option_map, slice_set, if◌then◌else◌}
use Rattle.std.proofs.lemmas.Option.{same_Some}
use Rattle.toll_protocol.specs.declared.streams.sink.Sink as sink
use Rattle.toll_protocol.specs.declared.streams.source.Source as source
use Rattle.toll_server.proofs.Common.{eqb_tells, AreInTurn, Connection, Input, IsServerRun, IsStep, IsWhatWaits, Joining, JoinsAt, Joins, Listener, Poll, QueueEvent, Reading, Request, Server, ServerEvent, Slab, StaysOrGoes, Takes, Task, Waiting, get, newly, pending_task, queue_in, queue_of, queue_with, queued_behind, stays_after, tasks_of, ticket_of, waiting_of, waiting_with, waits_on, Advances}
use Rattle.toll_server.proofs.StandLemmas.{each_some, the_some}
use Rattle.toll_server.specs.Connections.{IsShed}
use Rattle.toll_server.specs.RequestBuffers.{IsComplete}
use Rattle.toll_server.specs.ServerEvents.{Advances as Heard, Comes, Ends, Expires, IsLost, IsShort, Takes as TakesTurn, Waits}
use Rattle.toll_server.specs.WholeRequests.{AreHandedOnce, AreWholeJoined, IsWholeJoined, JoinsWith, handed_at, joined_at, request_in, unhanded}
use Rattle.toll_server.specs.declared.poll.Poll.TheVariants.{Ready, Pending}
use Rattle.toll_server.specs.declared.step_result.StepResult.{StepResult}
use Rattle.toll_server.specs.declared.step_result.StepResult.TheVariants.{Joins as JoinsStep}
use Rattle.toll_server.specs.declared.ticket.Ticket.{Ticket}

unmapped : {P : Type 0} (f : Waiting P → Waiting P) (o : Option (Waiting P)) → option_map f o ≡ None → o ≡ None
unmapped f None is = refl
unmapped f (Some w) is = absurd (cc)

queued_with : {P : Type 0} (queue : ℕ → Option (Waiting P)) (whose : ℕ) (w : Waiting P) → queue_with queue whose w whose ≡ Some w
queued_with queue whose w = elim (eqb_tells whose whose) [
  | inl (equal, at) ↦ ap (λ b. if b then Some w else queue whose) equal
  | inr (differ, isnt) ↦ absurd (isnt refl)
]

module _ {T P : Type 0} where
  gone : (event_count : ℕ) (poll : Poll T) (w : Waiting P) → waits_on poll event_count w ≡ None → pending_task poll ≡ None
  gone event_count (Ready text) w is = refl
  gone event_count (Pending task) w is = absurd (cc)

  first_turn : (w : Waiting P) (left : Option T) (input : Input T) → IsWhatWaits (Some w) left input → unhanded (Some w) left ≡ request_in input
  first_turn w None input is = ap request_in (sym is)
  first_turn w (Some task) input is = ap request_in (sym is)

  after_turns_of : (event_count : ℕ) (poll : Poll T) (w : Waiting P) → unhanded (waits_on poll event_count w) (pending_task poll) ≡ []
  after_turns_of event_count (Ready text) w = refl
  after_turns_of event_count (Pending task) w = refl

  unhanded_behind : (same : P → P → Bool) (served : Option (Waiting P)) (event_count : ℕ) (o : Option (Waiting P)) (left : Option T) → unhanded (option_map (queued_behind same served event_count) o) left ≡ unhanded o left
  unhanded_behind same served event_count None left = refl
  unhanded_behind same served event_count (Some w) (Some task) = refl
  unhanded_behind same None event_count (Some w) None = refl
  unhanded_behind same (Some s) event_count (Some w) None = each (same s.party w.party) where
    each : (b : Bool) → unhanded {T = T} (Some (if b then record { party = w.party; listener = w.listener; request = w.request; queued = w.queued; since = event_count } else w)) None ≡ (w.listener, w.request) ∷ []
    each true = refl
    each false = refl

module _ {T P : Type 0} (same : P → P → Bool) (is_by : Listener → List ℕ → P → Type 0) where
  -- Only a queued connection has a task left.
  tasks_wait : (h : List (QueueEvent T P)) → AreInTurn same is_by h → (key : ℕ) → queue_of same h key ≡ None → tasks_of h key ≡ None
  tasks_wait [] turns key none = refl
  tasks_wait (Joins whose listener request party ∷ before) turns key none = elim (eqb_tells key whose) [
    | inl (equal, at) ↦ let e = subst (λ b. (if b then Some (newly party listener request (length before)) else queue_of same before key) ≡ None) equal none in absurd (cc)
    | inr (differ, isnt) ↦ tasks_wait before turns.2 key (subst (λ b. (if b then Some (newly party listener request (length before)) else queue_of same before key) ≡ None) differ none)
  ]
  tasks_wait (Takes turn ∷ before) turns key none = elim (eqb_tells key turn.whose) [
    | inl (equal, at) ↦
        let there : queue_of same before key ≡ Some turns.0.waiting = ap (queue_of same before) at ∙ turns.0.there in
        let is : option_and_then (waits_on turn.poll (length before)) (queue_of same before key) ≡ None = subst (λ b. (if b then option_and_then (waits_on turn.poll (length before)) (queue_of same before key)
        else option_map (queued_behind same (queue_of same before turn.whose) (length before)) (queue_of same before key)) ≡ None) equal none in
        subst (λ b. (if b then pending_task turn.poll else tasks_of before key) ≡ None) (sym equal)
        (gone (length before) turn.poll turns.0.waiting (sym (ap (option_and_then (waits_on turn.poll (length before))) there) ∙ is))
    | inr (differ, isnt) ↦
        let is : option_map (queued_behind same (queue_of same before turn.whose) (length before)) (queue_of same before key) ≡ None = subst (λ b. (if b then option_and_then (waits_on turn.poll (length before)) (queue_of same before key)
        else option_map (queued_behind same (queue_of same before turn.whose) (length before)) (queue_of same before key)) ≡ None) differ none in
        subst (λ b. (if b then pending_task turn.poll else tasks_of before key) ≡ None) (sym differ) (tasks_wait before turns.2 key (unmapped _ (queue_of same before key) is))
  ]

  -- Each request that joined was handed over once, or waits for its first turn.
  pub handed_once : (h : List (QueueEvent T P)) → AreInTurn same is_by h → AreHandedOnce same h
  handed_once [] turns key = refl
  handed_once (Joins whose listener request party ∷ before) turns key = elim (eqb_tells key whose) [
    | inl (equal, at) ↦ subst So (sym equal) (joins_first (handed_once before turns.2 key) (ap (queue_of same before) at ∙ turns.1))
    | inr (differ, isnt) ↦ subst So (sym differ) (handed_once before turns.2 key)
  ] where
    w : Waiting P
    w = newly party listener request (length before)

    So : Bool → Type 0
    So b = (if b then (listener, request) ∷ joined_at key before else joined_at key before) ≡ unhanded (if b then Some w else queue_of same before key) (tasks_of before key) ++ handed_at key before

    joins_first : joined_at key before ≡ unhanded (queue_of same before key) (tasks_of before key) ++ handed_at key before → queue_of same before key ≡ None → So true
    joins_first so_far free = subst (λ left. (listener, request) ∷ joined_at key before ≡ unhanded (Some w) left ++ handed_at key before) (sym (tasks_wait before turns.2 key free))
        (ap (λ l. (listener, request) ∷ l) (so_far ∙ ap (λ o. unhanded o (tasks_of before key) ++ handed_at key before) free))
  handed_once (Takes turn ∷ before) turns key = elim (eqb_tells key turn.whose) [
    | inl (equal, at) ↦ subst So (sym equal) (taken (handed_once before turns.2 key) at)
    | inr (differ, isnt) ↦ subst So (sym differ)
        (handed_once before turns.2 key ∙ ap (λ l. l ++ handed_at key before) (sym (unhanded_behind same (queue_of same before turn.whose) (length before) (queue_of same before key) (tasks_of before key))))
  ] where
    So : Bool → Type 0
    So b = joined_at key before ≡ unhanded (if b then option_and_then (waits_on turn.poll (length before)) (queue_of same before key)
        else option_map (queued_behind same (queue_of same before turn.whose) (length before)) (queue_of same before key)) (if b then pending_task turn.poll else tasks_of before key)
        ++ (if b then request_in turn.input ++ handed_at key before else handed_at key before)

    taken : joined_at key before ≡ unhanded (queue_of same before key) (tasks_of before key) ++ handed_at key before → key ≡ turn.whose → So true
    taken so_far at =
        let w = turns.0.waiting in
        let there : queue_of same before key ≡ Some w = ap (queue_of same before) at ∙ turns.0.there in
        let what : IsWhatWaits (Some w) (tasks_of before key) turn.input = subst (λ o. IsWhatWaits o (tasks_of before key) turn.input) there (subst (λ k. IsWhatWaits (queue_of same before k) (tasks_of before k) turn.input) (sym at) turns.1) in
        let none : unhanded (option_and_then (waits_on turn.poll (length before)) (queue_of same before key)) (pending_task turn.poll) ≡ []
        = ap (λ o. unhanded (option_and_then (waits_on turn.poll (length before)) o) (pending_task turn.poll)) there ∙ after_turns_of (length before) turn.poll w in
        so_far ∙ (ap (λ o. unhanded o (tasks_of before key) ++ handed_at key before) there
        ∙ (ap (λ l. l ++ handed_at key before) (first_turn w (tasks_of before key) turn.input what) ∙ ap (λ l. l ++ (request_in turn.input ++ handed_at key before)) (sym none)))

module _ {S T P : Type 0} (same : P → P → Bool) (from : source.Ghosts S) (to : sink.Ghosts S) (most : ℕ) where
  joins_whole : (whose event_count : ℕ) (joined : Option (Joining P)) (old new : Slab (Connection S T P)) (connection later : Connection S T P) (step : StepResult) → get old whose ≡ Some connection
      → connection.state ≡ Reading → Advances from to connection later step → StaysOrGoes same most (slice_set old.slots whose None) later step (get new whose) → JoinsAt whose joined event_count old new
      → IsComplete later.request → JoinsWith joined later ⊎ (IsShed same most (slice_set old.slots whose None) later step × (get new whose ≡ None))
  joins_whole whose event_count joined old new connection later step there reads a changed joins whole = each (ticket_of later.state) refl where
    unqueued : queue_in old whose ≡ None
    unqueued = ap (option_and_then waiting_of) there ∙ ap (λ state. option_map (waiting_with connection.request) (ticket_of state)) reads

    joined_so : (t : Ticket P) → queue_in new whose ≡ Some (waiting_with later.request t) → (joined : Option (Joining P)) → JoinsAt whose joined event_count old new → JoinsWith joined later
    joined_so t queued None keeps = let e : None ≡ Some (waiting_with later.request t) = sym unqueued ∙ (sym (keeps whose) ∙ queued) in absurd (cc)
    joined_so t queued (Some j) so = let (own, free, queue) = so in
        let e = same_Some _ _ (sym (queued_with (queue_in old) whose (newly j.party j.listener j.request event_count)) ∙ (sym (queue whose) ∙ queued)) in (ap (λ x. x.listener) e, ap (λ x. x.request) e)

    each : (o : Option (Ticket P)) → ticket_of later.state ≡ o → JoinsWith joined later ⊎ (IsShed same most (slice_set old.slots whose None) later step × (get new whose ≡ None))
    each None is = absurd (((a.hears reads).early (λ some. let no = subst IsSome is some in absurd (cc))).1 whole)
    each (Some t) is = elim changed [
      | inr goes ↦ inr goes
      | inl stays ↦
          let here : get new whose ≡ Some later = stays.1 ∙ ap (λ s. stays_after s later) (a.whole reads (subst IsSome (sym is) refl)) in
          inl (joined_so t (ap (option_and_then waiting_of) here ∙ ap (option_map (waiting_with later.request)) is) joined joins)
    ]

  whole_step : (event : ServerEvent S T P) (old new : Server S T P) → IsStep same from to most event old new → IsWholeJoined same from to most event old new
  whole_step (Comes came at) old new p = tt
  whole_step (IsLost came) old new p = tt
  whole_step (IsShort key) old new p = tt
  whole_step Ends old new p = tt
  whole_step (Waits wake) old new p = tt
  whole_step (Heard whose joined) old new p = let (hears, tasks, joins) = p.slots in each_some (get old.slots whose) _ (λ connection there reads.
      let (later, step, a, changed) = the_some (get old.slots whose) _ connection there hears.went_on in
      (later, step, a, joins_whole whose old.event_count joined old.slots new.slots connection later step there reads a changed joins))
  whole_step (Expires at) old new p = tt
  whole_step (TakesTurn turn) old new p = tt

  pub whole_joined : (first last : Server S T P) (events : List (ServerEvent S T P)) (run : IsServerRun same from to most first events last) → AreWholeJoined same from to most first events last run
  whole_joined first last [] run = tt
  whole_joined first last (event ∷ before) run = (whole_joined first run.0 before run.1, whole_step event run.0 last run.2)
