-- One connection takes a step, and all others stay unchanged.
use Rattle.std.proofs.Common.{◌≡◌, ◌≢◌, ◌+◌, ◌∙◌, ◌||◌, ℕ, zero, suc, arith, inl, inr, List, [], ◌∷◌, Bool, true, false, Option, None, Some, ap, refl, subst, sym, IfSome, IsSome, cond, count_by, is_some, option_and_then, option_map, slice_index_or, if◌then◌else◌}
use Rattle.toll_server.proofs.Common.{eqb_tells, Slab, Updates, get, slab_len, AddsConnection, Arrival, ClosesExpired, ClosesReaders, EvictsReader, GoesFirst, IsIncluded, KeepsQueue, KeepsTasks, MayJoin, TakesTurn, Turn, after_turn, queue_after, connection_behind, queue_in, stays_after, tasks_in, unless_expired, IsNext, IsWhatWaits, Waiting, queued_behind, newly, queue_with, waits_on, Input, Request, Task, Yields, last_poll, pending_task, state_behind, task_of, ticket_after, ticket_behind, ticket_of, AnswersOrResumes, JoinsAs, event_count_after, waiting_of, waiting_with, Listener, Connection, Poll, Reading, Queued, Working, Writing}
use Rattle.std.proofs.lemmas.List.Sums.{sum_by_from}
use Rattle.toll_protocol.specs.declared.streams.sink.Sink as sink
use Rattle.toll_server.proofs.RunLemmas.{all_but}
use Rattle.toll_server.proofs.StandLemmas.{the_some}
use Rattle.toll_server.specs.RequestBuffers.{bytes_received, listener_of}
use Rattle.toll_server.specs.declared.request_buffer.RequestBuffer.{RequestBuffer}
use Rattle.toll_server.specs.declared.filter.Filter.{Filter}
use Rattle.toll_server.specs.declared.poll.Poll.TheVariants.{Ready, Pending}
use Rattle.toll_server.specs.declared.connection_state.ConnectionState.{ConnectionState}
use Rattle.toll_server.specs.declared.step_result.StepResult.{StepResult}
use Rattle.toll_server.specs.declared.step_result.StepResult.TheVariants.{Waits, Joins, Answered, Failed}
use Rattle.toll_server.specs.declared.ticket.Ticket.{Ticket}

none_before_map : {A B : Type 0} (f : A → B) (o : Option A) → option_map f o ≡ None → o ≡ None
none_before_map f None is = refl
none_before_map f (Some x) is = absurd (cc)

not_some : {A : Type 0} (o : Option A) → ¬ (IsSome o) → o ≡ None
not_some None none = refl
not_some (Some x) none = absurd (none refl)

module _ {T P : Type 0} where
  -- A connection without a place in the queue has no task.
  idle_task : (state : ConnectionState T P) → ticket_of state ≡ None → task_of state ≡ None
  idle_task Reading is = refl
  idle_task (Queued ticket) is = absurd (cc)
  idle_task (Working ticket task) is = absurd (cc)
  idle_task (Writing reply) is = refl

  task_behind : (same : P → P → Bool) (party : P) (event_count : ℕ) (state : ConnectionState T P) → task_of (state_behind same party event_count state) ≡ task_of state
  task_behind same party event_count Reading = refl
  task_behind same party event_count (Queued ticket) = refl
  task_behind same party event_count (Working ticket task) = refl
  task_behind same party event_count (Writing reply) = refl

-- A place's wait begins anew if it belongs to the party.
wait_behind : {P : Type 0} (same : P → P → Bool) (party : P) (event_count : ℕ) (served : Waiting P) (request : RequestBuffer) (t : Ticket P) → served.party ≡ party
    → waiting_with request (ticket_behind same party event_count t) ≡ queued_behind same (Some served) event_count (waiting_with request t)
wait_behind {P} same party event_count served request t is = subst (λ p. waiting_with request (ticket_behind same p event_count t) ≡ queued_behind same (Some served) event_count (waiting_with request t)) is
    (each (same served.party t.party)) where
      each : (b : Bool) → waiting_with request (if b then record { party = t.party; queued = t.queued; since = event_count } else t)
          ≡ (if b then record { party = t.party; listener = listener_of request; request = bytes_received request; queued = t.queued; since = event_count } else waiting_with request t)
      each true = refl
      each false = refl

module _ {T P : Type 0} (same : P → P → Bool) (party : P) (event_count : ℕ) (served : Waiting P) (its : served.party ≡ party) (request : RequestBuffer) where
  state_waits_behind : (state : ConnectionState T P) → option_map (waiting_with request) (ticket_of (state_behind same party event_count state))
      ≡ option_map (queued_behind same (Some served) event_count) (option_map (waiting_with request) (ticket_of state))
  state_waits_behind Reading = refl
  state_waits_behind (Queued ticket) = ap Some (wait_behind same party event_count served request ticket its)
  state_waits_behind (Working ticket task) = ap Some (wait_behind same party event_count served request ticket its)
  state_waits_behind (Writing reply) = refl

-- The input that a connection with a ticket hands over.
module _ {T P : Type 0} where
  abbrev pub handed_by : ConnectionState T P → RequestBuffer → Input T
  handed_by Reading request = Request (listener_of request) (bytes_received request)
  handed_by (Queued ticket) request = Request (listener_of request) (bytes_received request)
  handed_by (Working ticket task) request = Task task
  handed_by (Writing reply) request = Request (listener_of request) (bytes_received request)

  pub what_waits : (state : ConnectionState T P) (request : RequestBuffer) (ticket : Ticket P) → ticket_of state ≡ Some ticket
      → IsWhatWaits (option_map (waiting_with request) (ticket_of state)) (task_of state) (handed_by state request)
  what_waits Reading request ticket is = absurd (cc)
  what_waits (Queued t) request ticket is = refl
  what_waits (Working t task) request ticket is = refl
  what_waits (Writing reply) request ticket is = absurd (cc)

  pub comes_to : {O : Type 0} (answers : O → Listener → List ℕ → Poll T → O → Type 0) (resumes : O → T → Poll T → O → Type 0) (state : ConnectionState T P) (request : RequestBuffer)
      (poll : Poll T) (a b : O) → AnswersOrResumes answers resumes state request poll a b → Yields answers resumes a (handed_by state request) poll b
  comes_to answers resumes Reading request poll a b p = absurd p
  comes_to answers resumes (Queued t) request poll a b p = p
  comes_to answers resumes (Working t task) request poll a b p = p
  comes_to answers resumes (Writing reply) request poll a b p = absurd p

  waits_after : (request : RequestBuffer) (poll : Poll T) (event_count : ℕ) (ticket : Ticket P)
      → option_map (waiting_with request) (ticket_after poll event_count ticket) ≡ waits_on poll event_count (waiting_with request ticket)
  waits_after request (Ready text) event_count ticket = refl
  waits_after request (Pending task) event_count ticket = refl

module _ {S T P : Type 0} where
  abbrev pub task_in : Option (Connection S T P) → Option T
  task_in o = option_and_then (λ connection. task_of connection.state) o

  abbrev pub wait_at : Option (Connection S T P) → Option (Waiting P)
  wait_at o = option_and_then waiting_of o

  stays_or_goes : (connection : Connection S T P) (ticket : Option (Ticket P)) (b : Bool) → ticket_of connection.state ≡ ticket
      → (task_in (if is_some ticket || b then Some connection else None) ≡ task_of connection.state) × (wait_at (if is_some ticket || b then Some connection else None) ≡ waiting_of connection)
  stays_or_goes connection (Some ticket) b is = (refl, refl)
  stays_or_goes connection None true is = (refl, refl)
  stays_or_goes connection None false is = (sym (idle_task connection.state is), sym (ap (option_map (waiting_with connection.request)) is))

  left_unexpired : (now : ℕ) (o : Option (Connection S T P)) → (task_in (unless_expired now o) ≡ task_in o) × (wait_at (unless_expired now o) ≡ wait_at o)
  left_unexpired now None = (refl, refl)
  left_unexpired now (Some connection) = stays_or_goes connection (ticket_of connection.state) _ refl

  pub expired_closed : (now : ℕ) (old new : Slab (Connection S T P)) → ClosesExpired now old new → KeepsTasks old new
  expired_closed now old new out key = ap task_in (out key) ∙ (left_unexpired now (get old key)).0

  pub expired_queue : (now : ℕ) (old new : Slab (Connection S T P)) → ClosesExpired now old new → KeepsQueue old new
  expired_queue now old new out key = ap wait_at (out key) ∙ (left_unexpired now (get old key)).1

  -- A connection that was taken out is put back or closed, by its step.
  pub replaced : (old middle new : Slab (Connection S T P)) (key at : ℕ) (step : StepResult) (later : Connection S T P) → Updates old middle key None → at ≡ key
      → Updates middle new at (stays_after step later) → Updates old new key (stays_after step later)
  replaced old middle new key at step later out is back = record {
    changed = subst (λ k. get new k ≡ stays_after step later) is back.changed;
    others = λ other isnt. back.others other (λ same. isnt (same ∙ is)) ∙ out.others other isnt;
  }

  -- If a queued connection's step is Waits, its task and its place stay.
  stays_as : (step : StepResult) (later : Connection S T P) → (IsSome (ticket_of later.state) → step ≡ Waits)
      → (task_in (stays_after step later) ≡ task_of later.state) × (wait_at (stays_after step later) ≡ waiting_of later)
  stays_as Waits later pending = (refl, refl)
  stays_as Joins later pending = (refl, refl)
  stays_as Answered later pending = let none = not_some (ticket_of later.state) (λ some. let e = pending some in absurd (cc)) in
      (sym (idle_task later.state none), sym (ap (option_map (waiting_with later.request)) none))
  stays_as Failed later pending = let none = not_some (ticket_of later.state) (λ some. let e = pending some in absurd (cc)) in
      (sym (idle_task later.state none), sym (ap (option_map (waiting_with later.request)) none))

  -- A connection that was read joins the queue, or all keep their places.
  pub joined_at : (is_by : Listener → List ℕ → P → Type 0) (event_count now : ℕ) (old new : Slab (Connection S T P)) (key : ℕ) (step : StepResult) (connection later : Connection S T P) → get old key ≡ Some connection
      → Updates old new key (stays_after step later) → now ≡ event_count_after step event_count → JoinsAs is_by event_count connection later step → MayJoin is_by key event_count now old new
  joined_at is_by event_count now old new key Joins connection later there back is joins = let (none, one) = joins in let (party, by, some) = one in
      (Some (record { whose = key; listener = listener_of later.request; request = bytes_received later.request; party = party }), (refl, ap wait_at there ∙ none, each party some), is, by) where
        each : (party : P) → waiting_of later ≡ Some (newly party (listener_of later.request) (bytes_received later.request) event_count) → (whose : ℕ)
            → queue_in new whose ≡ queue_with (queue_in old) key (newly party (listener_of later.request) (bytes_received later.request) event_count) whose
        each party some whose = elim (eqb_tells whose key) [
          | inl (same, at) ↦ ap (queue_in new) at ∙ (ap wait_at back.changed ∙ (some
              ∙ sym (ap (λ b. if b then Some (newly party (listener_of later.request) (bytes_received later.request) event_count) else queue_in old whose) same)))
          | inr (differ, isnt) ↦ ap wait_at (back.others whose isnt)
              ∙ sym (ap (λ b. if b then Some (newly party (listener_of later.request) (bytes_received later.request) event_count) else queue_in old whose) differ)
        ]
  joined_at is_by event_count now old new key Waits connection later there back is joins =
      (None, all_but key (queue_in new) (queue_in old) (ap wait_at back.changed ∙ (joins ∙ sym (ap wait_at there))) (λ other isnt. ap wait_at (back.others other isnt)), omega (arith, is), tt)
  joined_at is_by event_count now old new key Answered connection later there back is joins =
      (None, all_but key (queue_in new) (queue_in old) (ap wait_at back.changed ∙ sym (ap wait_at there ∙ joins.1)) (λ other isnt. ap wait_at (back.others other isnt)), omega (arith, is), tt)
  joined_at is_by event_count now old new key Failed connection later there back is joins =
      (None, all_but key (queue_in new) (queue_in old) (ap wait_at back.changed ∙ sym (ap wait_at there ∙ joins.1)) (λ other isnt. ap wait_at (back.others other isnt)), omega (arith, is), tt)

  unqueued : (connection : Connection S T P) → waiting_of connection ≡ None → task_of connection.state ≡ None
  unqueued connection none = idle_task connection.state (none_before_map (waiting_with connection.request) (ticket_of connection.state) none)

  -- Each connection keeps its task.
  pub heard_tasks : (is_by : Listener → List ℕ → P → Type 0) (event_count : ℕ) (old new : Slab (Connection S T P)) (key : ℕ) (step : StepResult) (connection later : Connection S T P) → get old key ≡ Some connection
      → Updates old new key (stays_after step later) → last_poll later.state ≡ last_poll connection.state → JoinsAs is_by event_count connection later step → KeepsTasks old new
  heard_tasks is_by event_count old new key step connection later there back same joins =
      all_but key (tasks_in new) (tasks_in old) (ap task_in back.changed ∙ (each step joins ∙ sym (ap task_in there))) (λ other isnt. ap task_in (back.others other isnt)) where
        each : (step : StepResult) → JoinsAs is_by event_count connection later step → task_in (stays_after step later) ≡ task_of connection.state
        each Waits joins = ap (option_and_then pending_task) same
        each Joins joins = ap (option_and_then pending_task) same
        each Answered joins = sym (unqueued connection joins.1)
        each Failed joins = sym (unqueued connection joins.1)

  behind_task : (same : P → P → Bool) (party : P) (event_count : ℕ) (o : Option (Connection S T P)) → task_in (option_map (connection_behind same party event_count) o) ≡ task_in o
  behind_task same party event_count None = refl
  behind_task same party event_count (Some connection) = task_behind same party event_count connection.state

  behind_wait : (same : P → P → Bool) (party : P) (event_count : ℕ) (served : Waiting P) → served.party ≡ party → (o : Option (Connection S T P))
      → wait_at (option_map (connection_behind same party event_count) o) ≡ option_map (queued_behind same (Some served) event_count) (wait_at o)
  behind_wait same party event_count served its None = refl
  behind_wait same party event_count served its (Some connection) = state_waits_behind same party event_count served its connection.request connection.state

module _ {S T P : Type 0} (same : P → P → Bool) (to : sink.Ghosts S) (event_count : ℕ) (turn : Turn T) (old new : Slab (Connection S T P)) (t : TakesTurn same to event_count turn old new) where
  -- The tasks left after a turn.
  pub turn_tasks : (k : ℕ) → tasks_in new k ≡ after_turn (tasks_in old) turn k
  turn_tasks k = elim (eqb_tells k turn.whose) [
    | inl (same_key, at) ↦ ap (tasks_in new) at ∙ (task ∙ sym (ap (λ c. if c then pending_task turn.poll else tasks_in old k) same_key))
    | inr (differ, isnt) ↦ ap task_in (t.others k isnt) ∙ (behind_task same t.ticket.party event_count (get old k) ∙ sym (ap (λ c. if c then pending_task turn.poll else tasks_in old k) differ))
  ] where
    task : tasks_in new turn.whose ≡ pending_task turn.poll
    task = ap task_in t.stays ∙ ((stays_as t.step t.later t.pending).0 ∙ ap (option_and_then pending_task) t.reported)

  -- The queue after a turn.
  pub turn_queue : (k : ℕ) → queue_in new k ≡ queue_after same (queue_in old) turn event_count k
  turn_queue k = elim (eqb_tells k turn.whose) [
    | inl (same_key, at) ↦ ap (queue_in new) at ∙ (place ∙ (sym (ap (λ j. option_and_then (waits_on turn.poll event_count) (queue_in old j)) at)
        ∙ sym (ap (λ c. if c then option_and_then (waits_on turn.poll event_count) (queue_in old k) else option_map (queued_behind same (queue_in old turn.whose) event_count) (queue_in old k)) same_key)))
    | inr (differ, isnt) ↦ ap wait_at (t.others k isnt) ∙ (behind_wait same t.ticket.party event_count (waiting_with t.connection.request t.ticket) refl (get old k)
        ∙ (sym (ap (λ w. option_map (queued_behind same w event_count) (queue_in old k)) was)
        ∙ sym (ap (λ c. if c then option_and_then (waits_on turn.poll event_count) (queue_in old k) else option_map (queued_behind same (queue_in old turn.whose) event_count) (queue_in old k)) differ)))
  ] where
    was : queue_in old turn.whose ≡ Some (waiting_with t.connection.request t.ticket)
    was = ap wait_at t.there ∙ ap (option_map (waiting_with t.connection.request)) t.queued

    place : queue_in new turn.whose ≡ option_and_then (waits_on turn.poll event_count) (queue_in old turn.whose)
    place = ap wait_at t.stays ∙ ((stays_as t.step t.later t.pending).1 ∙ (ap (λ r. option_map (waiting_with r) (ticket_of t.later.state)) t.request
        ∙ (ap (option_map (waiting_with t.connection.request)) t.place ∙ (waits_after t.connection.request turn.poll event_count t.ticket ∙ sym (ap (option_and_then (waits_on turn.poll event_count)) was)))))

module _ {S T P : Type 0} where
  -- Tasks and places in the queue stay as they are.
  abbrev pub Keeps : Slab (Connection S T P) → Slab (Connection S T P) → Type 0
  Keeps old new = KeepsQueue old new × KeepsTasks old new

  idle_reader : (connection : Connection S T P) → connection.state ≡ Reading → (waiting_of connection ≡ None) × (task_of connection.state ≡ None)
  idle_reader connection is = (ap (λ state. option_map (waiting_with connection.request) (ticket_of state)) is, ap task_of is)

  -- A connection that is reading was added or closed.
  reader_keeps : (old new : Slab (Connection S T P)) (key : ℕ) → (wait_at (get new key) ≡ wait_at (get old key)) × (task_in (get new key) ≡ task_in (get old key))
      → ((other : ℕ) → other ≢ key → get new other ≡ get old other) → Keeps old new
  reader_keeps old new key at others = (
    all_but key (queue_in new) (queue_in old) at.0 (λ other isnt. ap wait_at (others other isnt)),
    all_but key (tasks_in new) (tasks_in old) at.1 (λ other isnt. ap task_in (others other isnt)),
  )

  pub evicted_keeps : (old new : Slab (Connection S T P)) → EvictsReader old new → Keeps old new
  evicted_keeps old new e = let (filter, goes, first) = e.goes in
      let (waits, task) = idle_reader first.connection (reads filter first.connection goes first.among_them) in
      reader_keeps old new e.key (ap wait_at e.out.changed ∙ sym (ap wait_at first.there ∙ waits), ap task_in e.out.changed ∙ sym (ap task_in first.there ∙ task)) e.out.others where
        reads : (filter : Filter) (connection : Connection S T P) → GoesFirst old filter → IsIncluded filter connection → connection.state ≡ Reading
        reads filter connection (inl is) among = (subst (λ f. IsIncluded f connection) is among).0
        reads filter connection (inr none) among = subst (λ f. IsIncluded f connection) none.1 among

  pub added_keeps : (most now : ℕ) (came : Arrival S) (old new : Slab (Connection S T P)) → AddsConnection most now came old new → Keeps old new
  added_keeps most now came old new adds = elim adds.shed [
    | inl as_is ↦ subst (Keeps old) (sym as_is.1) with_it
    | inr (_, inl none) ↦ let (readers, values, len) = none in (λ k. ap wait_at (values k) ∙ with_it.0 k, λ k. ap task_in (values k) ∙ with_it.1 k)
    | inr (_, inr one) ↦ let (queue, tasks) = evicted_keeps adds.«with» new one in (λ k. queue k ∙ with_it.0 k, λ k. tasks k ∙ with_it.1 k)
  ] where
    with_it : Keeps old adds.«with»
    with_it = let (stream, bytes, listener, state, deadline) = adds.newcomer in let (waits, task) = idle_reader adds.connection state in
        reader_keeps old adds.«with» came.key (ap wait_at adds.added.changed ∙ (waits ∙ sym (ap wait_at adds.vacant)), ap task_in adds.added.changed ∙ (task ∙ sym (ap task_in adds.vacant)))
        adds.added.others

  pub closed_keeps : (old new : Slab (Connection S T P)) → ClosesReaders old new → Keeps old new
  closed_keeps old new closes = (λ k. (each k (get old k) (get new k) refl refl).0, λ k. (each k (get old k) (get new k) refl refl).1) where
    each : (k : ℕ) (o n : Option (Connection S T P)) → get old k ≡ o → get new k ≡ n → (wait_at n ≡ wait_at o) × (task_in n ≡ task_in o)
    each k o (Some c) was is = let (none, keeps, fewer) = closes in let e = sym (the_some (get new k) _ c is (fewer k)) ∙ was in (ap wait_at e, ap task_in e)
    each k None None was is = (refl, refl)
    each k (Some c) None was is = let (none, keeps, fewer) = closes in by_state c.state refl where
      stays : c.state ≢ Reading → (None ≡ wait_at (Some c)) × (None ≡ task_in (Some c))
      stays not = let (none, keeps, fewer) = closes in let e : None ≡ Some c = sym is ∙ the_some (get old k) _ c was (keeps k) not in absurd (cc)

      by_state : (state : ConnectionState T P) → c.state ≡ state → (None ≡ wait_at (Some c)) × (None ≡ task_in (Some c))
      by_state Reading at = let (waits, task) = idle_reader c at in (sym waits, sym task)
      by_state (Queued ticket) at = stays (λ reads. let e = sym at ∙ reads in absurd (cc))
      by_state (Working ticket task) at = stays (λ reads. let e = sym at ∙ reads in absurd (cc))
      by_state (Writing reply) at = stays (λ reads. let e = sym at ∙ reads in absurd (cc))

module _ {S T P : Type 0} where
  pub no_connection : (connections : Slab (Connection S T P)) → slab_len connections ≡ 0 → (key : ℕ) → get connections key ≡ None
  no_connection connections none key = each connections.slots key none where
    each : (slots : List (Option (Connection S T P))) (key : ℕ) → count_by is_some slots ≡ 0 → slice_index_or slots key None ≡ None
    each [] key none = refl
    each (None ∷ slots) zero none = refl
    each (None ∷ slots) (suc key) none = each slots key none
    each (Some connection ∷ slots) key none = let more : 1 + count_by is_some slots ≡ 0 = sym (sum_by_from (λ o. cond (is_some o) 1 0) 1 slots) ∙ none in absurd (omega arith)

  -- Without connections there is no task, and the queue is empty.
  pub empty_none : (connections : Slab (Connection S T P)) → slab_len connections ≡ 0 → (key : ℕ) → tasks_in connections key ≡ None
  empty_none connections none key = ap task_in (no_connection connections none key)

  pub empty_queue : (connections : Slab (Connection S T P)) → slab_len connections ≡ 0 → (key : ℕ) → queue_in connections key ≡ None
  empty_queue connections none key = ap wait_at (no_connection connections none key)
