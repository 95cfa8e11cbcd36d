-- The queue, event after event. No party has two turns while another one is queued.
use Rattle.std.proofs.Common.{◌≡◌, ◌∙◌, ◌+◌, ◌<◌, ◌==◌, ℕ, arith, inl, inr, List, [], ◌∷◌, ◌++◌, length, Bool, true, false, Option, None, Some, ap, refl, subst, sym, IfSome, option_and_then, option_map, if◌then◌else◌}
use Rattle.toll_server.proofs.Common.{eqb_tells, Slab, KeepsQueue, KeepsTasks, queue_in, tasks_in, AreInTurn, HasWaitedLonger, QueueEvent, IsHistory, IsNext, IsPassedOver, IsWhatWaits, Joins, NoneTwice, Queue, Takes, Waiting, queued_behind, is_of, newly, queue_after, queue_of, tasks_of, turns_taken, waits_on, AreOwn, Input, IsOwnInput, IsServiceRun, Serves, TakesTurns, Tasks, Turn, after_turns, no_tasks, Listener, Connection, Poll}
use Rattle.std.specs.Cmp.{IsEquivalence}
use Rattle.std.specs.Prelude.{⊤}
use Rattle.toll_server.proofs.RunLemmas.{Agree, TakesTurns-append, after_same, own_append, turns_append}
use Rattle.toll_server.specs.declared.poll.Poll.TheVariants.{Ready, Pending}

some_more : {A : Type 0} (o : Option A) (B C : A → Type 0) → ((x : A) → B x → C x) → IfSome o B → IfSome o C
some_more None B C more p = tt
some_more (Some x) B C more p = more x p

-- Every wait began before now.
since_stays : {T P : Type 0} (event_count : ℕ) (poll : Poll T) (o : Option (Waiting P)) → IfSome (option_and_then (waits_on poll event_count) o) (λ w. w.since < event_count + 1)
since_stays event_count poll None = tt
since_stays event_count (Ready text) (Some w) = tt
since_stays event_count (Pending task) (Some w) = omega arith

since_behind : {P : Type 0} (same : P → P → Bool) (event_count : ℕ) (served o : Option (Waiting P)) → IfSome o (λ w. w.since < event_count)
    → IfSome (option_map (queued_behind same served event_count) o) (λ w. w.since < event_count + 1)
since_behind same event_count served None p = tt
since_behind same event_count None (Some w) p = omega (arith, p)
since_behind same event_count (Some s) (Some w) p = each (same s.party w.party) where
  each : (b : Bool) → (if b then record { party = w.party; listener = w.listener; request = w.request; queued = w.queued; since = event_count } else w).since < event_count + 1
  each true = omega arith
  each false = omega (arith, p)

module _ {T P : Type 0} (same : P → P → Bool) where
  since_below : (h : List (QueueEvent T P)) (k : ℕ) → IfSome (queue_of same h k) (λ w. w.since < length h)
  since_below [] k = tt
  since_below (Joins joins listener request party ∷ before) k =
      some_more (queue_of same (Joins joins listener request party ∷ before) k) (λ w. w.since < length before + 1) (λ w. w.since < length (Joins joins listener request party ∷ before))
      (λ w lt. omega (arith, lt)) (each (since_below before k) (k == joins)) where
        each : IfSome (queue_of same before k) (λ w. w.since < length before) → (b : Bool) → IfSome (if b then Some (newly party listener request (length before)) else queue_of same before k) (λ w. w.since < length before + 1)
        each p true = omega arith
        each p false = some_more (queue_of same before k) (λ w. w.since < length before) (λ w. w.since < length before + 1) (λ w lt. omega (arith, lt)) p
  since_below (Takes turn ∷ before) k =
      some_more (queue_of same (Takes turn ∷ before) k) (λ w. w.since < length before + 1) (λ w. w.since < length (Takes turn ∷ before))
      (λ w lt. omega (arith, lt)) (each (since_below before k) (k == turn.whose)) where
        each : IfSome (queue_of same before k) (λ w. w.since < length before) → (b : Bool) → IfSome (if b then option_and_then (waits_on turn.poll (length before)) (queue_of same before k)
            else option_map (queued_behind same (queue_of same before turn.whose) (length before)) (queue_of same before k)) (λ w. w.since < length before + 1)
        each p true = since_stays (length before) turn.poll (queue_of same before k)
        each p false = since_behind same (length before) (queue_of same before turn.whose) (queue_of same before k) p

-- A connection of the second party has waited longer than all of the first.
record Stuck {P : Type 0} (same : P → P → Bool) (first second : P) (queue : Queue P) : Type 0 where
  pub key : ℕ
  pub waiting : Waiting P
  pub there : queue key ≡ Some waiting
  pub its : same second waiting.party ≡ true
  pub longer : (k : ℕ) → IfSome (queue k) (λ w. same first w.party ≡ true → waiting.since < w.since)

module _ {T P : Type 0} (same : P → P → Bool) (first second : P) (before : List (QueueEvent T P)) where
  began : (s : Stuck same first second (queue_of same before)) → s.waiting.since < length before
  began s = subst (λ (o : Option (Waiting P)). IfSome o (λ w. w.since < length before)) s.there (since_below same before s.key)

  joins_stuck : (joins : ℕ) (listener : Listener) (request : List ℕ) (party : P) → queue_of same before joins ≡ None → Stuck same first second (queue_of same before)
      → Stuck same first second (queue_of same (Joins joins listener request party ∷ before))
  joins_stuck joins listener request party free s = record {
    key = s.key;
    waiting = s.waiting;
    there = elim (eqb_tells s.key joins) [
      | inl (is, at) ↦ let none = sym s.there ∙ (ap (queue_of same before) at ∙ free) in absurd (cc)
      | inr (differ, isnt) ↦ ap (λ b. if b then Some (newly party listener request (length before)) else queue_of same before s.key) differ ∙ s.there
    ];
    its = s.its;
    longer = λ k. each k (k == joins);
  } where
    each : (k : ℕ) (b : Bool) → IfSome (if b then Some (newly party listener request (length before)) else queue_of same before k) (λ w. same first w.party ≡ true → s.waiting.since < w.since)
    each k true = λ _. began s
    each k false = s.longer k

module _ {P : Type 0} (same : P → P → Bool) (laws : IsEquivalence same) (first second : P) (event_count : ℕ) where
  -- A place stays unchanged if its party doesn't have the turn.
  queue_kept : (served : Option (Waiting P)) (w : Waiting P) → same second w.party ≡ true → ¬ (is_of same second served ≡ true) → queued_behind same served event_count w ≡ w
  queue_kept None w its not = refl
  queue_kept (Some s) w its not = each (same s.party w.party) refl where
    each : (b : Bool) → same s.party w.party ≡ b
        → (if b then record { party = w.party; listener = w.listener; request = w.request; queued = w.queued; since = event_count } else w) ≡ w
    each false is = refl
    each true is = absurd (not (sym (laws.congr w.party second s.party (laws.symm w.party second ∙ its)) ∙ (laws.symm w.party s.party ∙ is)))

  -- All places of the party that has the turn begin their waits anew.
  queue_all_behind : (since : ℕ) → since < event_count → (served : Option (Waiting P)) → is_of same first served ≡ true → (o : Option (Waiting P))
      → IfSome (option_map (queued_behind same served event_count) o) (λ w. same first w.party ≡ true → since < w.since)
  queue_all_behind since now None its o = absurd (cc)
  queue_all_behind since now (Some s) its None = tt
  queue_all_behind since now (Some s) its (Some w) = each (same s.party w.party) refl where
    each : (b : Bool) → same s.party w.party ≡ b
        → same first (if b then record { party = w.party; listener = w.listener; request = w.request; queued = w.queued; since = event_count } else w).party ≡ true
        → since < (if b then record { party = w.party; listener = w.listener; request = w.request; queued = w.queued; since = event_count } else w).since
    each true is = λ _. now
    each false is = λ of_first. let e : same s.party w.party ≡ true = sym (laws.congr first s.party w.party its) ∙ of_first in absurd (cc)

  still_behind : (since : ℕ) → since < event_count → (served o : Option (Waiting P)) → IfSome o (λ w. same first w.party ≡ true → since < w.since)
      → IfSome (option_map (queued_behind same served event_count) o) (λ w. same first w.party ≡ true → since < w.since)
  still_behind since now served None p = tt
  still_behind since now None (Some w) p = p
  still_behind since now (Some s) (Some w) p = each (same s.party w.party) where
    each : (b : Bool) → same first (if b then record { party = w.party; listener = w.listener; request = w.request; queued = w.queued; since = event_count } else w).party ≡ true
        → since < (if b then record { party = w.party; listener = w.listener; request = w.request; queued = w.queued; since = event_count } else w).since
    each true = λ _. now
    each false = p

  anew : {T : Type 0} (since : ℕ) → since < event_count → (poll : Poll T) (o : Option (Waiting P))
      → IfSome (option_and_then (waits_on poll event_count) o) (λ w. same first w.party ≡ true → since < w.since)
  anew since now poll None = tt
  anew since now (Ready text) (Some w) = tt
  anew since now (Pending task) (Some w) = λ _. now

module _ {P : Type 0} (same : P → P → Bool) (first second : P) where
  queue_waits_at : (queue : Queue P) (j : ℕ) → is_of same second (queue j) ≡ true → (v : Waiting P) × (queue j ≡ Some v) × (same second v.party ≡ true)
  queue_waits_at queue j is = which (queue j) refl is where
    which : (o : Option (Waiting P)) → queue j ≡ o → is_of same second o ≡ true → (v : Waiting P) × (queue j ≡ Some v) × (same second v.party ≡ true)
    which None at is = absurd (cc)
    which (Some v) at is = (v, at, is)

  clash : (queue : Queue P) (whose : ℕ) → IsNext queue whose → is_of same first (queue whose) ≡ true → Stuck same first second queue → ⊥
  clash queue whose next its s =
      let of_first = subst (λ (o : Option (Waiting P)). is_of same first o ≡ true) next.there its in
      let lt = subst (λ (o : Option (Waiting P)). IfSome o (λ w. same first w.party ≡ true → s.waiting.since < w.since)) next.there (s.longer whose) of_first in
      subst (λ (o : Option (Waiting P)). IfSome o (λ w. ¬ (HasWaitedLonger w next.waiting))) s.there (next.longest s.key) (inl lt)

module _ {T P : Type 0} (same : P → P → Bool) (laws : IsEquivalence same) (is_by : Listener → List ℕ → P → Type 0) (first second : P) where
  takes_stuck : (queue : Queue P) (turn : Turn T) (event_count j : ℕ) (v : Waiting P) → ¬ (is_of same second (queue turn.whose) ≡ true) → queue j ≡ Some v
      → same second v.party ≡ true → v.since < event_count
      → ((k : ℕ) → IfSome (option_map (queued_behind same (queue turn.whose) event_count) (queue k)) (λ w. same first w.party ≡ true → v.since < w.since))
      → Stuck same first second (queue_after same queue turn event_count)
  takes_stuck queue turn event_count j v not there its now all = record {
    key = j;
    waiting = v;
    there = elim (eqb_tells j turn.whose) [
      | inl (is, at) ↦ absurd (not (sym (ap (is_of same second) (sym there ∙ ap queue at)) ∙ its))
      | inr (differ, isnt) ↦ ap (λ b. if b then option_and_then (waits_on turn.poll event_count) (queue j) else option_map (queued_behind same (queue turn.whose) event_count) (queue j)) differ
          ∙ (ap (option_map (queued_behind same (queue turn.whose) event_count)) there ∙ ap Some (queue_kept same laws first second event_count (queue turn.whose) v its not))
    ];
    its = its;
    longer = λ k. each k (k == turn.whose);
  } where
    each : (k : ℕ) (b : Bool)
        → IfSome (if b then option_and_then (waits_on turn.poll event_count) (queue k) else option_map (queued_behind same (queue turn.whose) event_count) (queue k))
        (λ w. same first w.party ≡ true → v.since < w.since)
    each k true = anew same laws first second event_count v.since now turn.poll (queue k)
    each k false = all k

  blocked : (h : List (QueueEvent T P)) → AreInTurn same is_by h → IsPassedOver same first second h → Stuck same first second (queue_of same h)
  blocked [] it over = absurd over
  blocked (Joins joins listener request party ∷ before) it over = let (by, free, rest) = it in
      joins_stuck same first second before joins listener request party free (blocked before rest over)
  blocked (Takes turn ∷ before) it over = let (next, what, rest) = it in let (not, why) = over in elim why [
    | inl ofs ↦ let (its, waits) = ofs in let (j, is) = waits in let (v, there, of_second) = queue_waits_at same first second (queue_of same before) j is in
        let now = subst (λ (o : Option (Waiting P)). IfSome o (λ w. w.since < length before)) there (since_below same before j) in
        takes_stuck (queue_of same before) turn (length before) j v not there of_second now
        (λ k. queue_all_behind same laws first second (length before) v.since now (queue_of same before turn.whose) its (queue_of same before k))
    | inr earlier ↦ let s = blocked before rest earlier in let now = began same first second before s in
        takes_stuck (queue_of same before) turn (length before) s.key s.waiting not s.there s.its now
        (λ k. still_behind same laws first second (length before) s.waiting.since now (queue_of same before turn.whose) (queue_of same before k) (s.longer k))
  ]

module _ {T P : Type 0} (same : P → P → Bool) (laws : IsEquivalence same) (is_by : Listener → List ℕ → P → Type 0) where
  pub none_twice : (h : List (QueueEvent T P)) → AreInTurn same is_by h → NoneTwice same h
  none_twice [] it = tt
  none_twice (Joins joins listener request party ∷ before) it = let (by, free, rest) = it in none_twice before rest
  none_twice (Takes turn ∷ before) it = let (next, what, rest) = it in
      ((λ first second its over. clash same first second (queue_of same before) turn.whose next its (blocked same laws is_by first second before rest over)), none_twice before rest)

-- The input of a turn is its connection's own task or request.
pub own_of : {T P : Type 0} (o : Option (Waiting P)) (left : Option T) (input : Input T) → IsWhatWaits o left input → IsOwnInput left input
own_of None left input p = absurd p
own_of (Some w) None input p = subst (IsOwnInput None) (sym p) refl
own_of (Some w) (Some task) input p = subst (IsOwnInput (Some task)) (sym p) refl

module _ {S T P : Type 0} (same : P → P → Bool) (is_by : Listener → List ℕ → P → Type 0) where
  abbrev pub IsHistoryIn : List (QueueEvent T P) → ℕ → Slab (Connection S T P) → Type 0
  IsHistoryIn h event_count connections = IsHistory same is_by h event_count (queue_in connections) (tasks_in connections)

  pub same_history : (h : List (QueueEvent T P)) (event_count now : ℕ) (old new : Slab (Connection S T P)) → now ≡ event_count → KeepsQueue old new → KeepsTasks old new
      → IsHistoryIn h event_count old → IsHistoryIn h now new
  same_history h event_count now old new is queue tasks p = record {
    moment_is = is ∙ p.moment_is;
    waits = λ k. queue k ∙ p.waits k;
    tasks = λ k. tasks k ∙ p.tasks k;
    in_turn = p.in_turn;
  }

module _ {T P : Type 0} where
  -- The tasks left follow from the turns.
  pub turns_leave : (h : List (QueueEvent T P)) → Agree (after_turns no_tasks (turns_taken h)) (tasks_of h)
  turns_leave [] whose = refl
  turns_leave (Joins joins listener request party ∷ before) whose = turns_leave before whose
  turns_leave (Takes turn ∷ before) whose = turns_append no_tasks (turns_taken before) (turn ∷ []) whose
      ∙ after_same (after_turns no_tasks (turns_taken before)) (tasks_of before) turn (turns_leave before) whose

  pub turns_own : (same : P → P → Bool) (is_by : Listener → List ℕ → P → Type 0) (h : List (QueueEvent T P)) → AreInTurn same is_by h → AreOwn no_tasks (turns_taken h)
  turns_own same is_by [] turns = tt
  turns_own same is_by (Joins joins listener request party ∷ before) turns = let (by, free, rest) = turns in turns_own same is_by before rest
  turns_own same is_by (Takes turn ∷ before) turns = let (next, input, rest) = turns in
      own_append no_tasks (turns_taken before) (turn ∷ []) (turns_own same is_by before rest)
      (subst (λ left. IsOwnInput left turn.input) (sym (turns_leave before turn.whose)) (own_of (queue_of same before turn.whose) (tasks_of before turn.whose) turn.input input), tt)

module _ {O T P : Type 0} (is_by : Listener → List ℕ → P → Type 0) (answers : O → Listener → List ℕ → Poll T → O → Type 0) (resumes : O → T → Poll T → O → Type 0) where
  pub serves_then : (a b c : O) (h g : List (QueueEvent T P)) → Serves is_by answers resumes a h b → Serves is_by answers resumes b g c → Serves is_by answers resumes a (g ++ h) c
  serves_then a b c h [] p q = subst (Serves is_by answers resumes a h) (sym q) p
  serves_then a b c h (Joins joins listener request party ∷ before) p q = (q.0, serves_then a b c h before p q.1)
  serves_then a b c h (Takes turn ∷ before) p q = let (middle, some, one) = q in (middle, serves_then a b middle h before p some, one)

  pub serves_turns : (a b : O) (h : List (QueueEvent T P)) → Serves is_by answers resumes a h b → TakesTurns answers resumes a (turns_taken h) b
  serves_turns a b [] p = p
  serves_turns a b (Joins joins listener request party ∷ before) p = serves_turns a b before p.1
  serves_turns a b (Takes turn ∷ before) p = let (middle, some, one) = p in
      TakesTurns-append answers resumes a middle b (turns_taken before) (turn ∷ []) (serves_turns a middle before some) (b, one, refl)

  -- The parties are those that the service named.
  pub named : (same : P → P → Bool) (a b : O) (h : List (QueueEvent T P)) → AreInTurn same (λ listener request party. ⊤) h → Serves is_by answers resumes a h b → AreInTurn same is_by h
  named same a b [] turns p = tt
  named same a b (Joins joins listener request party ∷ before) turns p = let (by, free, rest) = turns in (p.0, free, named same a b before rest p.1)
  named same a b (Takes turn ∷ before) turns p = let (next, input, rest) = turns in let (middle, some, one) = p in (next, input, named same a middle before rest some)

  -- The service changed by the turns of these events alone.
  abbrev pub service_ran : (same : P → P → Bool) (a b : O) (h : List (QueueEvent T P)) (left : Tasks T) → ((k : ℕ) → left k ≡ tasks_of h k) → AreInTurn same is_by h
      → Serves is_by answers resumes a h b → IsServiceRun answers resumes a b no_tasks left
  service_ran same a b h left tasks turns p = record {
    turns = turns_taken h;
    runs = serves_turns a b h p;
    own = turns_own same is_by h turns;
    rest = λ k. turns_leave h k ∙ sym (tasks k);
  }
