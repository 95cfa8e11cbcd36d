-- What holds of a server's run, by its events.
use Rattle.std.proofs.Common.{◌≡◌, ◌∙◌, ◌+◌, ◌≤◌, ◌==◌, ◌++◌, ℕ, arith, inl, inr, List, [], ◌∷◌, length, map, Bool, Option, None, Some, ap, refl, subst, sym, append-nil, append_assoc, length-append}
use Rattle.toll_server.proofs.Common.{eqb_tells, Slab, get, Accepting, Agrees, AreRounds, Arrival, BreaksDown, Changes, Connection, Connections, HandsOut, HasHeard, HasRun, HasWaited, HasWaitedLonger, Hearing, Hears, IsDueAt, IsDueTo, IsInTime, IsNew, IsNext, IsSentBySome, IsServedInTurn, IsServerRun, IsServiceRun, IsStep, IsWhatWaits, Joining, KeepsTasks, Listener, MayEvict, MayJoin, NoneNew, Passes, Poll, QueueEvent, Server, ServerEvent, Serves, ServesFrom, Serving, ShowsTime, Stage, TakesTurn, Tallies, Tally, Turn, Waiting, WaitsOnce, Wake, ClosesExpired, advanced_in, arrival_in, expired_in, joined_in, last_poll, newly, no_tasks, pending_task, queue_after, queue_event, queue_events, queue_in, queue_of, queue_with, queued_behind, server_at, shortage_in, task_of, tasks_in, tasks_of, waiting_of, waits_on, wake_in}
use Rattle.slab.proofs.SlabLemmas.{Contains-cons_cases}
use Rattle.std.specs.Cmp.{IsEquivalence}
use Rattle.std.specs.List.{Contains}
use Rattle.std.specs.Prelude.{◌⊎◌, ⊤, All, IfSome, Ok, filter_map, flat_map, option_and_then, option_map, option_to_list, reverse, slice_index_or, if◌then◌else◌}
use Rattle.std.proofs.lemmas.List.{reverse-append}
use Rattle.std.proofs.lemmas.List.Elements.{All-cons, All-nil, All-weaker, Contains-append_right, filter_map-append}
use Rattle.toll_protocol.specs.declared.streams.sink.Sink as sink
use Rattle.toll_protocol.specs.declared.streams.source.Source as source
use Rattle.toll_server.proofs.ConnectionLemmas.{Keeps, added_keeps, closed_keeps, evicted_keeps, expired_closed, expired_queue, turn_queue, turn_tasks}
use Rattle.toll_server.proofs.QueueLemmas.{IsHistoryIn, named, none_twice, same_history, service_ran}
use Rattle.toll_server.proofs.StandLemmas.{StandsByKey, asked_at, closed_new, each_some, removed_new, same_new, stands_added, stands_fewer, stands_heard, stands_kept, stands_lost, turn_requests}
use Rattle.toll_server.proofs.WholeLemmas.{handed_once}
use Rattle.toll_server.proofs.TallyLemmas.{tallies_begin, tallies_then, tallies_weaker}
use Rattle.toll_server.specs.ServerEvents.{Advances, Comes, Ends, Expires, IsLost, IsShort, Takes, Waits}
use Rattle.toll_server.specs.declared.network.NetworkFault.{NetworkFault}
use Rattle.toll_server.specs.declared.network.TheConstants.{MOST_READY}

-- The keys that are still to advance, the first of them last, and when the wait was over that isn't dealt with yet.
abbrev still : Stage → List ℕ
still Accepting = []
still (Hearing keys at) = reverse keys
still Serving = []

abbrev due : Stage → List ℕ
due Accepting = []
due (Hearing keys at) = at ∷ []
due Serving = []

module _ {S T P : Type 0} where
  -- All that were ready advanced, but for those that still are to; and each wait was dealt with, but for that which isn't yet.
  abbrev Keeps_pace : List (ServerEvent S T P) → Stage → Type 0
  Keeps_pace events stage = (still stage ++ filter_map advanced_in events ≡ flat_map (λ wake. reverse wake.ready) (filter_map wake_in events))
      × (due stage ++ filter_map expired_in events ≡ map (λ wake. wake.at) (filter_map wake_in events))

  paced : (event : ServerEvent S T P) (before : List (ServerEvent S T P)) (old new : Stage) → Passes event old new → Keeps_pace before old → Keeps_pace (event ∷ before) new
  paced (Comes came at) before old new p q = subst (Keeps_pace before) (p.0 ∙ sym p.1) q
  paced (IsLost came) before old new p q = subst (Keeps_pace before) (p.0 ∙ sym p.1) q
  paced (IsShort key) before old new p q = subst (Keeps_pace before) (p.0 ∙ sym p.1) q
  paced Ends before old new p q = subst (Keeps_pace before) (p.0 ∙ sym p.1) q
  paced (Waits wake) before old new p q = let pace = subst (Keeps_pace before) p.0 q in
      subst (Keeps_pace (Waits wake ∷ before)) (sym p.1) (ap (λ l. reverse wake.ready ++ l) pace.0, ap (λ l. wake.at ∷ l) pace.1)
  paced (Advances whose joined) before old new p q = let (keys, at, was, is) = p in let pace = subst (Keeps_pace before) was q in
      subst (Keeps_pace (Advances whose joined ∷ before)) (sym is) (sym (append_assoc (reverse keys) (whose ∷ []) (filter_map advanced_in before)) ∙ (ap (λ l. l ++ filter_map advanced_in before) (sym (reverse-append (whose ∷ []) keys)) ∙ pace.0), pace.1)
  paced (Expires at) before old new p q = let pace = subst (Keeps_pace before) p.0 q in subst (Keeps_pace (Expires at ∷ before)) (sym p.1) (pace.0, pace.1)
  paced (Takes turn) before old new p q = let pace = subst (Keeps_pace before) p.0 q in subst (Keeps_pace (Takes turn ∷ before)) (sym p.1) (pace.0, pace.1)

module _ {S P : Type 0} where
  sent_more : (unread : S → Option (List ℕ)) (xs : List (Arrival S)) (arrivals : List (Arrival S)) (j : Joining P) → IsSentBySome unread arrivals j → IsSentBySome unread (xs ++ arrivals) j
  sent_more unread xs arrivals j p = record {
    came = p.came;
    among = Contains-append_right xs arrivals p.came p.among;
    key = p.key;
    listener = p.listener;
    rest = p.rest;
    begins = p.begins;
  }

module _ {S T P : Type 0} (same : P → P → Bool) where
  renamed : (s : Slab (Connection S T P)) (turn : Turn T) (m : ℕ) (h : List (QueueEvent T P)) → ((k : ℕ) → queue_in s k ≡ queue_of same h k) → (k : ℕ)
      → queue_after same (queue_in s) turn m k ≡ queue_after same (queue_of same h) turn m k
  renamed s turn m h agree k =
      ap (λ o. if k == turn.whose then option_and_then (waits_on turn.poll m) o else option_map (queued_behind same (queue_in s turn.whose) m) o) (agree k)
      ∙ ap (λ w. if k == turn.whose then option_and_then (waits_on turn.poll m) (queue_of same h k) else option_map (queued_behind same w m) (queue_of same h k)) (agree turn.whose)

  next_in : (s : Slab (Connection S T P)) (whose : ℕ) (h : List (QueueEvent T P)) → ((k : ℕ) → queue_in s k ≡ queue_of same h k) → IsNext (queue_in s) whose → IsNext (queue_of same h) whose
  next_in s whose h agree next = record {
    waiting = next.waiting;
    there = sym (agree whose) ∙ next.there;
    longest = λ other. subst (λ (o : Option (Waiting P)). IfSome o (λ w. ¬ (HasWaitedLonger w next.waiting))) (agree other) (next.longest other);
  }

module _ {S T P : Type 0} (same : P → P → Bool) (from : source.Ghosts S) (to : sink.Ghosts S) (most : ℕ) where
  -- The queue and the tasks are those of the events; whose party each request is of is left open.
  abbrev At : List (QueueEvent T P) → Server S T P → Type 0
  At h server = IsHistoryIn same (λ listener request party. ⊤) h server.event_count server.slots

  keeps_then : (a b c : Slab (Connection S T P)) → Keeps a b → Keeps b c → Keeps a c
  keeps_then a b c p q = (λ k. q.0 k ∙ p.0 k, λ k. q.1 k ∙ p.1 k)

  may_keep : (old new : Slab (Connection S T P)) → MayEvict old new → Keeps old new
  may_keep old new (inl same_slots) = (λ k. ap (λ s. queue_in s k) same_slots, λ k. ap (λ s. tasks_in s k) same_slots)
  may_keep old new (inr one) = evicted_keeps old new one

  none_new : (old new : Slab (Connection S T P)) → MayEvict old new → NoneNew old new
  none_new old new (inl same_slots) = same_new old new (λ k. ap (λ s. get s k) same_slots)
  none_new old new (inr one) = removed_new old new one.key one.out

  kept : (h : List (QueueEvent T P)) (old new : Server S T P) → new.event_count ≡ old.event_count + 0 → Keeps old.slots new.slots → At h old → At h new
  kept h old new is both q = same_history same (λ listener request party. ⊤) h old.event_count new.event_count old.slots new.slots (omega (arith, is)) both.0 both.1 q

  stepped : (event : ServerEvent S T P) (before : List (ServerEvent S T P)) (old new : Server S T P) → IsStep same from to most event old new
      → At (queue_events before) old → At (queue_events (event ∷ before)) new
  stepped (Comes came at) before old new p q = kept (queue_events before) old new p.event_count (added_keeps most at came old.slots new.slots p.slots) q
  stepped (IsLost came) before old new p q = let (full, same_slots, evicts) = p.slots in kept (queue_events before) old new p.event_count
      (keeps_then old.slots full new.slots (λ k. ap (λ l. option_and_then waiting_of (slice_index_or l k None)) same_slots, λ k. ap (λ l. option_and_then (λ c. task_of c.state) (slice_index_or l k None)) same_slots)
      (may_keep full new.slots evicts)) q
  stepped (IsShort key) before old new p q = kept (queue_events before) old new p.event_count (may_keep old.slots new.slots p.slots) q
  stepped Ends before old new p q = let (none, owners, closes) = p.slots in kept (queue_events before) old new p.event_count (closed_keeps old.slots new.slots closes) q
  stepped (Waits wake) before old new p q = kept (queue_events before) old new p.event_count (λ k. ap (λ s. queue_in s k) p.slots, λ k. ap (λ s. tasks_in s k) p.slots) q
  stepped (Advances whose None) before old new p q = let (hears, tasks, queue) = p.slots in kept (queue_events before) old new p.event_count (queue, tasks) q
  stepped (Advances whose (Some j)) before old new p q = let (hears, tasks, joins) = p.slots in let (own, free, queue) = joins in record {
    moment_is = omega (arith, p.event_count, q.moment_is);
    waits = λ k. queue k ∙ (ap (λ m. queue_with (queue_in old.slots) whose (newly j.party j.listener j.request m) k) q.moment_is
        ∙ (ap (λ w. queue_with (queue_in old.slots) w (newly j.party j.listener j.request (length (queue_events before))) k) (sym own)
        ∙ ap (λ o. if k == j.whose then Some (newly j.party j.listener j.request (length (queue_events before))) else o) (q.waits k)));
    tasks = λ k. tasks k ∙ q.tasks k;
    in_turn = (tt, sym (q.waits j.whose) ∙ subst (λ w. queue_in old.slots w ≡ None) (sym own) free, q.in_turn);
  }
  stepped (Expires at) before old new p q = kept (queue_events before) old new p.event_count
      (expired_queue at old.slots new.slots p.slots, expired_closed at old.slots new.slots p.slots) q
  stepped (Takes None) before old new p q = kept (queue_events before) old new p.event_count (λ k. ap (λ s. queue_in s k) p.slots.1, λ k. ap (λ s. tasks_in s k) p.slots.1) q
  stepped (Takes (Some turn)) before old new p q = record {
    moment_is = omega (arith, p.event_count, q.moment_is);
    waits = λ k. turn_queue same to old.event_count turn old.slots new.slots p.slots k
        ∙ (ap (λ m. queue_after same (queue_in old.slots) turn m k) q.moment_is ∙ renamed same old.slots turn (length (queue_events before)) (queue_events before) q.waits k);
    tasks = λ k. turn_tasks same to old.event_count turn old.slots new.slots p.slots k ∙ ap (λ o. if k == turn.whose then pending_task turn.poll else o) (q.tasks k);
    in_turn = (
      next_in same old.slots turn.whose (queue_events before) q.waits p.slots.next,
      subst (λ o. IsWhatWaits (queue_of same (queue_events before) turn.whose) o turn.input) (q.tasks turn.whose)
          (subst (λ o. IsWhatWaits o (tasks_in old.slots turn.whose) turn.input) (q.waits turn.whose) p.slots.input),
      q.in_turn,
    );
  }

  history_from : (first last : Server S T P) (events : List (ServerEvent S T P)) → IsServerRun same from to most first events last → At [] first → At (queue_events events) last
  history_from first last [] run base = subst (At []) (sym run) base
  history_from first last (event ∷ before) run base = let (middle, some, step) = run in stepped event before middle last step (history_from first middle before some base)

  -- The queue and the tasks follow from the events.
  pub history : (count : ℕ) (first last : Server S T P) (events : List (ServerEvent S T P)) → IsNew count first → IsServerRun same from to most first events last → At (queue_events events) last
  history count first last events new run = history_from first last events run (record {
    moment_is = new.event_count;
    waits = λ k. ap (λ o. option_and_then waiting_of o) (new.none k);
    tasks = λ k. ap (λ o. option_and_then (λ c. task_of c.state) o) (new.none k);
    in_turn = tt;
  })

  -- Each request came from an accepted connection, and each open connection stands under the key of its arrival.
  abbrev Stands : List (ServerEvent S T P) → Slab (Connection S T P) → Type 0
  Stands events slots = All (IsSentBySome from.unread (filter_map arrival_in events)) (filter_map joined_in events) × StandsByKey from.unread (filter_map arrival_in events) slots

  more_came : (came : Arrival S) (events : List (ServerEvent S T P)) → All (IsSentBySome from.unread (filter_map arrival_in events)) (filter_map joined_in events)
      → All (IsSentBySome from.unread (came ∷ filter_map arrival_in events)) (filter_map joined_in events)
  more_came came events = All-weaker (IsSentBySome from.unread (filter_map arrival_in events)) (IsSentBySome from.unread (came ∷ filter_map arrival_in events))
      (sent_more from.unread (came ∷ []) (filter_map arrival_in events)) (filter_map joined_in events)

  stood : (event : ServerEvent S T P) (before : List (ServerEvent S T P)) (old new : Server S T P) → IsStep same from to most event old new → Stands before old.slots → Stands (event ∷ before) new.slots
  stood (Comes came at) before old new p q = (more_came came before q.0, stands_added from.unread most at (filter_map arrival_in before) came old.slots new.slots p.slots q.1)
  stood (IsLost came) before old new p q = let (full, same_slots, evicts) = p.slots in (
    more_came came before q.0,
    stands_fewer from.unread (came ∷ filter_map arrival_in before) full new.slots (none_new full new.slots evicts)
        (stands_fewer from.unread (came ∷ filter_map arrival_in before) old.slots full
        (same_new old.slots full (λ k. ap (λ l. slice_index_or l k None) same_slots)) (stands_lost from.unread (filter_map arrival_in before) came old.slots q.1)),
  )
  stood (IsShort key) before old new p q = (q.0, stands_fewer from.unread (filter_map arrival_in before) old.slots new.slots (none_new old.slots new.slots p.slots) q.1)
  stood Ends before old new p q = let (none, owners, closes) = p.slots in let (readers, keeps, fewer) = closes in
      (q.0, stands_fewer from.unread (filter_map arrival_in before) old.slots new.slots fewer q.1)
  stood (Waits wake) before old new p q = subst (Stands before) (sym p.slots) q
  stood (Advances whose None) before old new p q = let (hears, tasks, queue) = p.slots in (q.0, stands_heard from to same most (filter_map arrival_in before) whose old.slots new.slots hears q.1)
  stood (Advances whose (Some j)) before old new p q = let (hears, tasks, joins) = p.slots in let (own, free, queue) = joins in
      let after = stands_heard from to same most (filter_map arrival_in before) whose old.slots new.slots hears q.1 in (
        All-cons (IsSentBySome from.unread (filter_map arrival_in before)) j (filter_map joined_in before)
            (subst (λ k. IsSentBySome from.unread (filter_map arrival_in before) (record { whose = k; listener = j.listener; request = j.request; party = j.party })) (sym own)
            (asked_at from.unread (filter_map arrival_in before) new.slots whose j.listener j.request j.party old.event_count after (queue whose ∙ joins_at old.slots whose j old.event_count))) q.0,
        after,
      ) where
        joins_at : (slots : Slab (Connection S T P)) (whose : ℕ) (j : Joining P) (m : ℕ) → queue_with (queue_in slots) whose (newly j.party j.listener j.request m) whose ≡ Some (newly j.party j.listener j.request m)
        joins_at slots whose j m = elim (eqb_tells whose whose) [
          | inl (equal, at) ↦ ap (λ b. if b then Some (newly j.party j.listener j.request m) else queue_in slots whose) equal
          | inr (differ, isnt) ↦ absurd (isnt refl)
        ]
  stood (Expires at) before old new p q = (q.0, stands_fewer from.unread (filter_map arrival_in before) old.slots new.slots (closed_new at old.slots new.slots p.slots) q.1)
  stood (Takes None) before old new p q = subst (Stands before) (sym p.slots.1) q
  stood (Takes (Some turn)) before old new p q = let t = p.slots in (
    q.0,
    stands_kept from.unread (filter_map arrival_in before) old.slots new.slots
        (turn_requests same t.ticket.party old.event_count old.slots new.slots turn.whose t.connection t.later t.step t.there t.stays t.others t.request
        (λ reads. let none = sym t.reported ∙ ap last_poll reads in absurd (cc))) q.1,
  )

  abbrev Has : List (ServerEvent S T P) → Server S T P → Type 0
  Has events server = Keeps_pace events server.stage × Stands events server.slots × (Contains events Ends → server.owners_left ≡ 0)

  has : (first last : Server S T P) (events : List (ServerEvent S T P)) → IsServerRun same from to most first events last → Has [] first → Has events last
  has first last [] run base = subst (Has []) (sym run) base
  has first last (event ∷ before) run base = let (middle, some, step) = run in let (pace, stands, ended) = has first middle before some base in (
    paced event before middle.stage last.stage step.stage pace,
    stood event before middle last step stands,
    λ among. elim (Contains-cons_cases event Ends before among) [
      | inl is ↦ let none = (subst (λ e. Changes same from to most e middle last.slots) is step.slots).0 in omega (arith, none, step.owners)
      | inr earlier ↦ let none = ended earlier in omega (arith, none, step.owners)
    ],
  )

  pub rounds : IsEquivalence same → {O : Type 0} (is_by : Listener → List ℕ → P → Type 0) (answers : O → Listener → List ℕ → Poll T → O → Type 0) (resumes : O → T → Poll T → O → Type 0)
      (count : ℕ) (first last : Server S T P) (events : List (ServerEvent S T P)) (old new : O) → IsNew count first → IsServerRun same from to most first events last → last.stage ≡ Accepting
      → Serves is_by answers resumes old (queue_events events) new → AreRounds same is_by from.unread events last.owners_left
  rounds laws is_by answers resumes count first last events old new fresh run rests served =
      let in_turn = named is_by answers resumes same old new (queue_events events) (history count first last events fresh run).in_turn served in
      let (pace, stands, ended) = has first last events run begins in
      let even = subst (Keeps_pace events) rests pace in record {
        in_turn = in_turn;
        none_twice = none_twice same laws is_by (queue_events events) in_turn;
        handed = handed_once same is_by (queue_events events) in_turn;
        requested = stands.0;
        advanced = even.0;
        expired = even.1;
        ended = ended;
      } where
        begins : Has [] first
        begins = (
          subst (Keeps_pace {S = S} {T = T} {P = P} []) (sym fresh.stage) (refl, refl),
          (All-nil (IsSentBySome {P = P} from.unread []), λ key. each_some (get first.slots key) _ (λ connection there. let e : None ≡ Some connection = sym (fresh.none key) ∙ there in absurd (cc))),
          λ among. absurd (omega (arith, among.1)),
        )

  -- The service changed by turns alone, each in order.
  pub turned : IsEquivalence same → {O : Type 0} (is_by : Listener → List ℕ → P → Type 0) (answers : O → Listener → List ℕ → Poll T → O → Type 0) (resumes : O → T → Poll T → O → Type 0)
      (count : ℕ) (first last : Server S T P) (events : List (ServerEvent S T P)) (old new : O) → IsNew count first → IsServerRun same from to most first events last
      → Serves is_by answers resumes old (queue_events events) new → IsServedInTurn same is_by answers resumes old new
      × IsServiceRun answers resumes old new no_tasks (tasks_in last.slots)
  turned laws is_by answers resumes count first last events old new fresh run served =
      let past = history count first last events fresh run in
      let in_turn = named is_by answers resumes same old new (queue_events events) past.in_turn served in
      let ran = service_ran is_by answers resumes same old new (queue_events events) (tasks_in last.slots) past.tasks in_turn served in (
        record {
          history = queue_events events;
          left = tasks_in last.slots;
          run = ran;
          its = refl;
          in_turn = in_turn;
          none_twice = none_twice same laws is_by (queue_events events) in_turn;
        },
        ran,
      )

  pub run_then : (a b c : Server S T P) (es fs : List (ServerEvent S T P)) → IsServerRun same from to most a es b → IsServerRun same from to most b fs c → IsServerRun same from to most a (fs ++ es) c
  run_then a b c es [] p q = subst (IsServerRun same from to most a es) (sym q) p
  run_then a b c es (event ∷ fs) p q = let (middle, some, step) = q in (middle, run_then a b middle es fs p some, step)

-- The tally agrees with the events before and then with those after.
pub agrees_then : {S T P : Type 0} (a b c : Server S T P) (es fs : List (ServerEvent S T P)) (t u v : Tally S) → Agrees a es b t u → Agrees b fs c u v → Agrees a (fs ++ es) c t v
agrees_then a b c es fs t u v p q = record {
  owners = omega (arith, p.owners, q.owners);
  accepted = q.accepted ∙ (ap (λ l. filter_map arrival_in fs ++ l) p.accepted ∙ (sym (append_assoc (filter_map arrival_in fs) (filter_map arrival_in es) t.arrivals)
      ∙ ap (λ l. l ++ t.arrivals) (sym (filter_map-append arrival_in fs es))));
  short = q.short ∙ (ap (λ l. filter_map shortage_in fs ++ l) p.short ∙ (sym (append_assoc (filter_map shortage_in fs) (filter_map shortage_in es) t.shortages)
      ∙ ap (λ l. l ++ t.shortages) (sym (filter_map-append shortage_in fs es))));
  waited = q.waited ∙ (ap (λ l. filter_map wake_in fs ++ l) p.waited ∙ (sym (append_assoc (filter_map wake_in fs) (filter_map wake_in es) t.wakes)
      ∙ ap (λ l. l ++ t.wakes) (sym (filter_map-append wake_in fs es))));
  none_missed = λ none. let (unheard, missed) = p.none_missed none in let (later, more) = q.none_missed unheard in (later, more ∙ missed);
}

module _ {S T P : Type 0} (same : P → P → Bool) (from : source.Ghosts S) (to : sink.Ghosts S) where
  -- These events came after the run.
  abbrev pub ran_then : (most : ℕ) (a b c : Server S T P) (fs : List (ServerEvent S T P)) (was reported is : Option (Tally S)) → HasRun same from to most a b was reported
      → IsServerRun same from to most b fs c → Tallies (Agrees b fs c) reported is → HasRun same from to most a c was is
  ran_then most a b c fs was reported is p run net = record {
    events = fs ++ p.events;
    run = run_then same from to most a b c p.events fs p.run run;
    net = tallies_then (Agrees a p.events b) (Agrees b fs c) (Agrees a (fs ++ p.events) c) was reported is p.net net (agrees_then a b c p.events fs);
  }

  -- Nothing was done yet.
  abbrev pub ran_none : (most : ℕ) (a : Server S T P) (was : Option (Tally S)) → HasRun same from to most a a was was
  ran_none most a was = record {
    events = [];
    run = refl;
    net = tallies_begin (Agrees a [] a) was was refl (λ t. record { owners = refl; accepted = refl; short = refl; waited = refl; none_missed = λ none. (none, refl) });
  }

  -- The same with events that don't change the queue.
  abbrev pub RunsQuietly : ℕ → Server S T P → Server S T P → Option (Tally S) → Option (Tally S) → Type 0
  RunsQuietly most a b was is = (ran : HasRun same from to most a b was is) × (queue_events ran.events ≡ [])

  pub quiet_then : (most : ℕ) (a b c : Server S T P) (fs : List (ServerEvent S T P)) (was reported is : Option (Tally S)) → RunsQuietly most a b was reported
      → IsServerRun same from to most b fs c → queue_events fs ≡ [] → Tallies (Agrees b fs c) reported is → RunsQuietly most a c was is
  quiet_then most a b c fs was reported is p run none net = (
    ran_then most a b c fs was reported is p.0 run net,
    filter_map-append queue_event fs p.0.events ∙ (ap (λ l. l ++ queue_events p.0.events) none ∙ p.1),
  )

  -- The network did something that is no event.
  pub quiet_call : (most : ℕ) (a b : Server S T P) (was reported is : Option (Tally S)) → RunsQuietly most a b was reported → Tallies (Agrees b [] b) reported is → RunsQuietly most a b was is
  quiet_call most a b was reported is p net = quiet_then most a b b [] was reported is p refl refl net

  -- So many connections are admitted.
  pub quiet_within : (most more : ℕ) (a b : Server S T P) (was is : Option (Tally S)) → most ≡ more → RunsQuietly most a b was is → RunsQuietly more a b was is
  quiet_within most more a b was is same_most p = subst (λ m. RunsQuietly m a b was is) same_most p
