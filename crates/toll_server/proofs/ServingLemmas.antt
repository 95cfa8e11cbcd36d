-- Rounds of serving, step by step.
use Rattle.std.proofs.Common.{◌≡◌, ◌∙◌, ◌+◌, ◌≤◌, ◌<◌, ◌⊎◌, ◌++◌, ℕ, arith, inl, inr, List, [], ◌∷◌, length, Bool, false, Option, None, Some, ap, refl, subst, sym, append-nil, append_assoc, length-append, Result}
use Rattle.toll_server.proofs.Common.{Accepting, Accepts, Agrees, BreaksDown, ClosesExpired, Connection, Connections, HandsOut, HasHeard, HasWaited, Hearing, Hears, IsDueAt, IsDueTo, IsInTime, IsPaused, IsServerRun, IsStep, Joining, KeepsTasks, Listener, MayJoin, Open, Poll, QueueEvent, Server, ServerEvent, Serves, ServesFrom, Serving, ShowsTime, Slab, Tallies, TakesNext, Tally, WaitsOnce, Wake, WindsDown, arrival_in, get, queue_event, queue_events, server_at, shortage_in, wake_in}
use Rattle.std.specs.Prelude.{IfSome, Ok, filter_map, option_to_list}
use Rattle.std.proofs.lemmas.Bool.{cases_lt}
use Rattle.std.proofs.lemmas.List.Elements.{filter_map-append}
use Rattle.toll_protocol.specs.declared.streams.sink.Sink as sink
use Rattle.toll_protocol.specs.declared.streams.source.Source as source
use Rattle.toll_server.proofs.QueueLemmas.{serves_then}
use Rattle.toll_server.proofs.RoundLemmas.{RunsQuietly, quiet_call, quiet_then, quiet_within, ran_then, run_then}
use Rattle.toll_server.proofs.TallyLemmas.{OnlyClock, OnlyListening, broken_agrees, listening_agrees, tallies_begin, tallies_then, tallies_weaker}
use Rattle.toll_server.specs.ServerEvents.{Advances, Ends, Expires, Takes, Waits}
use Rattle.toll_server.specs.declared.connections.AcceptState.{AcceptState}
use Rattle.toll_server.specs.declared.network.NetworkFault.{NetworkFault}
use Rattle.toll_server.specs.declared.network.TheConstants.{MOST_READY}

empty_if_no_longer : {A : Type 0} (xs : List A) → length xs ≤ 0 → xs ≡ []
empty_if_no_longer [] le = refl
empty_if_no_longer (x ∷ xs) le = absurd (omega (arith, le))

-- the number of owners' connections in a tally, and whether its network listens
module _ {S : Type 0} where
  abbrev owners_of : Option (Tally S) → ℕ
  owners_of None = 0
  owners_of (Some t) = t.owners

  abbrev listening_in : Option (Tally S) → Bool
  listening_in None = false
  listening_in (Some t) = t.is_listening

-- The end has begun, or nothing was done.
pub wound_then : {S T P : Type 0} (same : P → P → Bool) (from : source.Ghosts S) (to : sink.Ghosts S) (most : ℕ) (a : Server S T P) (old new : Connections S T P) (was is : Option (Tally S))
    → WindsDown old.owners_left old.slots new.slots → new.event_count ≡ old.event_count → new.owners_left ≡ old.owners_left
    → RunsQuietly same from to most a (server_at old Accepting) was is → RunsQuietly same from to most a (server_at new Accepting) was is
wound_then same from to most a old new was is (inl ends) events owners p = let (none, gone, closes) = ends in
    quiet_then same from to most a (server_at old Accepting) (server_at new Accepting) (Ends ∷ []) was is is p
    (server_at old Accepting, refl, record { stage = (refl, refl); owners = omega (arith, owners); event_count = omega (arith, events); slots = (none, gone, closes) }) refl
    (tallies_begin (Agrees (server_at old Accepting) (Ends ∷ []) (server_at new Accepting)) is is refl (λ t. record { owners = ap (λ n. t.owners + n) owners; accepted = refl; short = refl; waited = refl; none_missed = λ none. (none, refl) }))
wound_then same from to most a old new was is (inr kept) events owners p = subst (λ server. RunsQuietly same from to most a server was is)
    (λ i. record { slots = sym kept.0 i; event_count = sym events i; owners_left = sym owners i; stage = Accepting }) p

-- Connections were accepted, and the end has begun if no owner is left.
accepted_then : {S T P : Type 0} (same : P → P → Bool) (from : source.Ghosts S) (to : sink.Ghosts S) (most : ℕ) (old middle new : Connections S T P) (a b c : Option (Tally S)) → old.most_open ≡ most
    → RunsQuietly same from to old.most_open (server_at old Accepting) (server_at middle Accepting) a b → Tallies OnlyListening b c
    → WindsDown middle.owners_left middle.slots new.slots → new.event_count ≡ middle.event_count → new.owners_left ≡ middle.owners_left
    → RunsQuietly same from to most (server_at old Accepting) (server_at new Accepting) a c
accepted_then same from to most old middle new a b c is ran stops winds events owners =
    wound_then same from to most (server_at old Accepting) middle new a c winds events owners
    (quiet_call same from to most (server_at old Accepting) (server_at middle Accepting) a b c
    (quiet_within same from to old.most_open most (server_at old Accepting) (server_at middle Accepting) a b is ran) (listening_agrees (server_at middle Accepting) b c stops))

module _ {S T P O : Type 0} (same : P → P → Bool) (is_by : Listener → List ℕ → P → Type 0) (answers : O → Listener → List ℕ → Poll T → O → Type 0)
    (resumes : O → T → Poll T → O → Type 0) (from : source.Ghosts S) (to : sink.Ghosts S) where
  -- This many ready connections were read, one after another; others may be ready still.
  pub record HeardSoFar (old new : Connections S T P) (count : ℕ) (was is : Option (Tally S)) : Type 0 where
    pub keys : List ℕ
    pub so_many : length keys ≡ count
    pub events : List (ServerEvent S T P)
    pub run : (at : ℕ) (rest : List ℕ) → IsServerRun same from to old.most_open (server_at old (Hearing (keys ++ rest) at)) events (server_at new (Hearing rest at))
    pub served : (service : O) → Serves is_by answers resumes service (queue_events events) service
    pub alone : (filter_map arrival_in events ≡ []) × (filter_map wake_in events ≡ []) × (filter_map shortage_in events ≡ [])
    pub handed : Tallies (λ t u. (t.unheard ≡ keys ++ u.unheard) × (u ≡ record t { unheard = u.unheard })) was is

  pub none_heard : (connections : Connections S T P) (was is : Option (Tally S)) → is ≡ was → HeardSoFar connections connections 0 was is
  none_heard connections was is unchanged = record {
    keys = [];
    so_many = refl;
    events = [];
    run = λ at rest. refl;
    served = λ service. refl;
    alone = (refl, refl, refl);
    handed = tallies_begin (λ t u. (t.unheard ≡ u.unheard) × (u ≡ record t { unheard = u.unheard })) was is unchanged (λ t. (refl, refl));
  }

  joined_served : (key : ℕ) (joined : Option (Joining P)) (h : List (QueueEvent T P)) (service : O) → IfSome joined (λ j. is_by j.listener j.request j.party)
      → Serves is_by answers resumes service h service → Serves is_by answers resumes service (queue_events {S = S} (Advances key joined ∷ []) ++ h) service
  joined_served key None h service by p = p
  joined_served key (Some j) h service by p = (by, p)

  joined_queue : (key : ℕ) (joined : Option (Joining P)) (before : List (ServerEvent S T P)) → queue_events (Advances key joined ∷ before) ≡ queue_events {S = S} (Advances key joined ∷ []) ++ queue_events before
  joined_queue key None before = refl
  joined_queue key (Some j) before = refl

  joined_count : (key later now : ℕ) (joined : Option (Joining P)) → now ≡ later + length (option_to_list joined) → now ≡ later + length (option_to_list (queue_event {S = S} {T = T} (Advances key joined)))
  joined_count key later now None is = is
  joined_count key later now (Some j) is = is

  pub one_heard : (old middle new : Connections S T P) (count key : ℕ) (was reported is : Option (Tally S)) → HeardSoFar old middle count was reported → Tallies (HandsOut (Some key)) reported is
      → MayJoin is_by key middle.event_count new.event_count middle.slots new.slots → KeepsTasks middle.slots new.slots → middle.most_open ≡ old.most_open → new.owners_left ≡ middle.owners_left
      → Hears same middle.most_open from to key middle.slots new.slots → HeardSoFar old new (count + 1) was is
  one_heard old middle new count key was reported is p out joins tasks most owners hears = let (joined, joins_so, counted, by) = joins in record {
    keys = p.keys ++ key ∷ [];
    so_many = length-append p.keys (key ∷ []) ∙ ap (λ n. n + 1) p.so_many;
    events = Advances key joined ∷ p.events;
    run = λ at rest. (
      server_at middle (Hearing (key ∷ rest) at),
      subst (λ l. IsServerRun same from to old.most_open (server_at old (Hearing l at)) p.events (server_at middle (Hearing (key ∷ rest) at))) (sym (append_assoc p.keys (key ∷ []) rest)) (p.run at (key ∷ rest)),
      record {
        stage = (rest, at, refl, refl);
        owners = omega (arith, owners);
        event_count = joined_count key middle.event_count new.event_count joined counted;
        slots = (subst (λ m. Hears same m from to key middle.slots new.slots) most hears, tasks, joins_so);
      },
    );
    served = λ service. subst (λ h. Serves is_by answers resumes service h service) (sym (joined_queue key joined p.events)) (joined_served key joined (queue_events p.events) service by (p.served service));
    alone = p.alone;
    handed = tallies_then (λ t u. (t.unheard ≡ p.keys ++ u.unheard) × (u ≡ record t { unheard = u.unheard })) (HandsOut (Some key))
        (λ t u. (t.unheard ≡ (p.keys ++ key ∷ []) ++ u.unheard) × (u ≡ record t { unheard = u.unheard })) was reported is p.handed out (λ t u v q r. let (rest, front, next) = r in (
          q.0 ∙ (ap (λ l. p.keys ++ l) (front ∙ ap (λ l. key ∷ l) (sym (ap (λ x. x.unheard) next))) ∙ sym (append_assoc p.keys (key ∷ []) v.unheard)),
          next ∙ (ap (λ (x : Tally S). record x { unheard = rest }) q.1 ∙ ap (λ l. record t { unheard = l }) (sym (ap (λ x. x.unheard) next))),
        ));
  }

  heard_all : (old new : Connections S T P) (count : ℕ) (was reported is : Option (Tally S)) → (p : HeardSoFar old new count was reported)
      → Tallies (λ t u. length t.unheard ≤ MOST_READY → (p.keys ≡ t.unheard) × (u ≡ record t { unheard = [] })) was is → HasHeard same is_by answers resumes from to old new was is
  heard_all old new count was reported is p all = record {
    keys = p.keys;
    events = p.events;
    run = λ at. subst (λ l. IsServerRun same from to old.most_open (server_at old (Hearing l at)) p.events (server_at new (Hearing [] at))) (append-nil p.keys) (p.run at []);
    served = p.served;
    alone = p.alone;
    all = all;
  }

  -- No ready connection is left.
  pub all_heard : (old new : Connections S T P) (count : ℕ) (was reported is : Option (Tally S)) → HeardSoFar old new count was reported → Tallies (HandsOut None) reported is
      → HasHeard same is_by answers resumes from to old new was is
  all_heard old new count was reported is p out = heard_all old new count was reported is p
      (tallies_then (λ t u. (t.unheard ≡ p.keys ++ u.unheard) × (u ≡ record t { unheard = u.unheard })) (HandsOut None)
      (λ t u. length t.unheard ≤ MOST_READY → (p.keys ≡ t.unheard) × (u ≡ record t { unheard = [] })) was reported is p.handed out (λ t u v q r le.
      (sym (q.0 ∙ (ap (λ l. p.keys ++ l) r.0 ∙ append-nil p.keys)), r.1 ∙ (q.1 ∙ ap (λ l. record t { unheard = l }) r.0))))

  -- MOST_READY connections were read, and there can't be more.
  pub most_heard : (old new : Connections S T P) (count : ℕ) (was is : Option (Tally S)) → MOST_READY ≤ count → HeardSoFar old new count was is
      → HasHeard same is_by answers resumes from to old new was is
  most_heard old new count was is most p = heard_all old new count was is is p
      (tallies_weaker (λ t u. (t.unheard ≡ p.keys ++ u.unheard) × (u ≡ record t { unheard = u.unheard })) (λ t u. length t.unheard ≤ MOST_READY → (p.keys ≡ t.unheard) × (u ≡ record t { unheard = [] }))
      was is p.handed (λ t u q le.
      let none : u.unheard ≡ [] = empty_if_no_longer u.unheard (omega (arith, le, most, p.so_many, ap length q.0, length-append p.keys u.unheard)) in
      (sym (q.0 ∙ (ap (λ l. p.keys ++ l) none ∙ append-nil p.keys)), q.1 ∙ ap (λ l. record t { unheard = l }) none)))

  -- Every ready connection advanced since the wait, and then those whose deadline was over were closed.
  pub waited_so : (now : ℕ) (limit : Option ℕ) (began : ℕ) (old middle new : Connections S T P) (a b c d : Option (Tally S)) → Tallies (ShowsTime began) a b → Tallies (WaitsOnce {E = NetworkFault} limit (Ok now)) b c
      → IsInTime limit began old.slots → IfSome limit (λ most. IsDueAt old.accept_state began most ⊎ IsDueTo old.slots began most)
      → HasHeard same is_by answers resumes from to old middle c d → ClosesExpired now middle.slots new.slots → new.event_count ≡ middle.event_count → new.owners_left ≡ middle.owners_left
      → HasWaited same is_by answers resumes from to now old new a d
  waited_so now limit began old middle new a b c d shows waits in_time due p closed event_count owners = record {
    wake = wake;
    at = refl;
    began = began;
    in_time = in_time;
    due = due;
    events = Expires now ∷ (p.events ++ Waits wake ∷ []);
    run = (
      server_at middle (Hearing [] now),
      run_then same from to old.most_open (server_at old Accepting) (server_at old (Hearing p.keys now)) (server_at middle (Hearing [] now)) (Waits wake ∷ []) p.events
          (server_at old Accepting, refl, record { stage = (refl, refl); owners = omega arith; event_count = omega arith; slots = refl }) (p.run now),
      record { stage = (refl, refl); owners = omega (arith, owners); event_count = omega (arith, event_count); slots = closed },
    );
    served = λ service. subst (λ h. Serves is_by answers resumes service h service) (sym (filter_map-append queue_event p.events (Waits wake ∷ []) ∙ append-nil (queue_events p.events))) (p.served service);
    alone = (
      filter_map-append arrival_in p.events (Waits wake ∷ []) ∙ (append-nil (filter_map arrival_in p.events) ∙ p.alone.0),
      filter_map-append wake_in p.events (Waits wake ∷ []) ∙ ap (λ l. l ++ wake ∷ []) p.alone.1,
      filter_map-append shortage_in p.events (Waits wake ∷ []) ∙ (append-nil (filter_map shortage_in p.events) ∙ p.alone.2),
    );
    known = named a d all;
  } where
    wake : Wake
    wake = record { limit = limit; at = now; ready = p.keys; owners = owners_of a; is_listening = listening_in a }

    After : Tally S → Tally S → Type 0
    After t u = length t.unheard ≤ MOST_READY → (p.keys ≡ t.unheard) × (u ≡ record t { unheard = [] })

    Begun : Tally S → Tally S → Type 0
    Begun t u = (t.clock ≤ began) × (began ≤ now) × ((ready : List ℕ) × (length ready ≤ MOST_READY) × (u ≡ record t {
      waits = t.waits + 1;
      wakes = record { limit = limit; at = now; ready = ready; owners = t.owners; is_listening = t.is_listening } ∷ t.wakes;
      unheard = ready;
      missed = t.missed + length t.unheard;
      clock = now;
    }))

    Known : Tally S → Tally S → Type 0
    Known t u = (t.clock ≤ began) × (began ≤ now) × (u ≡ record t {
      waits = t.waits + 1;
      wakes = record { limit = limit; at = now; ready = p.keys; owners = t.owners; is_listening = t.is_listening } ∷ t.wakes;
      unheard = [];
      missed = t.missed + length t.unheard;
      clock = now;
    })

    begun : (t u v : Tally S) → ShowsTime began t u → WaitsOnce {E = NetworkFault} limit (Ok now) u v → Begun t v
    begun t u v q r = (
      q.0,
      subst (λ (x : Tally S). x.clock ≤ now) q.1 r.0,
      (
        r.1.0,
        r.1.1,
        r.1.2 ∙ ap (λ (x : Tally S). record x {
          waits = x.waits + 1;
          wakes = record { limit = limit; at = now; ready = r.1.0; owners = x.owners; is_listening = x.is_listening } ∷ x.wakes;
          unheard = r.1.0;
          missed = x.missed + length x.unheard;
          clock = now;
        }) q.1,
      ),
    )

    known : (t u v : Tally S) → Begun t u → After u v → Known t v
    known t u v q r = let (clock, order, more) = q in let (ready, most, is) = more in
        let (keys, next) = r (subst (λ (x : Tally S). length x.unheard ≤ MOST_READY) (sym is) most) in
        let all : ready ≡ p.keys = sym (keys ∙ ap (λ (x : Tally S). x.unheard) is) in
        (clock, order, next ∙ (ap (λ (x : Tally S). record x { unheard = [] }) is ∙ ap (λ (l : List ℕ). record t { waits = t.waits + 1; wakes = record { limit = limit; at = now; ready = l; owners = t.owners; is_listening = t.is_listening } ∷ t.wakes; unheard = []; missed = t.missed + length t.unheard; clock = now }) all))

    all : Tallies Known a d
    all = tallies_then Begun After Known a c d (tallies_then (ShowsTime began) (WaitsOnce {E = NetworkFault} limit (Ok now)) Begun a b c shows waits begun) p.all known

    named : (a d : Option (Tally S)) → Tallies Known a d → Tallies (λ t u. (t.clock ≤ began) × (began ≤ now) × (owners_of a ≡ t.owners) × (listening_in a ≡ t.is_listening) × (u ≡ record t {
      waits = t.waits + 1;
      wakes = record { limit = limit; at = now; ready = p.keys; owners = owners_of a; is_listening = listening_in a } ∷ t.wakes;
      unheard = [];
      missed = t.missed + length t.unheard;
      clock = now;
    })) a d
    named None d q = tt
    named (Some t) None q = absurd q
    named (Some t) (Some u) q = let (clock, order, is) = q in (clock, order, refl, refl, is)

  -- More events, and what the service did in them.
  pub serves_more : (most : ℕ) (a b c : Server S T P) (fs : List (ServerEvent S T P)) (old middle new : O) (was reported is : Option (Tally S))
      → ServesFrom same is_by answers resumes from to most a b old middle was reported → IsServerRun same from to most b fs c
      → Serves is_by answers resumes middle (queue_events fs) new → Tallies (Agrees b fs c) reported is → ServesFrom same is_by answers resumes from to most a c old new was is
  serves_more most a b c fs old middle new was reported is p run served net = (
    ran_then same from to most a b c fs was reported is p.0 run net,
    subst (λ h. Serves is_by answers resumes old h new) (sym (filter_map-append queue_event fs p.0.events))
        (serves_then is_by answers resumes old middle new (queue_events p.0.events) (queue_events fs) p.1 served),
  )

  -- The network failed, and nothing was heard.
  pub serves_unheard : (most : ℕ) (a : Server S T P) (b c : Connections S T P) (old new : O) (was reported is : Option (Tally S)) → c ≡ b
      → ServesFrom same is_by answers resumes from to most a (server_at b Accepting) old new was reported → Tallies BreaksDown reported is
      → ServesFrom same is_by answers resumes from to most a (server_at c Accepting) old new was is
  serves_unheard most a b c old new was reported is unchanged p breaks = subst (λ connections. ServesFrom same is_by answers resumes from to most a (server_at connections Accepting) old new was is) (sym unchanged)
      (serves_more most a (server_at b Accepting) (server_at b Accepting) [] old new new was reported is p refl refl (broken_agrees (server_at b Accepting) reported is breaks))

  -- The service did nothing meanwhile.
  pub serves_quietly : (most : ℕ) (a b c : Server S T P) (old new : O) (was reported is : Option (Tally S)) → ServesFrom same is_by answers resumes from to most a b old new was reported
      → RunsQuietly same from to most b c reported is → ServesFrom same is_by answers resumes from to most a c old new was is
  serves_quietly most a b c old new was reported is p q = serves_more most a b c q.0.events old new new was reported is p q.0.run
      (subst (λ h. Serves is_by answers resumes new h new) (sym q.1) refl) q.0.net

  -- Connections were accepted, and the end has begun if no owner is left.
  pub serves_accepted : (most : ℕ) (first : Server S T P) (old middle new : Connections S T P) (before service : O) (was a b c : Option (Tally S))
      → ServesFrom same is_by answers resumes from to most first (server_at old Accepting) before service was a → old.most_open ≡ most
      → RunsQuietly same from to old.most_open (server_at old Accepting) (server_at middle Accepting) a b → Tallies OnlyListening b c
      → WindsDown middle.owners_left middle.slots new.slots → new.event_count ≡ middle.event_count → new.owners_left ≡ middle.owners_left
      → ServesFrom same is_by answers resumes from to most first (server_at new Accepting) before service was c
  serves_accepted most first old middle new before service was a b c served is ran stops winds events owners =
      serves_quietly most first (server_at old Accepting) (server_at new Accepting) before service was a c served
      (accepted_then same from to most old middle new a b c is ran stops winds events owners)

  -- One wait, with all that advanced after it.
  pub serves_waited : (most now : ℕ) (a : Server S T P) (b c : Connections S T P) (old new : O) (was reported is : Option (Tally S))
      → ServesFrom same is_by answers resumes from to most a (server_at b Accepting) old new was reported → b.most_open ≡ most → c.owners_left ≡ b.owners_left
      → HasWaited same is_by answers resumes from to now b c reported is → ServesFrom same is_by answers resumes from to most a (server_at c Serving) old new was is
  serves_waited most now a b c old new was reported is p most_is owners w = serves_more most a (server_at b Accepting) (server_at c Serving) w.events old new new was reported is p
      (subst (λ m. IsServerRun same from to m (server_at b Accepting) w.events (server_at c Serving)) most_is w.run) (w.served new)
      (tallies_weaker _ (Agrees (server_at b Accepting) w.events (server_at c Serving)) reported is w.known (λ t u r. let (clock, order, owners_so, listens, next) = r in record {
        owners = omega (arith, owners, ap (λ x. x.owners) next);
        accepted = ap (λ x. x.arrivals) next ∙ ap (λ l. l ++ t.arrivals) (sym w.alone.0);
        short = ap (λ x. x.shortages) next ∙ ap (λ l. l ++ t.shortages) (sym w.alone.2);
        waited = ap (λ x. x.wakes) next ∙ ap (λ l. l ++ t.wakes) (sym w.alone.1);
        none_missed = λ none. (ap (λ x. x.unheard) next, ap (λ x. x.missed) next ∙ omega (arith, ap length none));
      }))

  -- One turn, if a connection was queued.
  pub serves_turn : (most : ℕ) (a : Server S T P) (b c : Connections S T P) (old middle new : O) (was reported is : Option (Tally S))
      → ServesFrom same is_by answers resumes from to most a (server_at b Serving) old middle was reported → b.most_open ≡ most → c.owners_left ≡ b.owners_left
      → TakesNext same is_by answers resumes from to b c middle new → Tallies OnlyClock reported is
      → ServesFrom same is_by answers resumes from to most a (server_at c Accepting) old new was is
  serves_turn most a b c old middle new was reported is p most_is owners next clock = let (turn, step, served) = next in
      serves_more most a (server_at b Serving) (server_at c Accepting) (Takes turn ∷ []) old middle new was reported is p
      (server_at b Serving, refl, subst (λ m. IsStep same from to m (Takes turn) (server_at b Serving) (server_at c Accepting)) most_is step) served
      (tallies_weaker OnlyClock (Agrees (server_at b Serving) (Takes turn ∷ []) (server_at c Accepting)) reported is clock (λ t u r.
      subst (Agrees (server_at b Serving) (Takes turn ∷ []) (server_at c Accepting) t) (sym r)
      (record { owners = ap (λ n. t.owners + n) owners; accepted = refl; short = refl; waited = refl; none_missed = λ none. (none, refl) })))

-- The network was asked for connections, once there was a wait, if owners were to come.
abbrev pub Asks : {S : Type 0} → ℕ → ℕ → Tally S → Tally S → Type 0
Asks count waits t u = (t.accepts ≤ u.accepts) × (0 < waits → 0 < count → t.accepts < u.accepts)

module _ {S : Type 0} where
  pub asks_first : {A E : Type 0} (r : Result A E) (state : AcceptState) (count waits before left : ℕ) (a b c : Option (Tally S)) → (waits ≡ 0 → (state ≡ Open) × (before ≡ count))
      → Tallies (Accepts r state before left) b c → Tallies (Asks count waits) a b → Tallies (Asks count (waits + 1)) a c
  asks_first r state count waits before left a b c starts accepts p = tallies_then (Asks count waits) (Accepts r state before left) (Asks count (waits + 1)) a b c p accepts (λ t u v q s.
      let (owners, same_waits, wakes, unheard, missed, clock, err, asked, more) = s in (
        omega (arith, q.0, more),
        λ _ some. elim (cases_lt 0 waits) [
          | inl later ↦ let lt = q.1 later some in omega (arith, lt, more)
          | inr first ↦ let (opened, all) = starts (omega (arith, first)) in
              let lt = asked (λ paused. let never = subst IsPaused opened paused in never) (omega (arith, some, all)) in omega (arith, q.0, lt)
        ],
      ))

  pub asks_kept : (count waits : ℕ) (Kept : Tally S → Tally S → Type 0) (a b c : Option (Tally S)) → ((t u : Tally S) → Kept t u → u.accepts ≡ t.accepts) → Tallies Kept b c → Tallies (Asks count waits) a b
      → Tallies (Asks count waits) a c
  asks_kept count waits Kept a b c kept calls p = tallies_then (Asks count waits) Kept (Asks count waits) a b c p calls (λ t u v q r. let e = kept u v r in
      (omega (arith, q.0, e), λ often some. let lt = q.1 often some in omega (arith, lt, e)))

  pub asked_once : (count waits : ℕ) (a b : Option (Tally S)) → 0 < waits → Tallies (Asks count waits) a b → Tallies (λ t u. 0 < count → t.accepts < u.accepts) a b
  asked_once count waits a b often p = tallies_weaker (Asks count waits) (λ t u. 0 < count → t.accepts < u.accepts) a b p (λ t u q. q.1 often)
