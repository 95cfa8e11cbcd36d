-- What holds while connections are accepted.
use Rattle.std.proofs.Common.{◌≡◌, ◌∙◌, ◌+◌, ◌≤◌, ◌⊎◌, ℕ, inl, inr, List, [], ◌∷◌, ◌++◌, length, ap, refl, sym, subst, arith}
use Rattle.toll_server.proofs.Common.{Slab, Accepting, Agrees, EvictsReader, HasAccepted, IsStep, MayEvict, Server, ServerEvent, arrival_in, queue_event, server_at, shortage_in, wake_in, AddsConnection, AddsAll, AddsNext, MakesRoom, Accepts, Arrival, IsPausedAt, Lacks, NoneWaits, ShowsTime, Tallies, Tally, after_accept, owners_at, Connection, Open, Backlogged, Connections, Listener}
use Rattle.std.specs.List.{cons_option}
use Rattle.std.specs.Prelude.{Bool, None, Ok, OnOk, Option, Result, Some, option_map}
use Rattle.toll_protocol.specs.declared.streams.sink.Sink as sink
use Rattle.toll_protocol.specs.declared.streams.source.Source as source
use Rattle.toll_server.specs.Networks.{arrived, owners_accepted, short}
use Rattle.toll_server.specs.ServerEvents.{Comes, IsLost, IsShort}
use Rattle.toll_server.specs.declared.connections.TheConstants.{MOST_ACCEPTS}
use Rattle.toll_server.specs.declared.network.Accepted.{Accepted}
use Rattle.toll_server.specs.declared.network.Accepted.TheVariants.{Connected, Aborted, NoResources}
use Rattle.toll_server.specs.declared.network.NetworkFault.{NetworkFault}
use Rattle.toll_server.proofs.RoundLemmas.{RunsQuietly, quiet_then}
use Rattle.toll_server.proofs.TallyLemmas.{tallies_begin, tallies_both, tallies_more, tallies_weaker}

-- The accepted owners and those still to accept add up, and nothing else of the tally changed.
pub record Counts {S : Type 0} (before left count : ℕ) (t u : Tally S) : Type 0 where
  pub owners : u.owners + left ≡ t.owners + before
  pub accepts : u.accepts ≡ t.accepts + count
  pub waits : u.waits ≡ t.waits
  pub wakes : u.wakes ≡ t.wakes
  pub unheard : u.unheard ≡ t.unheard
  pub missed : u.missed ≡ t.missed
  pub clock : t.clock ≤ u.clock

pub counts_none : {S : Type 0} {before now : ℕ} (t u : Tally S) → ShowsTime now t u → Counts before before 0 t u
counts_none {S} {before} {now} t u p = record {
  owners = ap (λ x. x.owners + before) p.1;
  accepts = omega (arith, ap (λ x. x.accepts) p.1);
  waits = ap (λ x. x.waits) p.1;
  wakes = ap (λ x. x.wakes) p.1;
  unheard = ap (λ x. x.unheard) p.1;
  missed = ap (λ x. x.missed) p.1;
  clock = omega (arith, p.0, ap (λ x. x.clock) p.1);
}

pub counts_more : {S : Type 0} (before left count later : ℕ) (key : ℕ) (listener : Listener) (stream : S) (t u : Tally S) → Counts before left count t u → later + owners_at listener ≡ left
    → Counts before later (count + 1) t (after_accept {E = NetworkFault} key (Ok (Connected listener stream)) u)
counts_more before left count later key listener stream t u p is = record {
  owners = omega (arith, p.owners, is);
  accepts = omega (arith, p.accepts);
  waits = p.waits;
  wakes = p.wakes;
  unheard = p.unheard;
  missed = p.missed;
  clock = p.clock;
}

-- The tally follows from the connection that was accepted.
pub accept_reported : {S : Type 0} (key : ℕ) (given accepted : Accepted S) (b c : Option (Tally S)) → given ≡ accepted → c ≡ option_map (after_accept {E = NetworkFault} key (Ok given)) b
    → c ≡ option_map (after_accept {E = NetworkFault} key (Ok accepted)) b
accept_reported key given accepted b c is reported = subst (λ x. c ≡ option_map (after_accept {E = NetworkFault} key (Ok x)) b) is reported

module _ {S T P : Type 0} where
  -- This many connections were accepted, and all are stored.
  pub record HasCome (most now : ℕ) (old : Slab (Connection S T P)) (count : ℕ) (new : Slab (Connection S T P)) (t u : Tally S) : Type 0 where
    pub clock : u.clock ≡ now
    pub came : List (Arrival S)
    pub arrivals : u.arrivals ≡ came ++ t.arrivals
    pub added : AddsAll most now came old new
    pub so_many : length came ≡ count

  pub come_none : {most now : ℕ} {slots : Slab (Connection S T P)} (t u : Tally S) → ShowsTime now t u → HasCome most now slots 0 slots t u
  come_none {most} {now} {slots} t u p = record { clock = ap (λ x. x.clock) p.1; came = []; arrivals = ap (λ x. x.arrivals) p.1; added = refl; so_many = refl }

  pub come_more : (most now : ℕ) (old : Slab (Connection S T P)) (count : ℕ) (middle new : Slab (Connection S T P)) (key : ℕ) (listener : Listener) (stream : S) (t u : Tally S)
      → HasCome most now old count middle t u → AddsConnection most now (record { key = key; listener = listener; stream = stream }) middle new
      → HasCome most now old (count + 1) new t (after_accept {E = NetworkFault} key (Ok (Connected listener stream)) u)
  come_more most now old count middle new key listener stream t u p adds = record {
    clock = p.clock;
    came = record { key = key; listener = listener; stream = stream } ∷ p.came;
    arrivals = ap (λ l. record { key = key; listener = listener; stream = stream } ∷ l) p.arrivals;
    added = (middle, p.added, adds);
    so_many = omega (arith, p.so_many);
  }

  pub ends_well : {A E : Type 0} (r : Result A E) (old new : Connections S T P) (now count : ℕ) (slots : Slab (Connection S T P)) (t u v : Tally S) → HasCome old.most_open now old.slots count slots t u
      → ¬ (IsPausedAt now old.accept_state) → v.arrivals ≡ u.arrivals → v.clock ≡ u.clock → new.slots ≡ slots
      → OnOk r (((new.accept_state ≡ Open) × ((new.owners_left ≡ 0) ⊎ (v.backlog ≡ NoneWaits))) ⊎ ((new.accept_state ≡ Backlogged) × (v.accepts ≡ t.accepts + MOST_ACCEPTS)))
      → HasAccepted r old new t v
  ends_well r old new now count slots t u v p not arrivals clock same ok = inr (
    p.came,
    slots,
    (λ paused. not (subst (λ k. IsPausedAt k old.accept_state) (clock ∙ p.clock) paused)),
    subst (λ k. AddsAll old.most_open k p.came old.slots slots) (sym (clock ∙ p.clock)) p.added,
    inl (arrivals ∙ p.arrivals, same, ok),
  )

  pub ends_in_want : {A E : Type 0} (r : Result A E) (old new : Connections S T P) (now count : ℕ) (slots full : Slab (Connection S T P)) (t u v : Tally S) → HasCome old.most_open now old.slots count slots t u
      → ¬ (IsPausedAt now old.accept_state) → v.clock ≡ u.clock → full.slots ≡ slots.slots → MakesRoom count now full new.slots new.accept_state
      → ((v.arrivals ≡ u.arrivals) × (v.backlog ≡ Lacks)) ⊎ ((lost : Arrival S) × (v.arrivals ≡ lost ∷ u.arrivals)) → HasAccepted r old new t v
  ends_in_want r old new now count slots full t u v p not clock same room why = inr (
    p.came,
    slots,
    (λ paused. not (subst (λ k. IsPausedAt k old.accept_state) (clock ∙ p.clock) paused)),
    subst (λ k. AddsAll old.most_open k p.came old.slots slots) (sym (clock ∙ p.clock)) p.added,
    inr (full, same, subst (λ k. MakesRoom k v.clock full new.slots new.accept_state) (sym p.so_many) (subst (λ k. MakesRoom count k full new.slots new.accept_state) (sym (clock ∙ p.clock)) room), cause why),
  ) where
    cause : ((v.arrivals ≡ u.arrivals) × (v.backlog ≡ Lacks)) ⊎ ((lost : Arrival S) × (v.arrivals ≡ lost ∷ u.arrivals))
        → ((v.arrivals ≡ p.came ++ t.arrivals) × (v.backlog ≡ Lacks)) ⊎ ((lost : Arrival S) × (v.arrivals ≡ lost ∷ (p.came ++ t.arrivals)))
    cause (inl q) = inl (q.0 ∙ p.arrivals, q.1)
    cause (inr q) = let (lost, is) = q in inr (lost, is ∙ ap (λ l. lost ∷ l) p.arrivals)

  -- There was no memory for an accepted connection.
  pub lost_newcomer : (old new : Connections S T P) (now count key : ℕ) (listener : Listener) (stream : S) (slots full : Slab (Connection S T P)) (a b c : Option (Tally S))
      → c ≡ option_map (after_accept {E = NetworkFault} key (Ok (Connected listener stream))) b → ¬ (IsPausedAt now old.accept_state) → full.slots ≡ slots.slots
      → MakesRoom count now full new.slots new.accept_state → Tallies (HasCome old.most_open now old.slots count slots) a b → Tallies (HasAccepted {A = Unit {0}} {E = NetworkFault} (Ok tt) old new) a c
  lost_newcomer old new now count key listener stream slots full a b c is not same room p = tallies_more (HasCome old.most_open now old.slots count slots) (HasAccepted {A = Unit {0}} {E = NetworkFault} (Ok tt) old new)
      (after_accept {E = NetworkFault} key (Ok (Connected listener stream))) a b c is (λ t u q. ends_in_want {A = Unit {0}} {E = NetworkFault} (Ok tt) old new now count slots full t u
      (after_accept {E = NetworkFault} key (Ok (Connected listener stream)) u) q not refl same room (inr (record { key = key; listener = listener; stream = stream }, refl))) p

  -- There were no resources for the next connection.
  pub wanted : (old new : Connections S T P) (now count key : ℕ) (slots : Slab (Connection S T P)) (a b c : Option (Tally S))
      → c ≡ option_map (after_accept {E = NetworkFault} key (Ok NoResources)) b → ¬ (IsPausedAt now old.accept_state)
      → MakesRoom count now slots new.slots new.accept_state → Tallies (HasCome old.most_open now old.slots count slots) a b → Tallies (HasAccepted {A = Unit {0}} {E = NetworkFault} (Ok tt) old new) a c
  wanted old new now count key slots a b c is not room p = tallies_more (HasCome old.most_open now old.slots count slots) (HasAccepted {A = Unit {0}} {E = NetworkFault} (Ok tt) old new)
      (after_accept {E = NetworkFault} key (Ok NoResources)) a b c is (λ t u q. ends_in_want {A = Unit {0}} {E = NetworkFault} (Ok tt) old new now count slots slots t u
      (after_accept {E = NetworkFault} key (Ok NoResources) u) q not refl refl room (inl (refl, refl))) p

  -- One more connection was accepted.
  pub more_come : (most now : ℕ) (old : Slab (Connection S T P)) (count key : ℕ) (listener : Listener) (stream : S) (middle new : Slab (Connection S T P)) (a b c : Option (Tally S))
      → c ≡ option_map (after_accept {E = NetworkFault} key (Ok (Connected listener stream))) b → key ≡ middle.vacant_key → AddsNext most now listener stream middle new
      → Tallies (HasCome most now old count middle) a b → Tallies (HasCome most now old (count + 1) new) a c
  more_come most now old count key listener stream middle new a b c is at adds p = tallies_more (HasCome most now old count middle) (HasCome most now old (count + 1) new)
      (after_accept {E = NetworkFault} key (Ok (Connected listener stream))) a b c is (λ t u q. come_more most now old count middle new key listener stream t u q
      (subst (λ k. AddsConnection most now (record { key = k; listener = listener; stream = stream }) middle new) (sym at) adds)) p

  -- MOST_ACCEPTS connections were asked for, the most between two waits.
  pub all_asked : (old new : Connections S T P) (before left now count came : ℕ) (slots : Slab (Connection S T P)) (a b : Option (Tally S)) → count ≡ MOST_ACCEPTS
      → ¬ (IsPausedAt now old.accept_state) → new.slots ≡ slots → new.accept_state ≡ Backlogged
      → Tallies (Counts before left count) a b → Tallies (HasCome old.most_open now old.slots came slots) a b → Tallies (HasAccepted {A = Unit {0}} {E = NetworkFault} (Ok tt) old new) a b
  all_asked old new before left now count came slots a b most not same state counts p =
      tallies_weaker (λ t u. Counts before left count t u × HasCome old.most_open now old.slots came slots t u) (HasAccepted {A = Unit {0}} {E = NetworkFault} (Ok tt) old new) a b
      (tallies_both (Counts before left count) (HasCome old.most_open now old.slots came slots) a b counts p)
      (λ t u q. ends_well {A = Unit {0}} {E = NetworkFault} (Ok tt) old new now came slots t u u q.1 not refl refl same (inr (state, q.0.accepts ∙ ap (λ n. t.accepts + n) most)))

  -- One connection was aborted before it was accepted.
  pub aborted : (most now : ℕ) (old : Slab (Connection S T P)) (came key : ℕ) (slots : Slab (Connection S T P)) (a b c : Option (Tally S))
      → c ≡ option_map (after_accept {E = NetworkFault} key (Ok Aborted)) b → Tallies (HasCome most now old came slots) a b → Tallies (HasCome most now old came slots) a c
  aborted most now old came key slots a b c is p = tallies_more (HasCome most now old came slots) (HasCome most now old came slots) (after_accept {E = NetworkFault} key (Ok Aborted)) a b c is
      (λ t u q. record { clock = q.clock; came = q.came; arrivals = q.arrivals; added = q.added; so_many = q.so_many }) p

pub aborted_counts : {S : Type 0} (before left count key : ℕ) (a b c : Option (Tally S)) → c ≡ option_map (after_accept {E = NetworkFault} key (Ok Aborted)) b
    → Tallies (Counts before left count) a b → Tallies (Counts before left (count + 1)) a c
aborted_counts before left count key a b c is p = tallies_more (Counts before left count) (Counts before left (count + 1)) (after_accept {E = NetworkFault} key (Ok Aborted)) a b c is (λ t u q. record {
  owners = omega (arith, q.owners);
  accepts = omega (arith, q.accepts);
  waits = q.waits;
  wakes = q.wakes;
  unheard = q.unheard;
  missed = q.missed;
  clock = q.clock;
}) p

pub more_counts : {S : Type 0} (before left count later key : ℕ) (listener : Listener) (stream : S) (a b c : Option (Tally S))
    → c ≡ option_map (after_accept {E = NetworkFault} key (Ok (Connected listener stream))) b → later + owners_at listener ≡ left
    → Tallies (Counts before left count) a b → Tallies (Counts before later (count + 1)) a c
more_counts before left count later key listener stream a b c is one p = tallies_more (Counts before left count) (Counts before later (count + 1))
    (after_accept {E = NetworkFault} key (Ok (Connected listener stream))) a b c is (λ t u q. counts_more before left count later key listener stream t u q one) p

-- The network was asked for a connection, and none was accepted.
pub no_arrival : {S T P : Type 0} (server : Server S T P) (key : ℕ) (r : Result (Accepted S) NetworkFault) (b c : Option (Tally S)) → owners_accepted r ≡ 0 → arrived key r ≡ []
    → short key r ≡ [] → c ≡ option_map (after_accept key r) b → Tallies (Agrees server [] server) b c
no_arrival server key r b c owners none enough is = tallies_more (λ t u. u ≡ t) (Agrees server [] server) (after_accept key r) b b c is (λ t u same. record {
  owners = omega (arith, owners, ap (λ x. x.owners) same);
  accepted = ap (λ l. l ++ u.arrivals) none ∙ ap (λ x. x.arrivals) same;
  short = ap (λ l. l ++ u.shortages) enough ∙ ap (λ x. x.shortages) same;
  waited = ap (λ x. x.wakes) same;
  none_missed = λ unheard. (ap (λ x. x.unheard) same ∙ unheard, ap (λ x. x.missed) same);
}) (tallies_begin (λ t u. u ≡ t) b b refl (λ t. refl))

module _ {S T P : Type 0} (same : P → P → Bool) (from : source.Ghosts S) (to : sink.Ghosts S) (most : ℕ) where
  -- One connection was accepted: it is stored, or there was no memory for it.
  came_then : (event : ServerEvent S T P) (a b c : Server S T P) (key : ℕ) (listener : Listener) (stream : S) (was reported is : Option (Tally S))
      → arrival_in event ≡ Some (record { key = key; listener = listener; stream = stream }) → shortage_in event ≡ None → wake_in event ≡ None → queue_event event ≡ None → IsStep same from to most event b c
      → c.owners_left + owners_at listener ≡ b.owners_left → is ≡ option_map (after_accept {E = NetworkFault} key (Ok (Connected listener stream))) reported
      → RunsQuietly same from to most a b was reported → RunsQuietly same from to most a c was is
  came_then event a b c key listener stream was reported is came enough wake queue step owners called p =
      quiet_then same from to most a b c (event ∷ []) was reported is p (b, refl, step) (ap (λ o. cons_option o []) queue)
      (tallies_more (λ t u. u ≡ t) (Agrees b (event ∷ []) c) (after_accept {E = NetworkFault} key (Ok (Connected listener stream))) reported reported is called (λ t u same. record {
        owners = omega (arith, owners, ap (λ x. x.owners) same);
        accepted = ap (λ l. record { key = key; listener = listener; stream = stream } ∷ l) (ap (λ x. x.arrivals) same) ∙ ap (λ o. cons_option o [] ++ t.arrivals) (sym came);
        short = ap (λ x. x.shortages) same ∙ ap (λ o. cons_option o [] ++ t.shortages) (sym enough);
        waited = ap (λ x. x.wakes) same ∙ ap (λ o. cons_option o [] ++ t.wakes) (sym wake);
        none_missed = λ unheard. (ap (λ x. x.unheard) same ∙ unheard, ap (λ x. x.missed) same);
      }) (tallies_begin (λ t u. u ≡ t) reported reported refl (λ t. refl)))

  pub comes_then : (now : ℕ) (a : Server S T P) (old new : Connections S T P) (key : ℕ) (listener : Listener) (stream : S) (was reported is : Option (Tally S))
      → AddsConnection most now (record { key = key; listener = listener; stream = stream }) old.slots new.slots → new.event_count ≡ old.event_count
      → new.owners_left + owners_at listener ≡ old.owners_left → is ≡ option_map (after_accept {E = NetworkFault} key (Ok (Connected listener stream))) reported
      → RunsQuietly same from to most a (server_at old Accepting) was reported → RunsQuietly same from to most a (server_at new Accepting) was is
  comes_then now a old new key listener stream was reported is adds count owners =
      came_then (Comes (record { key = key; listener = listener; stream = stream }) now) a (server_at old Accepting) (server_at new Accepting) key listener stream was reported is refl refl refl refl
      (record { stage = (refl, refl); owners = owners; event_count = omega (arith, count); slots = adds }) owners

  -- Memory or resources lacked: one that is reading was closed, or nothing changed.
  may_evict : (count now : ℕ) (old new : Connections S T P) → MakesRoom count now old.slots new.slots new.accept_state → MayEvict old.slots new.slots
  may_evict count now old new (inl some) = inl some.1
  may_evict count now old new (inr (inl none)) = inl none.2
  may_evict count now old new (inr (inr one)) = inr one.1

  pub lost_then : (count now : ℕ) (a : Server S T P) (old full new : Connections S T P) (key : ℕ) (listener : Listener) (stream : S) (was reported is : Option (Tally S))
      → full.slots.slots ≡ old.slots.slots → full.event_count ≡ old.event_count → full.owners_left + owners_at listener ≡ old.owners_left
      → MakesRoom count now full.slots new.slots new.accept_state → new.event_count ≡ full.event_count → new.owners_left ≡ full.owners_left
      → is ≡ option_map (after_accept {E = NetworkFault} key (Ok (Connected listener stream))) reported
      → RunsQuietly same from to most a (server_at old Accepting) was reported → RunsQuietly same from to most a (server_at new Accepting) was is
  lost_then count now a old full new key listener stream was reported is kept events owners room events_so owners_so =
      came_then (IsLost (record { key = key; listener = listener; stream = stream })) a (server_at old Accepting) (server_at new Accepting) key listener stream was reported is refl refl refl refl
      (record { stage = (refl, refl); owners = omega (arith, owners, owners_so); event_count = omega (arith, events, events_so); slots = (full.slots, kept, may_evict count now full new room) })
      (omega (arith, owners, owners_so))

  pub short_then : (count now : ℕ) (a : Server S T P) (old new : Connections S T P) (key : ℕ) (was reported is : Option (Tally S)) → MakesRoom count now old.slots new.slots new.accept_state
      → new.event_count ≡ old.event_count → new.owners_left ≡ old.owners_left → is ≡ option_map (after_accept {E = NetworkFault} key (Ok NoResources)) reported
      → RunsQuietly same from to most a (server_at old Accepting) was reported → RunsQuietly same from to most a (server_at new Accepting) was is
  short_then count now a old new key was reported is room events owners called p =
      quiet_then same from to most a (server_at old Accepting) (server_at new Accepting) (IsShort key ∷ []) was reported is p
      (server_at old Accepting, refl, record { stage = (refl, refl); owners = omega (arith, owners); event_count = omega (arith, events); slots = may_evict count now old new room }) refl
      (tallies_more (λ t u. u ≡ t) (Agrees (server_at old Accepting) (IsShort key ∷ []) (server_at new Accepting)) (after_accept {E = NetworkFault} key (Ok NoResources)) reported reported is called (λ t u same. record {
        owners = omega (arith, owners, ap (λ x. x.owners) same);
        accepted = ap (λ x. x.arrivals) same;
        short = ap (λ x. key ∷ x.shortages) same;
        waited = ap (λ x. x.wakes) same;
        none_missed = λ unheard. (ap (λ x. x.unheard) same ∙ unheard, ap (λ x. x.missed) same);
      }) (tallies_begin (λ t u. u ≡ t) reported reported refl (λ t. refl)))
