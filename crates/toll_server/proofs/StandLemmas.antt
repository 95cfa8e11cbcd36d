-- Each connection stands under the key of its arrival.
use Rattle.std.proofs.Common.{◌≡◌, ◌≢◌, ◌∙◌, ◌++◌, ℕ, inl, inr, List, [], ◌∷◌, Option, None, Some, ap, refl, subst, sym}
use Rattle.toll_server.proofs.Common.{eqb_tells, SameValues, Slab, Updates, get, state_behind, ticket_of, AddsConnection, EvictsOldest, Hears, StaysOrGoes, NoneNew, connection_behind, queue_in, stays_after, unless_expired, ClosesExpired, Arrival, Joining, Waiting, newly, IsSentBySome, Advances, waiting_of, waiting_with, Connection, Reading, Queued, Working, Writing, Listener}
use Rattle.std.specs.Prelude.{Bool, true, false, if◌then◌else◌, IfSome, IsSome, option_and_then, option_map, slice_set}
use Rattle.std.specs.List.{Contains}
use Rattle.std.specs.Io.KnownBytes.{Consumes}
use Rattle.std.proofs.KnownBytes.{Consumes-trans}
use Rattle.std.proofs.lemmas.List.Elements.{Contains-append_left, Contains-append_right, Contains-push}
use Rattle.std.proofs.lemmas.Option.{same_Some}
use Rattle.toll_protocol.specs.declared.streams.sink.Sink as sink
use Rattle.toll_protocol.specs.declared.streams.source.Source as source
use Rattle.toll_server.specs.RequestBuffers.{bytes_received, listener_of}
use Rattle.toll_server.specs.declared.connection_state.ConnectionState.{ConnectionState}
use Rattle.toll_server.specs.declared.step_result.StepResult.{StepResult}
use Rattle.toll_server.specs.declared.step_result.StepResult.TheVariants.{Waits, Joins, Answered, Failed}

module _ {S T P : Type 0} where
  -- The connection is this arrival: it came at its listener, and its request began its stream. While it is reading, the rest of the stream
  -- is unread.
  pub record IsConnectionOf (unread : S → Option (List ℕ)) (came : Arrival S) (connection : Connection S T P) : Type 0 where
    pub listener : came.listener ≡ listener_of connection.request
    pub rest : Option (List ℕ)
    pub begins : Consumes (unread came.stream) rest (bytes_received connection.request)
    pub reads : connection.state ≡ Reading → unread connection.stream ≡ rest

  -- Each connection's key is the key of its arrival.
  abbrev pub StandsByKey : (S → Option (List ℕ)) → List (Arrival S) → Slab (Connection S T P) → Type 0
  StandsByKey unread arrivals connections =
      (key : ℕ) → IfSome (get connections key) (λ connection. (came : Arrival S) × Contains arrivals came × (came.key ≡ key) × IsConnectionOf unread came connection)

  -- Each connection was there before with the same request. One that is reading is unchanged.
  abbrev pub KeepsRequests : Slab (Connection S T P) → Slab (Connection S T P) → Type 0
  KeepsRequests old new = (key : ℕ) → IfSome (get new key) (λ later.
      (connection : Connection S T P) × (get old key ≡ Some connection) × (later.request ≡ connection.request) × (later.state ≡ Reading → later ≡ connection))

pub each_some : {A : Type 0} (o : Option A) (P : A → Type 0) → ((x : A) → o ≡ Some x → P x) → IfSome o P
each_some None P p = tt
each_some (Some x) P p = p x refl

pub the_some : {A : Type 0} (o : Option A) (P : A → Type 0) (x : A) → o ≡ Some x → IfSome o P → P x
the_some o P x is p = let q = subst (λ (s : Option _). IfSome s P) is p in q

fresh : (xs : Option (List ℕ)) → Consumes xs xs []
fresh None = tt
fresh (Some bytes) = refl

network_mapped : {A B : Type 0} (f : A → B) (o : Option A) (y : B) → option_map f o ≡ Some y → (x : A) × (o ≡ Some x) × (y ≡ f x)
network_mapped f None y is = absurd (cc)
network_mapped f (Some x) y is = (x, refl, sym (same_Some _ _ is))

module _ {S T P : Type 0} where
  pub same_new : (old new : Slab (Connection S T P)) → SameValues old new → NoneNew old new
  same_new old new same key = each_some (get new key) _ (λ connection is. sym (same key) ∙ is)

  pub removed_new : (old new : Slab (Connection S T P)) (key : ℕ) → Updates old new key None → NoneNew old new
  removed_new old new key out k = each_some (get new k) _ (λ connection is. elim (eqb_tells k key) [
    | inl (same, at) ↦ let none : None ≡ Some connection = sym out.changed ∙ (ap (get new) (sym at) ∙ is) in absurd (cc)
    | inr (differ, isnt) ↦ sym (out.others k isnt) ∙ is
  ])

  pub evicted_new : (old new : Slab (Connection S T P)) → EvictsOldest old new → NoneNew old new
  evicted_new old new (inl none) = same_new old new none.1
  evicted_new old new (inr one) = removed_new old new one.key one.out

  unless_new : (now : ℕ) (o : Option (Connection S T P)) (connection : Connection S T P) → unless_expired now o ≡ Some connection → o ≡ Some connection
  unless_new now None connection is = is
  unless_new now (Some c) connection is = each _ is where
    each : (b : Bool) → (if b then Some c else None) ≡ Some connection → Some c ≡ Some connection
    each true is = is
    each false is = absurd (cc)

  pub closed_new : (now : ℕ) (old new : Slab (Connection S T P)) → ClosesExpired now old new → NoneNew old new
  closed_new now old new closed key = each_some (get new key) _ (λ connection is. unless_new now (get old key) connection (sym (closed key) ∙ is))

  pub fewer_requests : (old new : Slab (Connection S T P)) → NoneNew old new → KeepsRequests old new
  fewer_requests old new none key = each_some (get new key) _ (λ later is. (later, the_some (get new key) _ later is (none key), refl, λ _. refl))

  reading_behind : (same : P → P → Bool) (party : P) (event_count : ℕ) (c : Connection S T P) → (connection_behind same party event_count c).state ≡ Reading → connection_behind same party event_count c ≡ c
  reading_behind same party event_count c is = ap (λ state. record c { state = state }) (each c.state is) where
    each : (state : ConnectionState T P) → state_behind same party event_count state ≡ Reading → state_behind same party event_count state ≡ state
    each Reading is = refl
    each (Queued ticket) is = absurd (cc)
    each (Working ticket task) is = absurd (cc)
    each (Writing reply) is = absurd (cc)

  pub stays_is : (step : StepResult) (later x : Connection S T P) → stays_after step later ≡ Some x → x ≡ later
  stays_is Waits later x is = sym (same_Some _ _ is)
  stays_is Joins later x is = sym (same_Some _ _ is)
  stays_is Answered later x is = absurd (cc)
  stays_is Failed later x is = absurd (cc)

  -- The connection that had a turn keeps its request, and so do all others.
  pub turn_requests : (same : P → P → Bool) (party : P) (event_count : ℕ) (old new : Slab (Connection S T P)) (key : ℕ) (connection later : Connection S T P) (step : StepResult)
      → get old key ≡ Some connection → get new key ≡ stays_after step later → ((other : ℕ) → other ≢ key → get new other ≡ option_map (connection_behind same party event_count) (get old other))
      → later.request ≡ connection.request → later.state ≢ Reading → KeepsRequests old new
  turn_requests same party event_count old new key connection later step there changed others request state k = each_some (get new k) _ (λ x is. elim (eqb_tells k key) [
    | inl (_, at) ↦ let e : x ≡ later = stays_is step later x (sym changed ∙ (ap (get new) (sym at) ∙ is)) in
        (connection, ap (get old) at ∙ there, ap (λ c. c.request) e ∙ request, λ reads. absurd (state (sym (ap (λ c. c.state) e) ∙ reads)))
    | inr (_, isnt) ↦ let (c, was, e) = network_mapped (connection_behind same party event_count) (get old k) x (sym (others k isnt) ∙ is) in
        (c, was, ap (λ c. c.request) e, λ reads. e ∙ reading_behind same party event_count c (sym (ap (λ c. c.state) e) ∙ reads))
  ])

module _ {S T P : Type 0} (unread : S → Option (List ℕ)) where
  pub stands_fewer : (arrivals : List (Arrival S)) (old new : Slab (Connection S T P)) → NoneNew old new → StandsByKey unread arrivals old → StandsByKey unread arrivals new
  stands_fewer arrivals old new none p key = each_some (get new key) _ (λ connection is. the_some (get old key) _ connection (the_some (get new key) _ connection is (none key)) (p key))

  kept_of : (came : Arrival S) (connection later : Connection S T P) → later.request ≡ connection.request → (later.state ≡ Reading → later ≡ connection) → IsConnectionOf unread came connection → IsConnectionOf unread came later
  kept_of came connection later request same p = record {
    listener = p.listener ∙ sym (ap listener_of request);
    rest = p.rest;
    begins = subst (λ r. Consumes (unread came.stream) p.rest (bytes_received r)) (sym request) p.begins;
    reads = λ is. ap (λ c. unread c.stream) (same is) ∙ p.reads (ap (λ c. c.state) (sym (same is)) ∙ is);
  }

  pub stands_kept : (arrivals : List (Arrival S)) (old new : Slab (Connection S T P)) → KeepsRequests old new → StandsByKey unread arrivals old → StandsByKey unread arrivals new
  stands_kept arrivals old new keeps p key = each_some (get new key) _ (λ later is.
      let (connection, was, request, same) = the_some (get new key) _ later is (keeps key) in
      let (came, among, at, its) = the_some (get old key) _ connection was (p key) in
      (came, among, at, kept_of came connection later request same its))

  pub stands_added : (most now : ℕ) (arrivals : List (Arrival S)) (came : Arrival S) (old new : Slab (Connection S T P)) → AddsConnection most now came old new → StandsByKey unread arrivals old
      → StandsByKey unread (came ∷ arrivals) new
  stands_added most now arrivals came old new adds p = elim adds.shed [
    | inl as_is ↦ subst (StandsByKey unread (came ∷ arrivals)) (sym as_is.1) with_it
    | inr evicts ↦ stands_fewer (came ∷ arrivals) adds.«with» new (evicted_new adds.«with» new evicts.1) with_it
  ] where
    its : IsConnectionOf unread came adds.connection
    its = let (stream, bytes, listener, state, deadline) = adds.newcomer in record {
      listener = sym listener;
      rest = unread came.stream;
      begins = subst (Consumes (unread came.stream) (unread came.stream)) (sym bytes) (fresh (unread came.stream));
      reads = λ _. ap unread stream;
    }

    with_it : StandsByKey unread (came ∷ arrivals) adds.«with»
    with_it key = each_some (get adds.«with» key) _ (λ connection is. elim (eqb_tells key came.key) [
      | inl (_, at) ↦ let e : adds.connection ≡ connection = same_Some _ _ (sym adds.added.changed ∙ (ap (get adds.«with») (sym at) ∙ is)) in
          (came, Contains-append_left (came ∷ []) arrivals came (Contains-push [] came), sym at, subst (IsConnectionOf unread came) e its)
      | inr (_, isnt) ↦ let (a, among, at, of) = the_some (get old key) _ connection (sym (adds.added.others key isnt) ∙ is) (p key) in
          (a, Contains-append_right (came ∷ []) arrivals a among, at, of)
    ])

  pub stands_lost : (arrivals : List (Arrival S)) (lost : Arrival S) (slots : Slab (Connection S T P)) → StandsByKey unread arrivals slots → StandsByKey unread (lost ∷ arrivals) slots
  stands_lost arrivals lost slots p key = each_some (get slots key) _ (λ connection is. let (came, among, at, its) = the_some (get slots key) _ connection is (p key) in
      (came, Contains-append_right (lost ∷ []) arrivals came among, at, its))

  queued_at : (connection : Connection S T P) (w : Waiting P) → waiting_of connection ≡ Some w → (listener_of connection.request ≡ w.listener) × (bytes_received connection.request ≡ w.request)
  queued_at connection w is = let (t, its, e) = network_mapped (waiting_with connection.request) (ticket_of connection.state) w is in (sym (ap (λ x. x.listener) e), sym (ap (λ x. x.request) e))

  pub asked_at : (arrivals : List (Arrival S)) (slots : Slab (Connection S T P)) (key : ℕ) (listener : Listener) (request : List ℕ) (party : P) (event_count : ℕ) → StandsByKey unread arrivals slots
      → queue_in slots key ≡ Some (newly party listener request event_count) → IsSentBySome unread arrivals (record { whose = key; listener = listener; request = request; party = party })
  asked_at arrivals slots key listener request party event_count p is = each (get slots key) refl is where
    each : (o : Option (Connection S T P)) → get slots key ≡ o → option_and_then waiting_of o ≡ Some (newly party listener request event_count)
        → IsSentBySome unread arrivals (record { whose = key; listener = listener; request = request; party = party })
    each None there is = absurd (cc)
    each (Some connection) there is = let (came, among, at, its) = the_some (get slots key) _ connection there (p key) in
        let (same_listener, same_request) = queued_at connection (newly party listener request event_count) is in record {
          came = came;
          among = among;
          key = at;
          listener = its.listener ∙ same_listener;
          rest = its.rest;
          begins = subst (Consumes (unread came.stream) its.rest) same_request its.begins;
        }

unread_yet : {T P : Type 0} (state : ConnectionState T P) → state ≡ Reading → ¬ (IsSome (ticket_of state))
unread_yet Reading is some = absurd (cc)
unread_yet (Queued ticket) is some = absurd (cc)
unread_yet (Working ticket task) is some = absurd (cc)
unread_yet (Writing reply) is some = absurd (cc)

module _ {S T P : Type 0} (from : source.Ghosts S) (to : sink.Ghosts S) where
  advanced_of : (came : Arrival S) (connection later : Connection S T P) (step : StepResult) → Advances from to connection later step → IsConnectionOf from.unread came connection → IsConnectionOf from.unread came later
  advanced_of came connection later step a p = each connection.state refl where
    stays : connection.state ≢ Reading → IsConnectionOf from.unread came later
    stays not = let (request, state) = a.request not in kept_of from.unread came connection later request (λ is. absurd (state is)) p

    each : (state : ConnectionState T P) → connection.state ≡ state → IsConnectionOf from.unread came later
    each Reading is = let r = a.hears is in
        let before : Consumes (from.unread came.stream) (from.unread connection.stream) (bytes_received connection.request) =
        subst (λ o. Consumes (from.unread came.stream) o (bytes_received connection.request)) (sym (p.reads is)) p.begins in record {
          listener = p.listener ∙ sym r.same_listener;
          rest = r.rest;
          begins = subst (Consumes (from.unread came.stream) r.rest) (sym r.behind) (Consumes-trans _ _ _ _ _ before r.consumed);
          reads = λ reading. (r.early (λ some. unread_yet later.state reading some)).0;
        }
    each (Queued ticket) is = stays (λ reading. let e = sym is ∙ reading in absurd (cc))
    each (Working ticket task) is = stays (λ reading. let e = sym is ∙ reading in absurd (cc))
    each (Writing reply) is = stays (λ reading. let e = sym is ∙ reading in absurd (cc))

  -- It stayed after the step if it is still there.
  stayed : (same : P → P → Bool) (most : ℕ) (others : List (Option (Connection S T P))) (later x : Connection S T P) (step : StepResult) (slot : Option (Connection S T P))
      → StaysOrGoes same most others later step slot → slot ≡ Some x → x ≡ later
  stayed same most others later x step slot (inl stays) is = stays_is step later x (sym stays.1 ∙ is)
  stayed same most others later x step slot (inr goes) is = let none : None ≡ Some x = sym goes.1 ∙ is in absurd (cc)

  pub stands_heard : (same : P → P → Bool) (most : ℕ) (arrivals : List (Arrival S)) (key : ℕ) (old new : Slab (Connection S T P)) → Hears same most from to key old new → StandsByKey from.unread arrivals old
      → StandsByKey from.unread arrivals new
  stands_heard same most arrivals key old new h p k = each_some (get new k) _ (λ x is. elim (eqb_tells k key) [
    | inl (_, at) ↦ at_key (get old key) refl x k at is
    | inr (_, isnt) ↦ the_some (get old k) _ x (sym (h.others k isnt) ∙ is) (p k)
  ]) where
    at_key : (o : Option (Connection S T P)) → get old key ≡ o → (x : Connection S T P) (k : ℕ) → k ≡ key → get new k ≡ Some x
        → (came : Arrival S) × Contains arrivals came × (came.key ≡ k) × IsConnectionOf from.unread came x
    at_key None was x k at is = let none : None ≡ Some x = sym (h.nobody was) ∙ (ap (get new) (sym at) ∙ is) in absurd (cc)
    at_key (Some connection) was x k at is = let (later, step, a, changed) = the_some (get old key) _ connection was h.went_on in
        let e : x ≡ later = stayed same most (slice_set old.slots key None) later x step (get new key) changed (ap (get new) (sym at) ∙ is) in
        let (came, among, its_key, its) = the_some (get old key) _ connection was (p key) in
        (came, among, its_key ∙ sym at, subst (IsConnectionOf from.unread came) (sym e) (advanced_of came connection later step a its))

  pub heard_at : (same : P → P → Bool) (most key : ℕ) (old new : Slab (Connection S T P)) (connection later : Connection S T P) (step : StepResult) (slot : Option (Connection S T P)) → get old key ≡ Some connection
      → Updates old new key slot → StaysOrGoes same most (slice_set old.slots key None) later step slot → Advances from to connection later step → Hears same most from to key old new
  heard_at same most key old new connection later step slot there back stays steps = record {
    went_on = each_some (get old key) _ (λ x is. let e : connection ≡ x = same_Some _ _ (sym there ∙ is) in
        subst (λ c. (later : Connection S T P) × (step : StepResult) × Advances from to c later step × StaysOrGoes same most (slice_set old.slots key None) later step (get new key)) e
        (later, step, steps, subst (StaysOrGoes same most (slice_set old.slots key None) later step) (sym back.changed) stays));
    nobody = λ none. let e : Some connection ≡ None = sym there ∙ none in absurd (cc);
    others = back.others;
  }
