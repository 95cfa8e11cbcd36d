-- What the clauses of serving say of a network to which one owner connects.
use Rattle.std.proofs.Common.{append-nil, arith, ◌+◌, ◌-◌, ◌≡◌, ◌∙◌, ◌==◌, ◌++◌, ℕ, inl, inr, List, [], ◌∷◌, length, Bool, true, false, Option, None, Some, ap, refl, subst, sym}
use Rattle.std.specs.Cmp.{IsEquivalence}
use Rattle.std.specs.Prelude.{All, IfSome, ⊤, filter_map, option_and_then, option_map, if◌then◌else◌}
use Rattle.std.specs.Io.KnownBytes.{Consumes}
use Rattle.std.proofs.lemmas.Bool.Decides.{eqb_tells}
use Rattle.std.proofs.lemmas.List.Elements.{All-cons, All-contains, All-head, All-nil, All-push, All-tail, All-weaker}
use Rattle.toll_server.specs.Networks.{Arrival, ListensFor, Tallies, Tally, Wake}
use Rattle.toll_server.specs.Queues.{AreInTurn, QueueEvent, IsWhatWaits, Joining, Joins, Takes, Waiting, queued_behind, newly, queue_of, waits_on, tasks_of, turns_taken}
use Rattle.toll_server.specs.Rounds.{IsSentBySome, ListensTill}
use Rattle.toll_server.specs.ServerEvents.{Advances, Agrees, Comes, Ends, Expires, IsLost, IsServed, IsShort, ServerEvent, Takes as TakesTurn, Waits, arrival_in, joined_in, queue_events}
use Rattle.toll_protocol.specs.declared.streams.sink.Sink as sink
use Rattle.toll_protocol.specs.declared.streams.source.Source as source
use Rattle.toll_server.proofs.QueueLemmas.{serves_turns}
use Rattle.toll_server.proofs.RoundLemmas.{rounds}
use Rattle.toll_server.specs.Runs.{Input, Turn}
use Rattle.toll_server.specs.declared.listener.Listener.{Listener}
use Rattle.toll_server.specs.declared.listener.Listener.TheVariants.{Owners}
use Rattle.toll_server.specs.declared.poll.Poll.{Poll}
use Rattle.toll_server.specs.declared.poll.Poll.TheVariants.{Ready, Pending}
use Rattle.toll_server_tests.specs.Known.{IsSentByOwner, IsForOwner, ServesOwner, arrivals_of, new_tally}

module _ (owner : Option ℕ) (bytes : List ℕ) where
  -- If a connection with this key is queued, its request is the owner's.
  abbrev WaitsAt : {P : Type 0} → ℕ → Option (Waiting P) → Type 0
  WaitsAt whose o = IfSome o (λ w. IsSentByOwner owner bytes whose w.listener w.request)

  waits_stays : {T P : Type 0} (whose event_count : ℕ) (poll : Poll T) (o : Option (Waiting P)) → WaitsAt whose o → WaitsAt whose (option_and_then (waits_on poll event_count) o)
  waits_stays whose event_count poll None p = tt
  waits_stays whose event_count (Ready text) (Some w) p = tt
  waits_stays whose event_count (Pending task) (Some w) p = p

  waits_behind : {P : Type 0} (same : P → P → Bool) (whose event_count : ℕ) (served o : Option (Waiting P)) → WaitsAt whose o → WaitsAt whose (option_map (queued_behind same served event_count) o)
  waits_behind same whose event_count served None p = tt
  waits_behind same whose event_count None (Some w) p = p
  waits_behind same whose event_count (Some s) (Some w) p = each (same s.party w.party) where
    each : (b : Bool) → WaitsAt whose (Some (if b then record { party = w.party; listener = w.listener; request = w.request; queued = w.queued; since = event_count } else w))
    each true = p
    each false = p

  input_is : {T P : Type 0} (whose : ℕ) (o : Option (Waiting P)) (left : Option T) (input : Input T) → WaitsAt whose o → IsWhatWaits o left input → IsForOwner owner bytes whose input
  input_is whose None left input p is = absurd is
  input_is whose (Some w) None input p is = subst (IsForOwner owner bytes whose) (sym is) p
  input_is whose (Some w) (Some task) input p is = subst (IsForOwner owner bytes whose) (sym is) p.0

  abbrev IsJoinedSo : {P : Type 0} → Joining P → Type 0
  IsJoinedSo j = IsSentByOwner owner bytes j.whose j.listener j.request

  module _ {S : Type 0} (unread : S → Option (List ℕ)) (stream : S) (its : unread stream ≡ Some bytes) where
    -- This arrival is the owner.
    abbrev IsOwnersArrival : Arrival S → Type 0
    IsOwnersArrival a = (owner ≡ Some a.key) × (a.listener ≡ Owners) × (unread a.stream ≡ Some bytes)

    all_are : (key : Option ℕ) → owner ≡ key → All IsOwnersArrival (arrivals_of stream key)
    all_are None is = All-nil IsOwnersArrival
    all_are (Some key) is = All-cons IsOwnersArrival (record { key = key; listener = Owners; stream = stream }) [] (is, refl, its) (All-nil IsOwnersArrival)

    joins : {P : Type 0} (j : Joining P) → IsSentBySome unread (arrivals_of stream owner) j → IsJoinedSo j
    joins j p =
        let (key, door, known) = All-contains IsOwnersArrival (arrivals_of stream owner) p.came (all_are owner refl) p.among in
        (key ∙ ap Some p.key, sym p.listener ∙ door, begins p.rest (subst (λ o. Consumes o p.rest j.request) known p.begins)) where
          begins : (rest : Option (List ℕ)) → Consumes (Some bytes) rest j.request → (more : List ℕ) × (bytes ≡ j.request ++ more)
          begins None is = absurd is
          begins (Some more) is = (more, is)

  module _ {T P : Type 0} (same : P → P → Bool) where
    -- Each request that joined the queue is the owner's.
    abbrev Join : List (QueueEvent T P) → Type 0
    Join [] = ⊤
    Join (Joins whose listener request party ∷ before) = IsSentByOwner owner bytes whose listener request × Join before
    Join (Takes turn ∷ before) = Join before

    known_waits_at : (h : List (QueueEvent T P)) → Join h → (whose : ℕ) → WaitsAt whose (queue_of same h whose)
    known_waits_at [] p whose = tt
    known_waits_at (Joins joins listener request party ∷ before) p whose = elim (eqb_tells whose joins) [
      | inl (is, at) ↦ subst (λ b. WaitsAt whose (if b then Some (newly party listener request (length before)) else queue_of same before whose)) (sym is)
          (subst (λ k. IsSentByOwner owner bytes k listener request) (sym at) p.0)
      | inr (differ, isnt) ↦ subst (λ b. WaitsAt whose (if b then Some (newly party listener request (length before)) else queue_of same before whose)) (sym differ)
          (known_waits_at before p.1 whose)
    ]
    known_waits_at (Takes turn ∷ before) p whose = each (known_waits_at before p whose) (whose == turn.whose) where
      each : WaitsAt whose (queue_of same before whose) → (b : Bool) → WaitsAt whose (if b then option_and_then (waits_on turn.poll (length before)) (queue_of same before whose)
          else option_map (queued_behind same (queue_of same before turn.whose) (length before)) (queue_of same before whose))
      each q true = waits_stays whose (length before) turn.poll (queue_of same before whose) q
      each q false = waits_behind same whose (length before) (queue_of same before turn.whose) (queue_of same before whose) q

    abbrev IsTheirs : Turn T → Type 0
    IsTheirs turn = IsForOwner owner bytes turn.whose turn.input

    turns_are : (is_by : Listener → List ℕ → P → Type 0) (h : List (QueueEvent T P)) → AreInTurn same is_by h → Join h → All IsTheirs (turns_taken h)
    turns_are is_by [] turns p = All-nil IsTheirs
    turns_are is_by (Joins whose listener request party ∷ before) turns p = turns_are is_by before turns.2 p.1
    turns_are is_by (Takes turn ∷ before) turns p =
        All-push IsTheirs (turns_taken before) turn (turns_are is_by before turns.2 p)
        (input_is turn.whose (queue_of same before turn.whose) (tasks_of before turn.whose) turn.input (known_waits_at before p turn.whose) turns.1)

    module _ {S : Type 0} (unread : S → Option (List ℕ)) (stream : S) (its : unread stream ≡ Some bytes) where
      all_joined : (events : List (ServerEvent S T P)) → All (IsSentBySome unread (arrivals_of stream owner)) (filter_map joined_in events) → Join (queue_events events)
      all_joined [] p = tt
      all_joined (Comes came at ∷ before) p = all_joined before p
      all_joined (IsLost came ∷ before) p = all_joined before p
      all_joined (IsShort key ∷ before) p = all_joined before p
      all_joined (Ends ∷ before) p = all_joined before p
      all_joined (Waits wake ∷ before) p = all_joined before p
      all_joined (Advances whose None ∷ before) p = all_joined before p
      all_joined (Advances whose (Some j) ∷ before) p = (
        joins unread stream its j (All-head (IsSentBySome unread (arrivals_of stream owner)) j (filter_map joined_in before) p),
        all_joined before (All-tail (IsSentBySome unread (arrivals_of stream owner)) j (filter_map joined_in before) p),
      )
      all_joined (Expires at ∷ before) p = all_joined before p
      all_joined (TakesTurn None ∷ before) p = all_joined before p
      all_joined (TakesTurn (Some turn) ∷ before) p = all_joined before p

module _ {S T P O : Type 0} (same : P → P → Bool) (from : source.Ghosts S) (to : sink.Ghosts S) (is_by : Listener → List ℕ → P → Type 0)
    (answers : O → Listener → List ℕ → Poll T → O → Type 0) (resumes : O → T → Poll T → O → Type 0) (limit : Option ℕ) (count : ℕ) (IsOver : Type 0) (most : ℕ) (old new : O)
    (was : Option (Tally S)) (u : Tally S) (begins : was ≡ Some new_tally) (served : IsServed same from to most is_by answers resumes limit count IsOver old new was (Some u)) where
  agrees : Agrees served.first served.ran.events served.last new_tally u
  agrees = subst (λ o. Tallies (Agrees served.first served.ran.events served.last) o (Some u)) begins served.ran.net

  -- No connection that was ready was passed over.
  pub none_missed : u.missed ≡ 0
  none_missed = (agrees.none_missed refl).1

  pub serves_owner : IsEquivalence same → (owner : Option ℕ) (bytes : List ℕ) (stream : S) → from.unread stream ≡ Some bytes → u.arrivals ≡ arrivals_of stream owner
      → ServesOwner answers resumes owner bytes old new
  serves_owner laws owner bytes stream its is =
      let events = served.ran.events in
      let all = rounds same from to most laws is_by answers resumes count served.first served.last events old new served.fresh served.ran.run served.rests served.served in
      let arrivals : filter_map arrival_in events ≡ arrivals_of stream owner = sym (append-nil (filter_map arrival_in events)) ∙ (sym agrees.accepted ∙ is) in (
        turns_taken (queue_events events),
        serves_turns is_by answers resumes old new (queue_events events) served.served,
        turns_are owner bytes same is_by (queue_events events) all.in_turn
            (all_joined owner bytes same from.unread stream its events (subst (λ a. All (IsSentBySome from.unread a) (filter_map joined_in events)) arrivals all.requested)),
      )

-- At each wait of a new network, it listened while owners of this number were still to be accepted, and no longer.
pub listened : {S : Type 0} (count : ℕ) (t u : Tally S) → Some t ≡ Some new_tally → ListensTill count t u → All (λ wake. ListensFor (count - wake.owners) true wake.is_listening) u.wakes
listened {S = S} count t u is p = subst (All (Listens count)) (sym (q.waited ∙ append-nil q.wakes)) (subst (λ n. All (Listens n) q.wakes) none q.meanwhile) where
  Listens : ℕ → Wake → Type 0
  Listens n wake = ListensFor (n - wake.owners) true wake.is_listening

  none : 0 + count ≡ count
  none = omega arith

  q : ListensTill count new_tally u
  q = subst (λ (o : Option (Tally S)). Tallies (λ v w. ListensTill count v w) o (Some u)) is p
