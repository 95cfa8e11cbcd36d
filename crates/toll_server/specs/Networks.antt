-- The tally of a network: what it has done.
use Rattle.std.specs.Prelude.{◌≡◌, ◌≤◌, ◌<◌, ◌+◌, ◌-◌, ◌^◌, ◌||◌, ℕ, Bool, true, false, is_err, List, [], ◌∷◌, ◌++◌, length, Option, None, Some, Result, Ok, Err, OnErr, ⊤}
use Rattle.toll_server.specs.declared.listener.Listener.{Listener}
use Rattle.toll_server.specs.declared.listener.Listener.TheVariants.{Owners, Plant}
use Rattle.toll_server.specs.declared.network.Accepted.{Accepted}
use Rattle.toll_server.specs.declared.network.Accepted.TheVariants.{Connected, Aborted, NoneWaiting, NoResources}
use Rattle.toll_server.specs.declared.connections.AcceptState.{AcceptState}
use Rattle.toll_server.specs.declared.connections.AcceptState.TheVariants.{Open, Backlogged, Paused}
use Rattle.toll_server.specs.declared.network.TheConstants.{MOST_READY}
use Rattle.toll_server.specs.declared.event_loop.ServingEnd.{ServingEnd}
use Rattle.toll_server.specs.declared.event_loop.ServingEnd.TheVariants.{All, Fault, Spent}

-- a connection that was accepted: its key, the listener at which it came, and its stream
pub record Arrival (S : Type 0) : Type 0 where
  pub key : ℕ
  pub listener : Listener
  pub stream : S

-- a wait: its limit in milliseconds, the millisecond when it was over, and the keys of the connections that were ready then; how many
-- owners' connections the network had accepted by then, and whether it listened during the wait
pub record Wake : Type 0 where
  pub limit : Option ℕ
  pub at : ℕ
  pub ready : List ℕ
  pub owners : ℕ
  pub is_listening : Bool

-- what the latest call reported of the connections that wait at the listeners
pub data Backlog : Type 0 where
  MayWait : Backlog
  NoneWaits : Backlog
  Lacks : Backlog

-- what a network has done: the number of owners' connections that it accepted, of calls to accept and of waits, and whether a call failed;
-- all accepted connections, the keys with which it was asked for one and had no resources, and all waits, newest first; the ready connections of the latest wait that it hasn't handed out yet, and how
-- many it never handed out before a later wait; what it knows of connections that wait at the listeners; whether the listeners are open;
-- the latest millisecond that its clock showed
pub record Tally (S : Type 0) : Type 0 where
  pub owners : ℕ
  pub accepts : ℕ
  pub waits : ℕ
  pub failed : Bool
  pub arrivals : List (Arrival S)
  pub shortages : List ℕ
  pub wakes : List Wake
  pub unheard : List ℕ
  pub missed : ℕ
  pub backlog : Backlog
  pub is_listening : Bool
  pub clock : ℕ

module _ {S : Type 0} where
  -- One more wait. It was over no earlier than the clock showed before, and at most MOST_READY connections are ready.
  abbrev pub WaitsOnce : {E : Type 0} → Option ℕ → Result ℕ E → Tally S → Tally S → Type 0
  WaitsOnce limit (Ok now) t u = (t.clock ≤ now) × ((ready : List ℕ) × (length ready ≤ MOST_READY) × (u ≡ record t {
    waits = t.waits + 1;
    wakes = record { limit = limit; at = now; ready = ready; owners = t.owners; is_listening = t.is_listening } ∷ t.wakes;
    unheard = ready;
    missed = t.missed + length t.unheard;
    clock = now;
  }))
  WaitsOnce limit (Err e) t u = u ≡ record t { waits = t.waits + 1; failed = true }

  -- The next ready connection was handed out, or there is none left.
  abbrev pub HandsOut : Option ℕ → Tally S → Tally S → Type 0
  HandsOut None t u = (t.unheard ≡ []) × (u ≡ t)
  HandsOut (Some key) t u = (rest : List ℕ) × (t.unheard ≡ key ∷ rest) × (u ≡ record t { unheard = rest })

  -- The clock shows this time, which is no earlier than before.
  abbrev pub ShowsTime : ℕ → Tally S → Tally S → Type 0
  ShowsTime now t u = (t.clock ≤ now) × (u ≡ record t { clock = now })

-- The network failed: no connection was accepted, and there was no wait that it knows the end of.
abbrev pub BreaksDown : {S : Type 0} → Tally S → Tally S → Type 0
BreaksDown t u = u ≡ record t { waits = u.waits; failed = true; clock = u.clock }

abbrev pub owners_at : Listener → ℕ
owners_at Owners = 1
owners_at Plant = 0

-- how many owners' connections this call accepted
abbrev pub owners_accepted : {S E : Type 0} → Result (Accepted S) E → ℕ
owners_accepted (Ok (Connected listener stream)) = owners_at listener
owners_accepted (Ok Aborted) = 0
owners_accepted (Ok NoneWaiting) = 0
owners_accepted (Ok NoResources) = 0
owners_accepted (Err e) = 0

-- the connections that this call accepted, under this key
abbrev pub arrived : {S E : Type 0} → ℕ → Result (Accepted S) E → List (Arrival S)
arrived key (Ok (Connected listener stream)) = record { key = key; listener = listener; stream = stream } ∷ []
arrived key (Ok Aborted) = []
arrived key (Ok NoneWaiting) = []
arrived key (Ok NoResources) = []
arrived key (Err e) = []

-- the key, if there were no resources for the connection that was asked for with it
abbrev pub short : {S E : Type 0} → ℕ → Result (Accepted S) E → List ℕ
short key (Ok (Connected listener stream)) = []
short key (Ok Aborted) = []
short key (Ok NoneWaiting) = []
short key (Ok NoResources) = key ∷ []
short key (Err e) = []

abbrev pub backlog_after : {S E : Type 0} → Result (Accepted S) E → Backlog
backlog_after (Ok (Connected listener stream)) = MayWait
backlog_after (Ok Aborted) = MayWait
backlog_after (Ok NoneWaiting) = NoneWaits
backlog_after (Ok NoResources) = Lacks
backlog_after (Err e) = MayWait

-- the tally after one call to accept, with this key
abbrev pub after_accept : {S E : Type 0} → ℕ → Result (Accepted S) E → Tally S → Tally S
after_accept key r t = record t {
  owners = t.owners + owners_accepted r;
  accepts = t.accepts + 1;
  failed = t.failed || is_err r;
  arrivals = arrived key r ++ t.arrivals;
  shortages = short key r ++ t.shortages;
  backlog = backlog_after r;
}

-- the tally after its listeners were closed
abbrev pub after_close : {S : Type 0} → Tally S → Tally S
after_close t = record t { is_listening = false }

-- While owners are still to be accepted, the network listens as it did; once none is, it doesn't listen.
abbrev pub ListensFor : ℕ → Bool → Bool → Type 0
ListensFor left was is = (0 < left → is ≡ was) × (left ≡ 0 → is ≡ false)

-- Serving ended because all these owners were accepted, because the network failed, or because the number of waits can't be counted any
-- further.
abbrev pub EndsSo : {S : Type 0} → ServingEnd → ℕ → Tally S → Tally S → Type 0
EndsSo All count t u = u.owners ≡ t.owners + count
EndsSo Fault count t u = u.failed ≡ true
EndsSo Spent count t u = u.waits ≡ t.waits + (2 ^ 64 - 1)

-- If the network has a known tally, P holds of it before and after.
abbrev pub Tallies : {S : Type 0} → (Tally S → Tally S → Type 0) → Option (Tally S) → Option (Tally S) → Type 0
Tallies P None new = ⊤
Tallies P (Some t) None = ⊥
Tallies P (Some t) (Some u) = P t u

abbrev pub IsPaused : AcceptState → Type 0
IsPaused Open = ⊥
IsPaused Backlogged = ⊥
IsPaused (Paused deadline) = ⊤

abbrev pub IsPausedAt : ℕ → AcceptState → Type 0
IsPausedAt now Open = ⊥
IsPausedAt now Backlogged = ⊥
IsPausedAt now (Paused deadline) = now < deadline

-- The number of owners still to accept falls by those accepted. At least one was asked for if an owner was still to come and accepting
-- wasn't paused.
abbrev pub Accepts : {A E S : Type 0} → Result A E → AcceptState → ℕ → ℕ → Tally S → Tally S → Type 0
Accepts r accept_state owners_left left t u =
    (u.owners + left ≡ t.owners + owners_left) × (u.waits ≡ t.waits) × (u.wakes ≡ t.wakes) × (u.unheard ≡ t.unheard) × (u.missed ≡ t.missed) × (t.clock ≤ u.clock)
    × OnErr r (u.failed ≡ true)
    × (¬ (IsPaused accept_state) → 0 < owners_left → t.accepts < u.accepts) × (t.accepts ≤ u.accepts)
