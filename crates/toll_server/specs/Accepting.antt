-- What accepting the connections that wait at the listeners does.
use Rattle.std.specs.Prelude.{◌≡◌, ◌⊎◌, ◌+◌, ◌++◌, ◌∷◌, ℕ, List, length, OnOk, Option, Result}
use Rattle.slab.specs.Slab.{Slab}
use Rattle.toll_server.specs.Connections.{AddsAll, MakesRoom}
use Rattle.toll_server.specs.Networks.{Arrival, IsPausedAt, Lacks, NoneWaits, Tally}
use Rattle.toll_server.specs.declared.connection.Connection.{Connection}
use Rattle.toll_server.specs.declared.connections.AcceptState.TheVariants.{Open, Backlogged}
use Rattle.toll_server.specs.declared.connections.Connections.{Connections}
use Rattle.toll_server.specs.declared.connections.TheConstants.{MOST_ACCEPTS}

module _ {S T P : Type 0} where
  -- Accepting stopped because there were no resources for the next connection, or no memory for one that was accepted.
  abbrev pub EndsInWant : List (Arrival S) → Slab (Connection S T P) → Connections S T P → Tally S → Tally S → Type 0
  EndsInWant came middle new t u = (full : Slab (Connection S T P)) × (full.slots ≡ middle.slots) × MakesRoom (length came) u.clock full new.slots new.accept_state
      × (((u.arrivals ≡ came ++ t.arrivals) × (u.backlog ≡ Lacks)) ⊎ ((lost : Arrival S) × (u.arrivals ≡ lost ∷ (came ++ t.arrivals))))

module _ {A E S T P : Type 0} where
  -- All accepted connections are stored. Without an error, no further owner is to be accepted, or none waits, or MOST_ACCEPTS were asked
  -- for, the most between two waits.
  abbrev pub EndsWell : Result A E → List (Arrival S) → Slab (Connection S T P) → Connections S T P → Tally S → Tally S → Type 0
  EndsWell r came middle new t u = (u.arrivals ≡ came ++ t.arrivals) × (new.slots ≡ middle)
      × OnOk r (((new.accept_state ≡ Open) × ((new.owners_left ≡ 0) ⊎ (u.backlog ≡ NoneWaits))) ⊎ ((new.accept_state ≡ Backlogged) × (u.accepts ≡ t.accepts + MOST_ACCEPTS)))

  -- While accepting is still paused, nothing changes. Otherwise all accepted connections are stored, with deadlines from the clock's time,
  -- until none waits or resources are short.
  abbrev pub HasAccepted : Result A E → Connections S T P → Connections S T P → Tally S → Tally S → Type 0
  HasAccepted r old new t u =
      (IsPausedAt u.clock old.accept_state × (new ≡ old) × (u.arrivals ≡ t.arrivals))
      ⊎ ((came : List (Arrival S)) × (middle : Slab (Connection S T P)) × (¬ (IsPausedAt u.clock old.accept_state)) × AddsAll old.most_open u.clock came old.slots middle
      × (EndsWell r came middle new t u ⊎ EndsInWant came middle new t u))
