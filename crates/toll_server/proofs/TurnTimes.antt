-- When a reply's deadline begins, after a turn of the service.
use Rattle.std.proofs.Common.{◌≡◌, ℕ, inl, inr, Bool, Option, None, Some, refl, subst, sym}
use Rattle.toll_server.proofs.Common.{eqb_tells, Slab, get, IfStays, KeepsTime, connection_behind, stays_after, reply_in_state, state_behind, ticket_of, deadline_after, Connection, Reading, Queued, Working, Writing}
use Rattle.std.specs.Prelude.{◌≢◌, IfSome, option_map}
use Rattle.toll_server.specs.declared.connection_state.ConnectionState.{ConnectionState}
use Rattle.toll_server.specs.declared.step_result.StepResult.{StepResult}
use Rattle.toll_server.specs.declared.step_result.StepResult.TheVariants.{Waits, Joins, Answered, Failed}
use Rattle.toll_server.specs.declared.ticket.Ticket.{Ticket}

-- A queued connection has no reply.
pub no_reply : {T P : Type 0} (state : ConnectionState T P) (ticket : Ticket P) → ticket_of state ≡ Some ticket → reply_in_state state ≡ None
no_reply Reading ticket is = refl
no_reply (Queued t) ticket is = refl
no_reply (Working t task) ticket is = refl
no_reply (Writing reply) ticket is = absurd (cc)

module _ {T P : Type 0} where
  time_same_state : (state : ConnectionState T P) (deadline now : ℕ) → deadline ≡ deadline_after (reply_in_state state) (reply_in_state state) deadline now
  time_same_state Reading deadline now = refl
  time_same_state (Queued ticket) deadline now = refl
  time_same_state (Working ticket task) deadline now = refl
  time_same_state (Writing reply) deadline now = refl

  behind_state : (same : P → P → Bool) (party : P) (event_count : ℕ) (state : ConnectionState T P) (deadline now : ℕ) → deadline ≡ deadline_after (reply_in_state state) (reply_in_state (state_behind same party event_count state)) deadline now
  behind_state same party event_count Reading deadline now = refl
  behind_state same party event_count (Queued ticket) deadline now = refl
  behind_state same party event_count (Working ticket task) deadline now = refl
  behind_state same party event_count (Writing reply) deadline now = refl

module _ {S T P : Type 0} (now : ℕ) where
  same_time : (o : Option (Connection S T P)) → IfSome o (λ connection. IfSome o (KeepsTime now connection))
  same_time None = tt
  same_time (Some connection) = time_same_state connection.state connection.deadline now

  -- If nothing was done, each connection keeps its deadline.
  pub same_times : (connections : Slab (Connection S T P)) (k : ℕ) → IfStays k connections connections (KeepsTime now)
  same_times connections k = same_time (get connections k)

  behind_time : (same : P → P → Bool) (party : P) (event_count : ℕ) (o : Option (Connection S T P)) → IfSome o (λ connection. IfSome (option_map (connection_behind same party event_count) o) (KeepsTime now connection))
  behind_time same party event_count None = tt
  behind_time same party event_count (Some connection) = behind_state same party event_count connection.state connection.deadline now

  -- The connection that had a turn has its deadline by the rule, and those put behind keep theirs.
  pub times_kept : (same : P → P → Bool) (party : P) (event_count : ℕ) (old new : Slab (Connection S T P)) (key : ℕ) (connection later : Connection S T P) (step : StepResult)
      → get old key ≡ Some connection → get new key ≡ stays_after step later → ((other : ℕ) → other ≢ key → get new other ≡ option_map (connection_behind same party event_count) (get old other))
      → KeepsTime now connection later → (k : ℕ) → IfStays k old new (KeepsTime now)
  times_kept same party event_count old new key connection later step there changed others time k = elim (eqb_tells k key) [
    | inl (same_key, at) ↦ subst (λ (j : ℕ). IfStays j old new (KeepsTime now)) (sym at) at_key
    | inr (differ, isnt) ↦ subst (λ (o : Option (Connection S T P)). IfSome (get old k) (λ q. IfSome o (KeepsTime now q))) (sym (others k isnt)) (behind_time same party event_count (get old k))
  ] where
    each : (s : StepResult) → IfSome (stays_after s later) (KeepsTime now connection)
    each Waits = time
    each Joins = time
    each Answered = tt
    each Failed = tt

    at_key : IfStays key old new (KeepsTime now)
    at_key = subst (λ (o : Option (Connection S T P)). IfSome o (λ q. IfSome (get new key) (KeepsTime now q))) (sym there) (subst (λ (o : Option (Connection S T P)). IfSome o (KeepsTime now connection)) (sym changed) (each step))
