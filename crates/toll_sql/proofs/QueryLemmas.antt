-- The effect of a query on a connection, for any text and schema.
use Rattle.std.proofs.Common.{◌≡◌, inl, inr, ℕ, true, false, List, Option, None, Some, Ok, Err, Result, IsTrue, IfOk, IfErr, OnOk, sym, ◌∙◌}
use Rattle.toll_sql.proofs.Common.{Error, Row, Returning, Compiled, State, Fails, IsNotRun, RunsCommand, FailsToQuery, FailsToShow, IsUnchanged, Shown, ShowsRows, IsErrorCaused}
use Rattle.toll_sql.proofs.CauseLemmas.{cause_not_run, command_caused}
use Rattle.toll_sql.proofs.Refusals.{reading}

module _ (old new : State) where
  abbrev pub IsOpen : Type 0
  IsOpen = IsTrue old.is_open × IsTrue new.is_open

  shows_open : (sql : List ℕ) (c : Compiled) (params : Row) (rows : List Row) (r : Option Returning) → ShowsRows old new sql c params rows r → IsOpen
  shows_open sql c params rows None h = (h.3.0.was_open, h.3.0.is_open)
  shows_open sql c params rows (Some what) h = (h.1.shown.was_open, h.1.shown.is_open)

  pub shown_open : (sql : List ℕ) (params : Row) (rows : List Row) → Shown sql params old new rows → IsOpen
  unfolding Shown
  shown_open sql params rows h = shows_open sql h.0 _ rows h.0.returning h.2

  -- A call that failed leaves what was there, if the connection is still open.
  pub record Stays : Type 0 where
    pub was_open : IsTrue new.is_open → IsTrue old.is_open
    pub same : IsTrue new.is_open → old.now ≡ old.committed → (new.now ≡ old.now) × (new.committed ≡ old.committed)

  query_unchanged : IsUnchanged old new → Stays
  query_unchanged h = record { was_open = λ _. h.0.was_open; same = λ _ _. (h.0.now_is, h.0.committed_is) }

  query_failed : (U : Type 0) (e : Error) → Fails old new U e → Stays
  query_failed U e h = record { was_open = h.3.was_open; same = λ live idle. ((h.3.undone live).0 ∙ sym idle, (h.3.undone live).1) }

  query_stopped : (sql : List ℕ) (c : Compiled) (params : Row) (e : Error) → RunsCommand old new sql c params (Err e) → Stays
  query_stopped sql c params e (inl h) = query_unchanged h.1
  query_stopped sql c params e (inr h) = query_failed _ e h

  query_unshown : (sql : List ℕ) (c : Compiled) (params : Row) (e : Error) (r : Option Returning) → FailsToShow old new sql c params e r → Stays × IsErrorCaused old new e
  query_unshown sql c params e None h = (query_unchanged h.3, λ d. absurd (let f : false ≡ true = sym (reading old.step_limit c.command h.0 params e h.2) ∙ d in cc))
  query_unshown sql c params e (Some what) h = (query_stopped sql c params e h, command_caused old new sql params e c h)

  pub missed : (sql : List ℕ) (params : Row) (e : Error) → IsNotRun old new sql params e → Stays
  unfolding IsNotRun
  missed sql params e (inl h) = query_unchanged h.1
  missed sql params e (inr h) = query_failed ⊥ e h

  pub query_fails : (sql : List ℕ) (params : Row) (e : Error) → FailsToQuery sql params old new e → Stays × IsErrorCaused old new e
  unfolding FailsToQuery
  query_fails sql params e (inl h) = (missed sql params e h, cause_not_run old new sql params e h)
  query_fails sql params e (inr h) = query_unshown sql h.0 _ e h.0.returning h.2

  module _ (X : Type 0) (items : X → List Row) (sql : List ℕ) (params : Row) where
    pub live_of : (r : Result X Error) → IfOk r (λ x. Shown sql params old new (items x)) → IfErr r (FailsToQuery sql params old new) → IsTrue new.is_open → IsTrue old.is_open
    live_of (Ok x) h k live = (shown_open sql params (items x) h).0
    live_of (Err e) h k live = (query_fails sql params e k).0.was_open live

    pub open_of : (r : Result X Error) → IfOk r (λ x. Shown sql params old new (items x)) → OnOk r (IsTrue new.is_open)
    open_of (Ok x) h = (shown_open sql params (items x) h).1
    open_of (Err e) h = tt

    pub same_of : (r : Result X Error) → ((rows : List Row) → Shown sql params old new rows → IsUnchanged old new) → IfOk r (λ x. Shown sql params old new (items x)) → IfErr r (FailsToQuery sql params old new)
        → IsTrue new.is_open → old.now ≡ old.committed → (new.now ≡ old.now) × (new.committed ≡ old.committed)
    same_of (Ok x) plain h k live idle = let u = plain (items x) h in (u.0.now_is, u.0.committed_is)
    same_of (Err e) plain h k live idle = (query_fails sql params e k).0.same live idle
