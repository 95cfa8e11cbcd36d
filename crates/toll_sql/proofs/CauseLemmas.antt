-- The cause of an error that is reported as a fault of the disk.
use Rattle.std.proofs.Common.{◌≡◌, inl, inr, ℕ, List, true, false, Ok, Err, IsTrue, IfErr, Result, arith, refl, sym, ap, ◌∙◌}
use Rattle.toll_sql.proofs.Common.{cases_Bool, StoreError, OutOfMemory, Broken, Unstorable, Error, ExecuteReturnedResults, Row, Trees, Compiled, State, Fails, HasCause as StoreCause, store_error, IsNoStatement, IsNotRun, RunsCommand, RunsAlone, ExecutesIn, ExecutesInside, shows_rows, mode_of, text_of, Survives, HasCleanDisk, FailsToCommit, IsErrorCaused, is_disk_fault, Reason}
use Rattle.toll_sql.proofs.Refusals.{doing}

module _ (old new : State) where
  reason_of_store : (U : Type 0) (e : Error) (kind : StoreError) → e ≡ store_error kind → IsTrue (is_disk_fault e) → StoreCause old new U kind → Reason old new
  reason_of_store U e OutOfMemory is d h = absurd (let f : false ≡ true = sym (ap is_disk_fault is) ∙ d in cc)
  reason_of_store U e Broken is d h = inr h
  reason_of_store U e Unstorable is d h = absurd (let f : false ≡ true = sym (ap is_disk_fault is) ∙ d in cc)
  reason_of_store U e _ is d h = inl h

  cause_failed : (U : Type 0) (e : Error) → Fails old new U e → IsErrorCaused old new e
  cause_failed U e h d = reason_of_store U e h.0 h.1 d h.2

  other_cause : (e x : Error) → e ≡ x → is_disk_fault x ≡ false → IsErrorCaused old new e
  other_cause e x is out d = absurd (let f : false ≡ true = sym out ∙ sym (ap is_disk_fault is) ∙ d in cc)

  no_statement : (sql : List ℕ) (params : Row) (e : Error) → IsNoStatement old sql params e → IsErrorCaused old new e
  no_statement sql params e (inl h) = other_cause e _ h.2 refl
  no_statement sql params e (inr h) = elim h.2 [
    | inl long ↦ other_cause e _ long.1 refl
    | inr (inl many) ↦ other_cause e _ many.1 refl
    | inr (inr clock) ↦ other_cause e _ clock.1 refl
  ]

  pub cause_not_run : (sql : List ℕ) (params : Row) (e : Error) → IsNotRun old new sql params e → IsErrorCaused old new e
  unfolding IsNotRun
  cause_not_run sql params e (inl h) = no_statement sql params e h.0
  cause_not_run sql params e (inr h) = cause_failed ⊥ e h

  pub command_caused : (sql : List ℕ) (params : Row) (e : Error) (c : Compiled) → RunsCommand old new sql c params (Err e) → IsErrorCaused old new e
  command_caused sql params e c (inl h) = elim h.0 [
    | inl m ↦ elim m [ inl a ↦ other_cause e _ a.0 refl | inr b ↦ other_cause e _ b.0 refl ]
    | inr does ↦ (λ d. absurd (let f : false ≡ true = sym (doing old.step_limit (mode_of old) params old.now (text_of sql c) c.returning c.command e does.1) ∙ d in cc))
  ]
  command_caused sql params e c (inr h) = cause_failed _ e h

  alone : (sql : List ℕ) (params : Row) (e : Error) (c : Compiled) → RunsAlone false old new sql c params (Err e) → IsErrorCaused old new e
  alone sql params e c h = elim (cases_Bool (shows_rows false c)) [
    | inl shows ↦ (let it = rw shows at h in let f = it.0 in let is : e ≡ ExecuteReturnedResults = cc in other_cause e ExecuteReturnedResults is refl)
    | inr not ↦ command_caused sql params e c (rw not at h)
  ]

  pub exec_fails : (held : ℕ) (sql : List ℕ) (params : Row) (e : Error) → ExecutesInside held sql params old new (Err e) → IsErrorCaused old new e
  unfolding ExecutesIn
  exec_fails held sql params e (inl h) = elim h.0 [
    | inl not ↦ cause_not_run sql params e not
    | inr ran ↦ alone sql _ e ran.0 ran.2
  ]
  exec_fails held sql params e (inr h) = other_cause e _ h.1 refl

  pub commit_fails : (e : Error) → FailsToCommit old new e → IsErrorCaused old new e
  commit_fails e (inl h) = cause_failed ⊥ e h
  commit_fails e (inr h) = other_cause e _ h.0 refl

  pub exec_fault : (sql : List ℕ) (params : Row) (r : Result ℕ Error) → ExecutesInside 0 sql params old new r → IfErr r (IsErrorCaused old new)
  exec_fault sql params (Ok n) h = tt
  exec_fault sql params (Err e) h = exec_fails 0 sql params e h

-- A cause of a later call is also a cause since an earlier state.
pub reason_before : (a b c : State) (P Q : Trees → Type 0) → Survives a b P → Survives b c Q → HasCleanDisk c → Reason b c → Reason a c
reason_before a b c P Q s t clean (inl more) = inl (omega (arith, more, s.counts))
reason_before a b c P Q s t clean (inr shut) = elim (cases_Bool a.is_open) [
  | inl was ↦ (let dirty : HasCleanDisk b = omega (arith, clean, t.clean) in elim (s.closes dirty was) [
    | inl live ↦ absurd (let f : false ≡ true = sym shut ∙ live in cc)
    | inr more ↦ inl (omega (arith, more, t.counts))
  ])
  | inr not ↦ inr not
]
