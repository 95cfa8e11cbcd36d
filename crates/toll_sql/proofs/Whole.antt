-- Calls within a transaction, and its end.
use Rattle.std.proofs.Common.{◌≡◌, inl, inr, false, Ok, Err, Result, [], IfErr, OnOk, OnErr, IsTrue, refl, sym, subst, ◌∙◌, arith}
use Rattle.toll_sql.proofs.Common.{survives_then, Database, State, HasCleanDisk, KeepsCommit, KeepsCounts, Shows, Survives, FailsToCommit, Trees, Error, IsErrorCaused, IsTransactionStep, IsWholeOrNothing, LeavesMade, begin}
use Rattle.toll_sql.proofs.ApplyLemmas.{not_committed}
use Rattle.toll_sql.proofs.CauseLemmas.{commit_fails, reason_before}

module _ (Before : State → Type 0) (Made : Database → Type 0) (old last end : State) (settled : HasCleanDisk old → IsTrue old.is_open → old.now ≡ old.committed) where
  abbrev pub Makes : State → State → Type 0
  Makes _ new = Made new.now

  abbrev CommitLeaves : Trees → Type 0
  CommitLeaves = LeavesMade (Before (begin old)) Made

  from_begin : (P : Trees → Type 0) → Survives (begin old) end P → Survives old end P
  from_begin P s = record { clean = s.clean; shield = s.shield; counts = s.counts; limit = s.limit; closes = s.closes; crash = s.crash }

  transaction_made : {X Y : Type 0} (x : X) (r : Result Y Error) → IsTransactionStep Before Makes (begin old) last (Ok x) → HasCleanDisk last → Before (begin old) → OnOk r (IsTrue last.in_transaction × Shows last end last.now last.now false × KeepsCounts last end × (end.marks ≡ []))
      → OnOk r (Made end.now)
  transaction_made x (Ok y) step clean before h = subst Made (sym h.1.now_is) (step.makes clean before refl)
  transaction_made x (Err e) step clean before h = tt

  settled_in : {Y : Type 0} (r : Result Y Error) → OnOk r (IsTrue last.in_transaction × Shows last end last.now last.now false × KeepsCounts last end × (end.marks ≡ [])) → OnOk r (IsTrue end.is_open × (end.now ≡ end.committed))
  settled_in (Ok y) h = (h.1.is_open, h.1.now_is ∙ sym h.1.committed_is)
  settled_in (Err e) h = tt

  kept_none : {Y : Type 0} (r : Result Y Error) → HasCleanDisk old → KeepsCommit (begin old) last → IsTrue last.in_transaction → IsTrue end.is_open → IfErr r (FailsToCommit last end) → OnErr r ((end.now ≡ old.now) × (end.committed ≡ old.committed))
  kept_none (Ok y) clean kept inside live h = tt
  kept_none (Err e) clean kept inside live h = not_committed old last end e (settled clean) kept inside live h

  transaction_caused : {Y : Type 0} (r : Result Y Error) → Survives (begin old) last (λ _. ⊥) → (t : Survives last end (λ db. db ≡ last.now.trees)) → HasCleanDisk end → IfErr r (FailsToCommit last end) → IfErr r (IsErrorCaused old end)
  transaction_caused (Ok y) s t clean h = tt
  transaction_caused (Err e) s t clean h = λ disk. reason_before (begin old) last end (λ _. ⊥) (λ db. db ≡ last.now.trees) s t clean (commit_fails last end e h disk)

  was_open : {Y : Type 0} (r : Result Y Error) → OnOk r (IsTrue last.in_transaction × Shows last end last.now last.now false × KeepsCounts last end × (end.marks ≡ [])) → IfErr r (FailsToCommit last end) → IsTrue end.is_open → IsTrue last.is_open
  was_open (Ok y) h k live = h.1.was_open
  was_open (Err e) h (inl k) live = k.3.was_open live
  was_open (Err e) h (inr k) live = k.2.0.was_open

  -- The calls succeeded, and the transaction was committed, or rolled back if the commit failed.
  pub committed : {X Y : Type 0} (x : X) (r : Result Y Error) → IsTransactionStep Before Makes (begin old) last (Ok x) → end.in_transaction ≡ false
      → (HasCleanDisk end → OnOk r (IsTrue last.in_transaction × Shows last end last.now last.now false × KeepsCounts last end × (end.marks ≡ []))) → (HasCleanDisk end → IfErr r (FailsToCommit last end))
      → Survives last end (λ db. db ≡ last.now.trees) → IsWholeOrNothing Before Made old end r
  committed x r step ended ok err t =
      let late = λ (clean : HasCleanDisk end). let before : HasCleanDisk last = omega (arith, clean, t.clean) in before in
      record {
        ended = ended;
        shown = λ clean. settled_in r (ok clean);
        all = λ clean before. transaction_made x r step (late clean) before (ok clean);
        none = λ clean live. let first : HasCleanDisk old = omega (arith, late clean, step.survives.clean) in kept_none r first (step.kept (late clean)) (step.inside (late clean) refl) live (err clean);
        fault = λ clean. transaction_caused r step.survives t clean (err clean);
        live = λ clean live. (step.kept (late clean)).was_open (was_open r (ok clean) (err clean) live);
        survives = from_begin CommitLeaves (survives_then (begin old) last end (λ _. ⊥) (λ db. db ≡ last.now.trees) CommitLeaves (λ _ _ h. absurd h)
            (λ clean db h before. (last.now, step.makes (late clean) before refl, h)) step.survives t);
      }
