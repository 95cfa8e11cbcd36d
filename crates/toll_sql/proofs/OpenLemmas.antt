-- A store that is asked whether it is open.
use Rattle.std.proofs.Common.{◌≡◌, ◌⊎◌, inl, inr, ℕ, false, List, [], Ok, Err, Result, IsTrue}
use Rattle.toll_sql.proofs.Common.{survives_weaker, Row, State, HasCleanDisk, IsNotRun, IsUnchanged, Survives, Error, KeepFault, Memory, Disk, Damaged, Closed, IsFinding, is_disk_fault}
use Rattle.toll_sql.proofs.CauseLemmas.{cause_not_run}
use Rattle.toll_sql.proofs.QueryLemmas.{missed}

-- This fault reports the error.
abbrev pub IsKeepFaultOf : Error → KeepFault → Type 0
IsKeepFaultOf e fault = ((fault ≡ Memory) × (is_disk_fault e ≡ false)) ⊎ ((fault ≡ Disk) × IsTrue (is_disk_fault e))

abbrev found_ok : Result (Unit {0}) KeepFault
found_ok = Ok tt

abbrev found_fault : KeepFault → Result (Unit {0}) KeepFault
found_fault fault = Err fault

disk_of_keep_fault : (e : Error) (fault : KeepFault) → IsKeepFaultOf e fault → fault ≡ Disk → IsTrue (is_disk_fault e)
disk_of_keep_fault e fault (inl memory) is = absurd (let m = memory.0 in cc)
disk_of_keep_fault e fault (inr disk) is = disk.1

never_reported : (e : Error) (fault : KeepFault) → IsKeepFaultOf e fault → (fault ≡ Closed) ⊎ (fault ≡ Damaged) → ⊥
never_reported e fault (inl memory) (inl is) = let m = memory.0 in cc
never_reported e fault (inl memory) (inr is) = let m = memory.0 in cc
never_reported e fault (inr disk) (inl is) = let d = disk.0 in cc
never_reported e fault (inr disk) (inr is) = let d = disk.0 in cc

module _ (old new : State) (mode : old.in_transaction ≡ false → new.in_transaction ≡ false) (survives : Survives old new (λ _. ⊥)) where
  pub found_open : (HasCleanDisk new → IsUnchanged old new) → IsFinding old new found_ok
  found_open same = record {
    looks = record {
      asks = record {
        live = λ clean _. (same clean).0.was_open;
        shown = λ clean. (same clean).0.is_open;
        same = λ clean _ _ _. ((same clean).0.now_is, (same clean).0.committed_is);
        mode = mode;
        survives = survives_weaker old new (λ _. ⊥) _ (λ _ db h. absurd h) survives;
      };
      cause = λ _ is. (cc);
      unclosed = λ is. (cc);
      damaged = λ _ is. (cc);
    };
    undamaged = λ is. (cc);
    survives = survives;
  }

  pub not_found : (sql : List ℕ) (e : Error) (fault : KeepFault) → IsKeepFaultOf e fault → (HasCleanDisk new → (params : Row) → IsNotRun old new sql params e) → IsFinding old new (found_fault fault)
  not_found sql e fault reported not = record {
    looks = record {
      asks = record {
        live = λ clean live. (missed old new sql [] e (not clean [])).was_open live;
        shown = λ _. tt;
        same = λ clean _ live idle. (missed old new sql [] e (not clean [])).same live idle;
        mode = mode;
        survives = survives_weaker old new (λ _. ⊥) _ (λ _ db h. absurd h) survives;
      };
      cause = λ clean is. cause_not_run old new sql [] e (not clean []) (disk_of_keep_fault e fault reported (let same : fault ≡ Disk = cc in same));
      unclosed = λ is. never_reported e fault reported (inl (let same : fault ≡ Closed = cc in same));
      damaged = λ _ is. absurd (never_reported e fault reported (inr (let same : fault ≡ Damaged = cc in same)));
    };
    undamaged = λ is. never_reported e fault reported (inr (let same : fault ≡ Damaged = cc in same));
    survives = survives;
  }
