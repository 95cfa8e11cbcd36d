-- A store that is taken over by what one transaction makes.
use Rattle.std.proofs.Common.{◌≡◌, ◌⊎◌, inl, inr, false, Ok, Err, Result, IsTrue, refl, sym, subst}
use Rattle.toll_sql.proofs.Common.{survives_weaker, Database, State, Trees, Error, empty_content, is_disk_fault, IsMaking, IsNewDatabase, IsWholeOrNothing, LeavesMade, begin, Holds, Creates, TakesOver, without_limit, no_schema, OpenFault}
use Rattle.toll_sql.specs.declared.open_fault.OpenFault.TheVariants.{Memory, Disk, Damaged, NotOurs}

-- This fault reports the error of the store.
abbrev pub IsOpenFaultOf : Error → OpenFault → Type 0
IsOpenFaultOf e fault = ((fault ≡ Memory) × (is_disk_fault e ≡ false)) ⊎ ((fault ≡ Disk) × IsTrue (is_disk_fault e))

pub not_damaged : (e : Error) (fault : OpenFault) → IsOpenFaultOf e fault → ¬ (fault ≡ Damaged)
not_damaged e fault (inl memory) is = absurd (let m = memory.0 in cc)
not_damaged e fault (inr disk) is = absurd (let d = disk.0 in cc)

pub not_foreign : (e : Error) (fault : OpenFault) → IsOpenFaultOf e fault → ¬ (fault ≡ NotOurs)
not_foreign e fault (inl memory) is = absurd (let m = memory.0 in cc)
not_foreign e fault (inr disk) is = absurd (let d = disk.0 in cc)

pub disk_of_open_fault : (e : Error) (fault : OpenFault) → IsOpenFaultOf e fault → fault ≡ Disk → IsTrue (is_disk_fault e)
disk_of_open_fault e fault (inl memory) is = absurd (let m = memory.0 in cc)
disk_of_open_fault e fault (inr disk) is = disk.1

abbrev pub opened_ok : Result (Unit {0}) OpenFault
opened_ok = Ok tt

abbrev pub made_ok : Result (Unit {0}) Error
made_ok = Ok tt

abbrev pub open_refused : (X : Type 0) → OpenFault → Result X OpenFault
open_refused X fault = Err fault

-- the result with this error
abbrev pub failed_with : (X : Type 0) → Error → Result X Error
failed_with X e = Err e

module _ {X Y : Type 0} (Before : State → Type 0) (Made : Database → Type 0) (Leaves : Trees → Type 0) (old new : State) (auto : old.in_transaction ≡ false) (leaves : (db : Trees) → LeavesMade (Before (begin (without_limit old))) Made db → Leaves db) where
  pub over_made : (x : X) (y : Y) → IsWholeOrNothing Before Made (without_limit old) new (Ok x) → TakesOver Leaves old new (Ok y)
  over_made x y w = record {
    unlimited = w.survives.limit;
    autocommit = λ _. w.ended;
    ended = w.ended;
    live = w.live;
    shown = λ clean. let h = w.shown clean in (h.0, h.1);
    refused = λ _ _. tt;
    cause = λ _ is. absurd cc;
    survives = survives_weaker (without_limit old) new _ Leaves (λ _. leaves) w.survives;
  }

  pub over_failed : (e : Error) (fault : OpenFault) → IsOpenFaultOf e fault → IsWholeOrNothing Before Made (without_limit old) new (failed_with X e) → TakesOver Leaves old new (open_refused Y fault)
  over_failed e fault reported w = record {
    unlimited = w.survives.limit;
    autocommit = λ _. w.ended;
    ended = tt;
    live = w.live;
    shown = λ _. tt;
    refused = w.none;
    cause = λ clean is. let same : fault ≡ Disk = cc in w.fault clean (disk_of_open_fault e fault reported same);
    survives = survives_weaker (without_limit old) new _ Leaves (λ _. leaves) w.survives;
  }

module _ (old new : State) (auto : old.in_transaction ≡ false) (has : old.now.schema ≡ no_schema) where
  creation_ready : IsMaking no_schema (begin (without_limit old))
  creation_ready = record { schema = has; unlimited = refl; inside = refl }

  creation_leaves : (db : Trees) → LeavesMade (IsMaking no_schema (begin (without_limit old))) IsNewDatabase db → Holds db empty_content
  creation_leaves db h = let it = h creation_ready in subst (λ d. Holds d empty_content) (sym it.2) it.1.rows

  pub created : IsWholeOrNothing (IsMaking no_schema) IsNewDatabase (without_limit old) new made_ok → Creates old new opened_ok
  created w = record {
    over = over_made (IsMaking no_schema) IsNewDatabase (λ db. Holds db empty_content) old new auto creation_leaves tt tt w;
    made = λ clean. let h = w.all clean creation_ready in (record { schema = has; autocommit = auto }, record { ours = h.ours; idle = (w.shown clean).1; rows = h.rows }, h.alone);
    known = λ is. absurd cc;
    undamaged = λ is. absurd cc;
  }

  pub not_created : (e : Error) (fault : OpenFault) → IsOpenFaultOf e fault → IsWholeOrNothing (IsMaking no_schema) IsNewDatabase (without_limit old) new (failed_with (Unit {0}) e) → Creates old new (open_refused (Unit {0}) fault)
  not_created e fault reported w = record {
    over = over_failed (IsMaking no_schema) IsNewDatabase (λ db. Holds db empty_content) old new auto creation_leaves e fault reported w;
    made = λ _. tt;
    known = λ is. absurd (not_foreign e fault reported (let same : fault ≡ NotOurs = cc in same));
    undamaged = λ is. not_damaged e fault reported (let same : fault ≡ Damaged = cc in same);
  }
