-- The effect of each call that queries the store and writes nothing.
use Rattle.std.specs.Prelude.{◌≡◌, ◌≢◌, Bool, true, false, IsTrue, Result, Ok, Err, IfErr, OnOk, is_err}
use Rattle.toll_sql.specs.Common.{Database, State, HasCleanDisk, Survives, Trees, Error, Bytes, Slice, Content, KeepFault, Memory, Disk, Damaged, Closed}
use Rattle.toll_sql.specs.Causes.{IsErrorCaused, Reason}
use Rattle.toll_sql.specs.Holds.{Holds}
use Rattle.toll_sql.specs.Stores.{HoldsBy, HoldsPartIn, LiesIdle}
use Rattle.toll_sql.specs.Others.{HasOurs}
use Rattle.toll_sql.specs.Schema.{is_owned}
use Rattle.toll_sql.specs.declared.table_kind.TableKind.{TableKind}

-- If the disk has returned what was written to it, P holds of each content that the store held.
abbrev pub ForContentBy : (Trees → Content → Type 0) → State → State → (Content → Type 0) → Type 0
ForContentBy Rows old new P = HasCleanDisk new → (c : Content) → HoldsBy Rows old c → P c

abbrev pub ForContent : State → State → (Content → Type 0) → Type 0
ForContent = ForContentBy Holds

-- If the disk has returned what was written to it, P holds of the slice whose rows these tables held as this owner's, whatever rows they
-- had of others.
abbrev pub ForPart : (TableKind → Bool) → Bytes → State → State → (Slice → Type 0) → Type 0
ForPart is_such o old new P = HasCleanDisk new → (s : Slice) → HoldsPartIn is_such old o s → P s

-- P holds of the slice that all tables held as this owner's.
abbrev pub ForSlice : Bytes → State → State → (Slice → Type 0) → Type 0
ForSlice = ForPart is_owned

-- If the store's tables were ours and the disk has returned what was written to it, P holds of the rows that the store had.
abbrev pub OverOurs : State → State → (Trees → Type 0) → Type 0
OverOurs old new P = HasCleanDisk new → HasOurs old.now.schema → P old.now.trees

-- The same, if the table is divided by owner.
abbrev pub OverOwned : TableKind → State → State → (Trees → Type 0) → Type 0
OverOwned k old new P = is_owned k ≡ true → OverOurs old new P

-- If the store's tables were ours, nothing was pending and the disk has returned what was written to it, P holds of what the store had.
abbrev pub ForIdle : State → State → (Database → Type 0) → Type 0
ForIdle old new P = HasCleanDisk new → HasOurs old.now.schema → old.now ≡ old.committed → P old.now

-- Whatever the call queried and answered, the store's rows stay, and a stop leaves what it left before.
pub record LeavesStore {X E : Type 0} (old new : State) (result : Result X E) : Type 0 where
  -- A store that is open now was open before, and a call that succeeds shows that it is.
  pub live : HasCleanDisk new → IsTrue new.is_open → IsTrue old.is_open
  pub shown : HasCleanDisk new → OnOk result (IsTrue new.is_open)
  pub same : HasCleanDisk new → HasOurs old.now.schema → IsTrue new.is_open → old.now ≡ old.committed → (new.now ≡ old.now) × (new.committed ≡ old.committed)
  pub mode : old.in_transaction ≡ false → new.in_transaction ≡ false
  pub survives : Survives old new (λ db. HasOurs old.now.schema → LiesIdle old → ⊥)

-- A call of one statement: an error of the disk has a cause.
pub record IsQuerying {X : Type 0} (old new : State) (result : Result X Error) : Type 0 where
  pub asks : LeavesStore old new result
  pub cause : HasCleanDisk new → IfErr result (IsErrorCaused old new)

-- A call that reads rows: a fault of the disk has a cause, Closed is never the result, and damage is found only in an open store.
pub record IsLooking {X : Type 0} (old new : State) (result : Result X KeepFault) : Type 0 where
  pub asks : LeavesStore old new result
  pub cause : HasCleanDisk new → result ≡ Err Disk → Reason old new
  pub unclosed : result ≢ Err Closed
  pub damaged : HasCleanDisk new → result ≡ Err Damaged → IsTrue new.is_open

-- The call asked only whether the store is open.
pub record IsFinding (old new : State) (result : Result (Unit {0}) KeepFault) : Type 0 where
  pub looks : IsLooking old new result
  pub undamaged : result ≢ Err Damaged
  pub survives : Survives old new (λ _. ⊥)

-- the result of a call that lacked memory, after which the store was asked whether it is open: Memory, or the fault that was found
abbrev pub memory_or_fault : {X : Type 0} → Result (Unit {0}) KeepFault → Result X KeepFault
memory_or_fault (Ok _) = Err Memory
memory_or_fault (Err fault) = Err fault

-- After Memory the store was asked whether it is open. It isn't known if that lacked memory too.
abbrev pub IsProbedAfter : {X : Type 0} → State → State → Result X KeepFault → Bool → Type 0
IsProbedAfter old new result unsure = (found : Result (Unit {0}) KeepFault) × IsFinding old new found × (result ≡ memory_or_fault found) × (unsure ≡ is_err found)
