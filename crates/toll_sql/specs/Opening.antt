-- Making tables, or adopting those of a store.
use Rattle.std.specs.Prelude.{◌≡◌, ◌≢◌, ◌⊎◌, false, None, List, ℕ, Option, codes, IsTrue, Result, Ok, Err, IfErr, OnOk}
use Rattle.toll_sql.specs.Common.{Database, State, HasCleanDisk, KeepsCommit, Survives, Schema, Trees, Error, SqliteFailure, Content, empty_content}
use Rattle.sqlite.specs.declared.error.ErrorCode.TheVariants as code
use Rattle.toll_sql.specs.Asked.{IsUnreadBy, ShowsMeta, meta_text}
use Rattle.toll_sql.specs.Causes.{IsErrorCaused, Reason, is_disk_fault}
use Rattle.toll_sql.specs.Create.{LeavesMade}
use Rattle.toll_sql.specs.First.{AreFirst, HoldsFirstIn, IsFirst, IsVersionIn, HaveNeitherVersion, HasVersionRow, first_version, meta_rows}
use Rattle.toll_sql.specs.Holds.{Holds, version}
use Rattle.toll_sql.specs.Plain.{no_schema}
use Rattle.toll_sql.specs.Stores.{HoldsIn, IsOurs, LiesIdle, StaysOnErr}
use Rattle.toll_sql.specs.Others.{HasOurs, IsJustOurs}
use Rattle.toll_sql.specs.declared.open_fault.OpenFault.{OpenFault}
use Rattle.toll_sql.specs.declared.open_fault.OpenFault.TheVariants.{Memory, Disk, Damaged, NotOurs}

abbrev pub open_fault_word : OpenFault → List ℕ
open_fault_word Memory = codes "Memory"
open_fault_word Disk = codes "Disk"
open_fault_word Damaged = codes "Damaged"
open_fault_word NotOurs = codes "NotOurs"

-- the store without a limit of steps for its statements
abbrev pub without_limit : State → State
without_limit s = record s { step_limit = None }

-- The store has no tables, and no transaction is open.
pub record IsBlank (s : State) : Type 0 where
  pub schema : s.now.schema ≡ no_schema
  pub autocommit : s.in_transaction ≡ false

-- The effect of a call that takes a store over, whatever it answers.
pub record TakesOver {X : Type 0} (Leaves : Trees → Type 0) (old new : State) (result : Result X OpenFault) : Type 0 where
  pub unlimited : new.step_limit ≡ None
  pub autocommit : old.in_transaction ≡ false → new.in_transaction ≡ false
  pub ended : OnOk result (new.in_transaction ≡ false)
  pub live : HasCleanDisk new → IsTrue new.is_open → IsTrue old.is_open
  -- A call that succeeds shows that the store is open, with nothing pending.
  pub shown : HasCleanDisk new → OnOk result (IsTrue new.is_open × (new.now ≡ new.committed))
  -- A refusal leaves what was there.
  pub refused : StaysOnErr old new result
  pub cause : HasCleanDisk new → result ≡ Err Disk → Reason (without_limit old) new
  pub survives : Survives (without_limit old) new Leaves

-- A call that makes the tables. After it the store holds the empty content, and it succeeds only on a blank store.
pub record Creates {X : Type 0} (old new : State) (result : Result X OpenFault) : Type 0 where
  pub over : TakesOver (λ db. Holds db empty_content) old new result
  pub made : HasCleanDisk new → OnOk result (IsBlank old × HoldsIn new empty_content × IsJustOurs new.now.schema)
  pub known : result ≡ Err NotOurs → ¬ IsBlank old
  pub undamaged : result ≢ Err Damaged

-- The store holds the content, in this version or in version 1.
abbrev pub HoldsEither : State → Content → Type 0
HoldsEither s c = HoldsIn s c ⊎ HoldsFirstIn s c

-- A store of version 1 has its rows in this version, whatever its content is.
pub record LeavesRaised (old : State) (db : Trees) : Type 0 where
  pub first : AreFirst old.now.schema
  pub rows : (c : Content) → HoldsEither old c → Holds db c

-- These are the tables, and `meta` has this version.
pub record IsOfVersion (n : ℕ) (AreTables : Schema → Type 0) (db : Database) : Type 0 where
  pub tables : AreTables db.schema
  pub reported : HasVersionRow n (meta_rows db.trees)

-- The rows of `meta` have this version, but these are not its tables.
pub record IsUnlike (n : ℕ) (AreTables : Schema → Type 0) (db : Database) : Type 0 where
  pub tables : ¬ AreTables db.schema
  pub reported : ShowsMeta (HasVersionRow n) db

-- The rows of `meta` have neither version, or can't be read.
abbrev pub IsForeign : Database → Type 0
IsForeign db = ShowsMeta HaveNeitherVersion db ⊎ IsUnreadBy None db meta_text

-- The reported version is the one in `meta`.
abbrev pub FindsVersion : Database → Option ℕ → Type 0
FindsVersion db reported = ShowsMeta (λ rows. IsVersionIn rows reported) db

-- An error of neither memory nor the disk means that the text reads nothing.
abbrev pub IsUnreadFor : (limit : Option ℕ) → Database → Error → Type 0
IsUnreadFor limit db e = e ≢ SqliteFailure code.OutOfMemory → is_disk_fault e ≡ false → IsUnreadBy limit db meta_text

-- A call that adopts the tables. After it they are ours, and hold the content that they held.
pub record Adopts {X : Type 0} (old new : State) (result : Result X OpenFault) : Type 0 where
  pub over : TakesOver (LeavesRaised old) old new result
  pub known_as : HasCleanDisk new → OnOk result (IsOfVersion version HasOurs old.now ⊎ IsOfVersion first_version AreFirst old.now)
  -- Damaged: the version is one of ours, but the tables aren't those of it. NotOurs: there is no such version.
  pub damaged : HasCleanDisk new → result ≡ Err Damaged → IsUnlike version HasOurs old.now ⊎ IsUnlike first_version AreFirst old.now
  pub foreign : HasCleanDisk new → result ≡ Err NotOurs → IsTrue old.in_transaction ⊎ IsForeign old.now
  pub ours : HasCleanDisk new → IsOurs old.now ⊎ IsFirst old.now → OnOk result (IsOurs new.now × HasVersionRow version (meta_rows new.now.trees))
  -- Tables of this version stay unchanged, and so does what others have made beside them.
  pub stays : HasCleanDisk new → HasOurs old.now.schema → OnOk result (new.now ≡ old.now)
  pub raised : HasCleanDisk new → IsFirst old.now → OnOk result (IsJustOurs new.now.schema)
  pub holds : HasCleanDisk new → (c : Content) → HoldsEither old c → OnOk result (HoldsIn new c)
  pub known : HasCleanDisk new → old.in_transaction ≡ false → (c : Content) → HoldsEither old c → (result ≢ Err NotOurs) × (result ≢ Err Damaged)

-- A call that leaves everything unchanged, whatever it answers.
pub record LeavesTables {X : Type 0} (old new : State) (result : Result X Error) : Type 0 where
  pub ended : new.in_transaction ≡ false
  pub same : HasCleanDisk new → IsTrue new.is_open → (new.now ≡ old.now) × (new.committed ≡ old.committed)
  pub live : HasCleanDisk new → IsTrue new.is_open → IsTrue old.is_open
  pub fault : HasCleanDisk new → IfErr result (IsErrorCaused old new)
  pub survives : Survives old new (λ _. ⊥)

-- A query within a transaction that has written nothing.
pub record IsQueryInside {X : Type 0} (old new : State) (result : Result X Error) : Type 0 where
  pub kept : HasCleanDisk new → IsTrue old.in_transaction → LiesIdle old → KeepsCommit old new
  pub fault : HasCleanDisk new → IfErr result (IsErrorCaused old new)
  pub survives : Survives old new (λ _. ⊥)

-- A call that changes tables of which Found holds so that Brought holds of the new ones.
pub record Brings {X : Type 0} (Found : Database → Type 0) (Brought : Database → Database → Type 0) (old new : State) (result : Result X OpenFault) : Type 0 where
  pub ended : new.in_transaction ≡ false
  pub live : HasCleanDisk new → IsTrue new.is_open → IsTrue old.is_open
  pub all : HasCleanDisk new → Found old.now → old.step_limit ≡ None → OnOk result (Brought old.now new.now)
  pub shown : HasCleanDisk new → OnOk result (IsTrue new.is_open × (new.now ≡ new.committed))
  pub none : StaysOnErr old new result
  pub cause : HasCleanDisk new → result ≡ Err Disk → Reason old new
  pub known : (result ≢ Err NotOurs) × (result ≢ Err Damaged)
  pub survives : Survives old new (LeavesMade (Found old.now × (old.step_limit ≡ None)) (Brought old.now))

-- the results of a call that makes a keep
abbrev pub succeeds : Result (Unit {0}) OpenFault
succeeds = Ok tt

abbrev pub open_refusal : OpenFault → Result (Unit {0}) OpenFault
open_refusal fault = Err fault
