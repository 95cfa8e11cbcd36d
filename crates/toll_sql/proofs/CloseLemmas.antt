-- Why files couldn't be closed.
use Rattle.std.proofs.Common.{◌≡◌, ◌⊎◌, inl, inr, false, true, IsTrue, sym, ap, ◌∙◌}
use Rattle.sqlite.specs.Files.{ExcusesClose, FailsToClose, IsClosed}
use Rattle.toll_sql.proofs.Common.{Held, store_error, Error, IsClean, StoreError, OutOfMemory, Broken, Unstorable, KeepFault, Memory, Disk, is_disk_fault, IsUnclosed}
use Rattle.sqlite.specs.Disk.{MoreFaults}
use Rattle.sqlite_store.specs.FileStore.{faults, view}
use Rattle.sqlite_store.specs.declared.store.FileStore.{FileStore}

module _ {D : Type 0} {g : _} (conn : Held (FileStore D g)) (last : FileStore D g) where
  excused : (cause : StoreError) → IsTrue (is_disk_fault (store_error cause)) → ExcusesClose conn last cause → ((view conn.store).is_open ≡ false) ⊎ MoreFaults (faults conn.store) (faults last)
  excused OutOfMemory disk h = absurd (let f : false ≡ true = disk in cc)
  excused Broken disk h = h
  excused Unstorable disk h = absurd h
  excused _ disk h = inr h

  pub unclosed : (e : Error) (fault : KeepFault) → ((fault ≡ Memory) × (is_disk_fault e ≡ false)) ⊎ ((fault ≡ Disk) × IsTrue (is_disk_fault e)) → IsClosed conn last → (IsClean (view last) → FailsToClose conn last e) → IsUnclosed conn last fault
  unclosed e fault reported closed fails = record {
    closed = closed;
    known = elim reported [ inl m ↦ inl m.0 | inr d ↦ inr d.0 ];
    cause = λ is clean. elim reported [
      | inl m ↦ absurd (let no : Memory ≡ Disk = sym m.0 ∙ is in cc)
      | inr d ↦ (let f = fails clean in excused f.0 (sym (ap is_disk_fault f.1) ∙ d.1) f.2)
    ];
  }
