-- Changes put in one transaction.
use Rattle.std.proofs.Common.{◌≡◌, List, Ok, Err, Result, None, OnOk, IsTrue, refl, sym, subst}
use Rattle.toll_sql.proofs.Common.{survives_weaker, State, Survives, Error, Change, IsWholeOrNothing, begin, Applies, HasApplied, IsApplied, IsOurs, IsReady, LeavesPut, MakesPuts, PutsAll}

pub applied_all : (changes : List Change) (old new : State) → MakesPuts (PutsAll changes) old new → IsApplied changes old.now new.now
applied_all changes old new h = record { put = h.put; ours = h.ready.ours; schema = h.schema }

module _ (changes : List Change) (old new : State) {X : Type 0} (r : Result X Error) (w : IsWholeOrNothing IsReady (IsApplied changes old.now) old new r) where
  apply_ready : IsOurs old.now → old.step_limit ≡ None → IsReady (begin old)
  apply_ready ours free = record { ours = ours; unlimited = free; inside = refl }

  has : (q : Result X Error) → OnOk q (IsApplied changes old.now new.now) → OnOk q (IsTrue new.is_open × (new.now ≡ new.committed)) → OnOk q (HasApplied changes old new)
  has (Ok x) it shown = (it, shown.0, shown.1)
  has (Err e) it shown = tt

  pub change_applies : Applies changes old new r
  change_applies clean ours free = has r (w.all clean (apply_ready ours free)) (w.shown clean)

  pub leaves_put : Survives old new (LeavesPut changes old)
  leaves_put = survives_weaker old new _ (LeavesPut changes old) (λ _ db h ours free. (let it = h (apply_ready ours free) in subst (PutsAll changes old.now.trees) (sym it.2) it.1.put)) w.survives
