-- Calls within a transaction that write, one and several.
use Rattle.std.proofs.Common.{◌≡◌, inl, inr, ℕ, false, List, Ok, Err, Result, IfErr, OnOk, IsTrue, ap, sym, subst, arith}
use Rattle.toll_sql.proofs.Common.{cases_Bool, on_ok_weaker, inside_keeps, keeps_then, survives_then, Row, State, ExecutesInside, KeepsCommit, Survives, HasCleanDisk, Error, IsErrorCaused, IsTransactionStep}
use Rattle.toll_sql.proofs.CauseLemmas.{exec_fault, reason_before}

-- one statement
module _ (Before : State → Type 0) (Makes : State → State → Type 0) (sql : List ℕ) (params : Row) (old new : State) where
  step_makes : (r : Result ℕ Error) → ((count : ℕ) → new.step_limit ≡ old.step_limit → Before old → ExecutesInside 0 sql params old new (Ok count) → Makes old new) → new.step_limit ≡ old.step_limit → Before old
      → ExecutesInside 0 sql params old new r → OnOk r (Makes old new)
  step_makes (Err e) does limit before h = tt
  step_makes (Ok count) does limit before h = does count limit before h

  step_inside : (r : Result ℕ Error) → ExecutesInside 0 sql params old new r → OnOk r (IsTrue new.in_transaction)
  step_inside (Err e) h = tt
  step_inside (Ok count) h = h.1.mode

  step_kept : (r : Result ℕ Error) → (old.in_transaction ≡ false → new ≡ old) → (IsTrue old.in_transaction → ExecutesInside 0 sql params old new r) → KeepsCommit old new
  step_kept r outside runs = elim (cases_Bool old.in_transaction) [
    | inl within ↦ inside_keeps old new 0 false sql params r (runs within)
    | inr without ↦ (let same = outside without in record { was_open = λ live. subst (λ s. IsTrue s.is_open) same live; committed = λ live. ap (λ (s : State). s.committed) same })
  ]

  pub one_step : (r : Result ℕ Error) → ((count : ℕ) → new.step_limit ≡ old.step_limit → Before old → ExecutesInside 0 sql params old new (Ok count) → Makes old new) → (old.in_transaction ≡ false → new ≡ old)
      → (HasCleanDisk new → IsTrue old.in_transaction → ExecutesInside 0 sql params old new r) → Survives old new (λ _. ⊥) → IsTransactionStep Before Makes old new r
  one_step r does outside runs survives = record {
    makes = λ clean before within. step_makes r does survives.limit before (runs clean within);
    inside = λ clean within. step_inside r (runs clean within);
    fault = λ clean within. exec_fault old new sql params r (runs clean within);
    kept = λ clean. step_kept r outside (runs clean);
    survives = survives;
  }

-- The first call stopped, so the second is not made.
pub stopped_at_first : {X Y : Type 0} (Before : State → Type 0) (First Makes : State → State → Type 0) (a b : State) (e : Error) (r : Result X Error) (q : Result Y Error) → r ≡ Err e → q ≡ Err e → IsTransactionStep Before First a b r → IsTransactionStep Before Makes a b q
stopped_at_first {X} {Y} Before First Makes a b e r q one two s =
    let f = subst (λ (x : Result X Error). IfErr x (IsErrorCaused a b)) one in
    subst (IsTransactionStep Before Makes a b) (sym two) (record { makes = λ _ _ _. tt; inside = λ _ _. tt; fault = λ clean within. f (s.fault clean within); kept = s.kept; survives = s.survives })

-- two calls, one after the other
module _ {X Y : Type 0} (Before Between : State → Type 0) (First Second Makes : State → State → Type 0) (a b c : State) (x : X) where
  step_made : (r : Result Y Error) → (Second b c → Makes a c) → OnOk r (Second b c) → OnOk r (Makes a c)
  step_made (Ok y) join h = join h
  step_made (Err e) join h = tt

  step_caused : (r : Result Y Error) → Survives a b (λ _. ⊥) → Survives b c (λ _. ⊥) → HasCleanDisk c → IfErr r (IsErrorCaused b c) → IfErr r (IsErrorCaused a c)
  step_caused (Ok y) s t clean h = tt
  step_caused (Err e) s t clean h = λ disk. reason_before a b c (λ _. ⊥) (λ _. ⊥) s t clean (h disk)

  pub step_in_turn : (r : Result Y Error) → (Before a → First a b → Between b) → (First a b → Second b c → Makes a c) → IsTransactionStep Before First a b (Ok x) → IsTransactionStep Between Second b c r → IsTransactionStep Before Makes a c r
  step_in_turn r ready join s t =
      let late = λ (clean : HasCleanDisk c). let before : HasCleanDisk b = omega (arith, clean, t.survives.clean) in before in
      record {
        makes = λ clean before within. let one = s.makes (late clean) before within in step_made r (join one) (t.makes clean (ready before one) (s.inside (late clean) within));
        inside = λ clean within. t.inside clean (s.inside (late clean) within);
        fault = λ clean within. step_caused r s.survives t.survives clean (t.fault clean (s.inside (late clean) within));
        kept = λ clean. keeps_then a b c (s.kept (late clean)) (t.kept clean);
        survives = survives_then a b c (λ _. ⊥) (λ _. ⊥) (λ _. ⊥) (λ _ _ h. h) (λ _ _ h. h) s.survives t.survives;
      }

pub step_from_more : {X : Type 0} (Before More : State → Type 0) (Makes : State → State → Type 0) (a b : State) (r : Result X Error) → (More a → Before a) → IsTransactionStep Before Makes a b r → IsTransactionStep More Makes a b r
step_from_more Before More Makes a b r less s = record { makes = λ clean more within. s.makes clean (less more) within; inside = s.inside; fault = s.fault; kept = s.kept; survives = s.survives }

-- The rest of the answer has no effect.
pub step_with_other_answer : {X Y : Type 0} (Before : State → Type 0) (Makes : State → State → Type 0) (a b : State) (x : X) (y : Y) → IsTransactionStep Before Makes a b (Ok x) → IsTransactionStep Before Makes a b (Ok y)
step_with_other_answer Before Makes a b x y s = record { makes = s.makes; inside = s.inside; fault = λ _ _. tt; kept = s.kept; survives = s.survives }

pub makes_more : {X : Type 0} (Before : State → Type 0) (First Makes : State → State → Type 0) (a b : State) (r : Result X Error) → (Before a → First a b → Makes a b) → IsTransactionStep Before First a b r → IsTransactionStep Before Makes a b r
makes_more Before First Makes a b r so s = record { makes = λ clean before within. on_ok_weaker r (so before) (s.makes clean before within); inside = s.inside; fault = s.fault; kept = s.kept; survives = s.survives }
