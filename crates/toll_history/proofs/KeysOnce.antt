-- A key has one movement, and a voided key an actual.
use Rattle.std.proofs.Common.{◌≡◌, ◌+◌, Bool, true, false, ◌||◌, cond, Option, Some, None, is_some, List, ◌∷◌, refl, sym, ap, ◌∙◌, arith}
use Rattle.toll_history.proofs.Common.{false≢true, AllByRecursion, not-false, Bytes, same_bytes, count, or_else, is_some_where, MoveRow, both, and_is, same_bytes-exact, same_bytes-refl, Action, Record, Void, by, History, acts, Movement, has_move_key, movement_of, movements, voided_in, Accepted, IsLawful, IsValidAction, verdict, is_actual, has_this_key}
use Rattle.toll_history.proofs.Options.{not_both}
use Rattle.toll_history.proofs.Passed.{accepted_passes}
use Rattle.toll_history.proofs.Acts.{along_acts}
use Rattle.toll_history.proofs.Found.{movement_of-recorded, movement_of-kept, key_is_new}
use Rattle.toll_history.proofs.EachMove.{each_move}

-- ---- each movement is the one that its key finds

finds_itself : (H : History) (o : Bytes) (row : MoveRow) → movement_of (acts o (by o (Record row) ∷ H)) row.key ≡ Some row
finds_itself H o row = movement_of-recorded H o row o row.key ∙ ap (λ b. cond b (Some row) (movement_of (acts o H) row.key)) (and_is _ _ (same_bytes-refl o) (same_bytes-refl row.key))

still_found : (H : History) (o : Bytes) (a : Action) → verdict H (by o a) ≡ Accepted → (m : Movement) → movement_of (acts m.0 H) m.1.key ≡ Some m.1 → movement_of (acts m.0 (by o a ∷ H)) m.1.key ≡ Some m.1
still_found H o (Record row) accepted m is = movement_of-recorded H o row m.0 m.1.key ∙
    elim (has_move_key m.0 m.1.key (o, row)) as (λ b. has_move_key m.0 m.1.key (o, row) ≡ b → cond b (Some row) (movement_of (acts m.0 H) m.1.key) ≡ Some m.1) [
      | true ↦ λ hit.
          let parts = both (same_bytes m.0 o) (same_bytes m.1.key row.key) hit in
          not_both (movement_of (acts m.0 H) m.1.key) m.1 ((λ i. movement_of (acts (same_bytes-exact m.0 o parts.0 i) H) (same_bytes-exact m.1.key row.key parts.1 i)) ∙ key_is_new H o row accepted) is
      | false ↦ λ miss. is
    ] refl
still_found H o a accepted m is = movement_of-kept H o a m.0 m.1.key refl ∙ is

pub every_key_found : (H : History) → IsLawful H → AllByRecursion (λ m. movement_of (acts m.0 H) m.1.key ≡ Some m.1) (movements H)
every_key_found = each_move (λ H m. movement_of (acts m.0 H) m.1.key ≡ Some m.1) (λ H o row lawful valid accepted. finds_itself H o row) still_found

-- ---- no other has its key

module _ (o key : Bytes) where
  -- As many movements have the key as a search for it finds.
  abbrev IsFoundOnce : List Action → Type 0
  IsFoundOnce own = count (has_this_key key) own ≡ cond (is_some (movement_of own key)) 1 0

  key_once_step : (H : History) (a : Action) → IsLawful H → IsValidAction a → verdict H (by o a) ≡ Accepted → IsFoundOnce (acts o H) → IsFoundOnce (a ∷ acts o H)
  key_once_step H (Record row) lawful valid accepted once =
      elim (same_bytes key row.key) as (λ b. same_bytes key row.key ≡ b → cond b 1 0 + count (has_this_key key) (acts o H) ≡ cond (is_some (or_else (cond b (Some row) None) (movement_of (acts o H) key))) 1 0) [
        | true ↦ λ hit.
            let none : movement_of (acts o H) key ≡ None = ap (movement_of (acts o H)) (same_bytes-exact key row.key hit) ∙ key_is_new H o row accepted in
            let zero : count (has_this_key key) (acts o H) ≡ 0 = once ∙ ap (λ x. cond (is_some x) 1 0) none in
            omega arith
        | false ↦ λ miss. omega arith
      ] refl
  key_once_step H a lawful valid accepted once = omega arith

  pub found_once : (H : History) → IsLawful H → IsFoundOnce (acts o H)
  found_once = along_acts IsFoundOnce o refl key_once_step

  -- ---- a voided key has a movement, which is an actual

  abbrev IsVoidOfActual : List Action → Type 0
  IsVoidOfActual own = voided_in own key ≡ true → is_some_where (λ row. is_actual row.what) (movement_of own key) ≡ true

  some_where_none : {X Y : Type 0} (p : X → Bool) (x : Option X) → x ≡ None → is_some_where p x ≡ true → Y
  some_where_none p x none h = absurd (false≢true (ap (is_some_where p) (sym none) ∙ h))

  void_step : (H : History) (a : Action) → IsLawful H → IsValidAction a → verdict H (by o a) ≡ Accepted → IsVoidOfActual (acts o H) → IsVoidOfActual (a ∷ acts o H)
  void_step H (Record row) lawful valid accepted before voided =
      elim (same_bytes key row.key) as (λ b. same_bytes key row.key ≡ b → is_some_where (λ (r : MoveRow). is_actual r.what) (or_else (cond b (Some row) None) (movement_of (acts o H) key)) ≡ true) [
        | true ↦ λ hit. some_where_none _ (movement_of (acts o H) key) (ap (movement_of (acts o H)) (same_bytes-exact key row.key hit) ∙ key_is_new H o row accepted) (before voided)
        | false ↦ λ miss. before voided
      ] refl
  void_step H (Void k) lawful valid accepted before voided =
      elim (same_bytes k key) as (λ b. same_bytes k key ≡ b → (b || voided_in (acts o H) key) ≡ true → is_some_where (λ (r : MoveRow). is_actual r.what) (movement_of (acts o H) key) ≡ true) [
        | true ↦ λ hit voided. ap (λ x. is_some_where (λ (r : MoveRow). is_actual r.what) (movement_of (acts o H) x)) (sym (same_bytes-exact k key hit)) ∙ not-false _ (accepted_passes H o (Void k) accepted 0)
        | false ↦ λ miss voided. before voided
      ] refl voided
  void_step H a lawful valid accepted before voided = before voided

  pub void_of_actual : (H : History) → IsLawful H → IsVoidOfActual (acts o H)
  void_of_actual = along_acts IsVoidOfActual o (λ voided. absurd (false≢true voided)) void_step
